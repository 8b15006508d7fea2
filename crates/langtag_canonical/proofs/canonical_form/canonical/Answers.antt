use Rattle.std.proofs.lemmas.Result.{IfOk-weaker}
use Rattle.langtag.specs.Text.{lang_tag_text, lang_tag_buf_text}
use Rattle.langtag_canonical.specs.Canonical.{IsCanonicalForm}
use Rattle.langtag_canonical.specs.CanonicalLaws.{HasNoExtlang, IsFormInAnyCase, IsOnlyCanonicalForm}
use Rattle.langtag_canonical.proofs.OneForm.{one_canonical}
use Rattle.langtag_canonical.proofs.CanonicalCase.{same_canonical, no_extlang_canonical}
use Rattle.langtag_canonical.proofs.canonical_form.canonical.Goals as goal

pub returns-clause-one : goal.returns-clause-one
returns-clause-one c =
    let tag = lang_tag_text c.args.tag in
    IfOk-weaker c.form_as_tag.result (λ form. IsCanonicalForm tag (lang_tag_buf_text form)) (λ form. IsOnlyCanonicalForm tag (lang_tag_buf_text form))
    (λ form p. λ other q. one_canonical tag other (lang_tag_buf_text form) q p) c.form_as_tag.ensures

pub returns-clause-any_case : goal.returns-clause-any_case
returns-clause-any_case c =
    let tag = lang_tag_text c.args.tag in
    IfOk-weaker c.form_as_tag.result (λ form. IsCanonicalForm tag (lang_tag_buf_text form)) (λ form. IsFormInAnyCase tag (lang_tag_buf_text form))
    (λ form p. λ other newer alike q. same_canonical tag other (lang_tag_buf_text form) newer alike p q) c.form_as_tag.ensures

pub returns-clause-no_extlang : goal.returns-clause-no_extlang
returns-clause-no_extlang c =
    let tag = lang_tag_text c.args.tag in
    IfOk-weaker c.form_as_tag.result (λ form. IsCanonicalForm tag (lang_tag_buf_text form)) (λ form. HasNoExtlang tag (lang_tag_buf_text form))
    (λ form p. λ valid other. no_extlang_canonical tag (lang_tag_buf_text form) valid other p) c.form_as_tag.ensures
