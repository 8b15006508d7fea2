use Rattle.std.proofs.Common.{IfOk, sym, subst}
use Rattle.std.proofs.lemmas.Result.{IfOk-weaker}
use Rattle.langtag.proofs.KeptFound.{found_kept}
use Rattle.langtag.specs.Text.{lang_tag_text, lang_tag_buf_text}
use Rattle.langtag_likely.specs.Maximal.{IsMinimalForm, minimal_record}
use Rattle.langtag.proofs.FormLaws.{form_is_tag, one_form}
use Rattle.langtag_likely.proofs.GoodForms.{minimal_well_formed, minimal_settled, alike_minimal, maximal_undone, minimal_tells, minimal_keeps}
use Rattle.langtag_likely.proofs.forms.minimized.Goals as goal

pub build-requires-clause-tag : goal.build-requires-clause-tag
build-requires-clause-tag c = form_is_tag minimal_record minimal_well_formed _ _ (found_kept _ _ c.args.tag.kept_found).tag c.minimal_pieces.ensures.form

pub returns : goal.returns
returns c =
    let old = lang_tag_text c.args.tag in
    let made : IfOk c.build.result (λ form. IsMinimalForm old (lang_tag_buf_text form)) =
    IfOk-weaker c.build.result _ _ (λ form same. subst (IsMinimalForm old) (sym same) c.minimal_pieces.ensures.form) c.build.ensures in
    record {
      minimal = made;
      one = IfOk-weaker c.build.result _ _ (λ form is. λ other is_other. one_form minimal_record old other (lang_tag_buf_text form) is_other is) made;
      settled = IfOk-weaker c.build.result _ _ (λ form is. minimal_settled old (lang_tag_buf_text form) is) made;
      alike = IfOk-weaker c.build.result _ _ (λ form is. alike_minimal old (lang_tag_buf_text form) is) made;
      undoes = IfOk-weaker c.build.result _ _ (λ form is. maximal_undone old (lang_tag_buf_text form) is) made;
      tells = IfOk-weaker c.build.result _ _ (λ form is. minimal_tells old (lang_tag_buf_text form) is) made;
      others = IfOk-weaker c.build.result _ _ (λ form is. minimal_keeps old (lang_tag_buf_text form) is) made;
    }
