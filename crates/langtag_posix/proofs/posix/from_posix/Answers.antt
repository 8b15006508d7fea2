use Rattle.std.proofs.Common.{sym, ap, subst, ◌∙◌}
use Rattle.langtag_text.specs.RecommendedCase.{recommended_text}
use Rattle.langtag_posix.proofs.Definitions.{IsFormOfName, with_said, text_of_name}
use Rattle.langtag.proofs.FormLaws.{form_is_tag, one_form}
use Rattle.langtag_posix.proofs.PosixLaws.{said_well_formed}
use Rattle.langtag_posix.proofs.posix.from_posix.Goals as goal

pub tag_of-tag-requires : goal.tag_of-tag-requires
tag_of-tag-requires c =
    let name = c.as_bytes.result.now in
    let is = rw c.in-Some.is at c.in_ok-bytes.ensures.tag in
    form_is_tag (with_said name) (said_well_formed name) (text_of_name name) c.in-Some.bytes.items is.0.read.tag is.1

pub returns-clause-one : goal.returns-clause-one
returns-clause-one c = λ form other.
    let name = c.args.name.now in
    let is = rw c.in-Some.is at c.in_ok-bytes.ensures.tag in
    let said = subst (λ n. IsFormOfName n c.in-Some.bytes.items) c.as_bytes.ensures.value is.1 in
    other.case ∙ ap recommended_text (one_form (with_said name) (text_of_name name) other.form _ other.said said) ∙ sym (c.make_recommended_case.ensures.case ∙ ap recommended_text c.tag_of-tag.ensures)
