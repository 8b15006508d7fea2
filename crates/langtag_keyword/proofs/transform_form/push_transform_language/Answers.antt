use Rattle.std.proofs.lemmas.Bool.Decides.{nat_tests}
use Rattle.std.proofs.Common.{arith}
use Rattle.langtag_keyword.proofs.Common.{sym, ap, ◌∙◌, pushes_ended, is_field_key, segments_left, subtags, language_form}
use Rattle.langtag_keyword.proofs.SubtagTexts.{fits-before_key}
use Rattle.langtag_keyword.proofs.transform_form.push_transform_language.Goals as goal

pub push_language_id-requires : goal.push_language_id-requires
push_language_id-requires c = grind (arith, nat_tests, c.preceding.ensures, fits-before_key is_field_key (subtags c.args.text.now) c.requires, c.requires)

pub returns-in-Some : goal.returns-in-Some
returns-in-Some c = grind (arith, nat_tests, c.in-Some.is, c.preceding.ensures, c.push_language_id.ensures)

pub returns-in_default : goal.returns-in_default
returns-in_default c = pushes_ended _ _ (ap language_form (sym c.preceding.ensures ∙ ap segments_left c.in_default.is))
