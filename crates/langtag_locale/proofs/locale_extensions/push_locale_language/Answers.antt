use Rattle.std.proofs.lemmas.Bool.Decides.{nat_tests}
use Rattle.std.proofs.Common.{arith}
use Rattle.langtag_keyword.proofs.Common.{sym, ap, ◌∙◌, pushes_ended, segments_left, both}
use Rattle.langtag_locale.specs.LocaleForm.{transform_language_form}
use Rattle.langtag_keyword.proofs.KeywordLaws.{language-some}
use Rattle.langtag_locale.proofs.locale_extensions.push_locale_language.Goals as goal

pub push_locale_language_id-requires : goal.push_locale_language_id-requires
push_locale_language_id-requires c = grind (arith, nat_tests, language-some c.in-Some.language.now, c.in-Some.is, c.preceding.ensures, both, c.requires.allowed)

pub returns-in-Some : goal.returns-in-Some
returns-in-Some c = grind (arith, nat_tests, c.in-Some.is, c.preceding.ensures, c.push_locale_language_id.ensures)

pub returns-in_default : goal.returns-in_default
returns-in_default c = pushes_ended _ _ (ap transform_language_form (sym c.preceding.ensures ∙ ap segments_left c.in_default.is))
