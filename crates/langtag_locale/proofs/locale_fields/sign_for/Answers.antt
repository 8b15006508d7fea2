use Rattle.std.proofs.lemmas.Bool.Decides.{nat_tests}
use Rattle.std.proofs.Common.{arith}
use Rattle.langtag_text.specs.FieldClasses.{is_language_field}
use Rattle.langtag_locale.proofs.LocaleTables.{all_good, found_good}
use Rattle.langtag_locale.proofs.locale_fields.sign_for.Goals as goal

pub returns-clause-in_class : goal.returns-clause-in_class
returns-clause-in_class c = grind (arith, nat_tests, found_good is_language_field, all_good.signs, c.in_ok-alias_for.ensures, c.sign_languages.ensures)
