use Rattle.std.proofs.lemmas.Bool.Decides.{nat_tests}
use Rattle.std.proofs.Common.{arith}
use Rattle.langtag_text.specs.FieldClasses.{is_script_field}
use Rattle.langtag_locale.proofs.LocaleTables.{all_good, found_good}
use Rattle.langtag_locale.proofs.locale_fields.new_script.Goals as goal

pub returns-in-Some-clause-in_class : goal.returns-in-Some-clause-in_class
returns-in-Some-clause-in_class c =
    grind (arith, nat_tests, found_good is_script_field, all_good.scripts, c.alias_for.ensures, c.script_aliases.ensures, c.in-Some.is)
