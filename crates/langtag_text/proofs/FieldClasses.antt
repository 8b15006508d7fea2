-- A subtag is a field of its class.
use Rattle.std.proofs.lemmas.Bool.Decides.{nat_tests}
use Rattle.std.proofs.Common.{◌≡◌, ℕ, true, List, arith}
use Rattle.langtag_scan.specs.Class.{is_primary, is_script, is_region}
use Rattle.langtag_text.specs.FieldClasses.{is_language_field, is_script_field, is_region_field}

pub from_primary : (text : List ℕ) → is_primary text ≡ true → is_language_field text ≡ true
from_primary text is = grind (arith, nat_tests)

pub from_script : (text : List ℕ) → is_script text ≡ true → is_script_field text ≡ true
from_script text is = grind (arith, nat_tests)

pub from_region : (text : List ℕ) → is_region text ≡ true → is_region_field text ≡ true
from_region text is = grind (arith, nat_tests)
