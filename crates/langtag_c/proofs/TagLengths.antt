-- A part that is set is one by its text, since no tag is empty. The texts of parts are UTF-8.
use Rattle.langtag_keyword.proofs.Common.{◌≡◌, ℕ, ◌≤◌, List, [], ◌∷◌, length, arith, Option, None, Some, unwrap_or, nat_tests, extension_flat, of_primary, IsSubtag, of_variant, AllByRecursion, flat_map, IsUtf8, common_steps, is_extended, is_variant, join, each_subtag, option_map}
use Rattle.langtag_scan.proofs.Prelude.{MatchOption, IsUtf8-from_ascii}
use Rattle.langtag_scan.proofs.Laws.{of_extended, of_region, of_script, IsAscii-private, IsAscii-spelled, tag_private}
use Rattle.langtag_private.proofs.Rules.{IsPrivate-from_test}
use Rattle.langtag_extension.proofs.Rules.{all_subtags-flat}
use Rattle.langtag.specs.Text.{part_text}
use Rattle.langtag_parent.proofs.Chains.{some_tag}
use Rattle.langtag.specs.declared.part.Part.{Part}
use Rattle.langtag_c.specs.NumberedParts.{PartName, language, script, region, variants, extensions, private_use, IsPartText, IsTextOf, SetsNamedPart}
use Rattle.langtag_c.specs.NumberedParts.{name_of, part_numbered}
use Rattle.langtag_keyword.specs.Transform.{some_text}
use Rattle.langtag_cldr.proofs.RowLaws.{utf8_name}
use Rattle.langtag.specs.Edit as typed

-- ---- what a part does

filled : (text : List ℕ) → 1 ≤ length text → some_text text ≡ Some text
filled text some = grind (arith, nat_tests)

-- a part that may be there is so by its text, since none of them is empty
same_part :
    {A : Type 0} (text_of : A → List ℕ) → ((x : A) → 1 ≤ length (text_of x)) → (part : Option A) (text : List ℕ) →
    unwrap_or (option_map text_of part) [] ≡ text → option_map text_of part ≡ some_text text
same_part text_of some part text is = grind (arith, nat_tests, filled)

pub part_sets : (p : Part) (text old new : List ℕ) → part_text p ≡ text → typed.SetsPart p old new → SetsNamedPart (name_of p) text old new
part_sets p text old new is set = grind (arith, common_steps, same_part, of_script, of_region, some_tag, tag_private, IsPrivate-from_test)

-- ---- bytes that are not UTF-8 are no text of a part

pub IsUtf8-joined : (ss : List (List ℕ)) (text : List ℕ) → AllByRecursion IsSubtag ss → join ss ≡ text → IsUtf8 text
IsUtf8-joined ss text each joined = IsUtf8-from_ascii text (IsAscii-spelled text ss joined each)

IsUtf8-text : (p : PartName) (text : List ℕ) → IsTextOf p text → IsUtf8 text
IsUtf8-text language text (primary, extended, spells) =
    IsUtf8-joined (primary ∷ extended) text (of_primary primary spells.first, each_subtag is_extended of_extended extended spells.others) spells.joined
IsUtf8-text script text is = utf8_name text (grind (arith, common_steps, of_script text))
IsUtf8-text region text is = utf8_name text (grind (arith, common_steps, of_region text))
IsUtf8-text variants text (members, spells) = IsUtf8-joined members text (each_subtag is_variant of_variant members spells.members) spells.joined
IsUtf8-text extensions text (members, spells) =
    IsUtf8-joined (flat_map extension_flat members) text (all_subtags-flat members spells.members) spells.joined
IsUtf8-text private_use text is = grind (arith, common_steps, utf8_name [], IsUtf8-from_ascii text, IsAscii-private text)

IsUtf8-named : (p : Option PartName) (text : List ℕ) → MatchOption p ⊥ (λ part. IsTextOf part text) → IsUtf8 text
IsUtf8-named None text is = absurd is
IsUtf8-named (Some p) text is = IsUtf8-text p text is

pub IsUtf8-part : (number : ℕ) (text : List ℕ) → IsPartText number text → IsUtf8 text
IsUtf8-part number text is = IsUtf8-named (part_numbered number) text is

pub ruleset utf8_parts = (IsUtf8-part)
