-- A tag with other fields, piece by piece.
use Rattle.langtag_scan.proofs.Prelude.{◌≡◌, ℕ, ◌+◌, ◌≤◌, true, List, [], ◌∷◌, ◌++◌, length, drop, arith, append_assoc, rules, codes, flat_map, length-append, append-nil, common_steps, nat_tests}
use Rattle.langtag_scan.specs.Grammar.{Spells, are_alike, ends_of, Record, one_flat, extension_flat, private_part_flat, spell, join}
use Rattle.langtag_scan.specs.declared.ends.Ends.{Ends}
use Rattle.langtag_scan.proofs.Laws.{extended_three, length-join, region_two_three, hyphenated, hyphenated-append, join-append, drop-join, ends_in_order, length-spell}
use Rattle.langtag_text.specs.Fields.{Fields, subtag_of}
use Rattle.langtag_text.specs.FieldClasses.{is_region_field}
use Rattle.langtag.specs.Definitions.{SpellsLanguage}
use Rattle.langtag_text.proofs.Letters.{primary_length, extended_primary}
use Rattle.langtag_cldr.specs.Definitions.{or_other}
use Rattle.langtag_likely.proofs.Definitions.{is_read, put_fields, put_language}

-- ---- the language

-- `und` has no extended subtags
pub und_alone :
    (primary : List ℕ) (extended : List (List ℕ)) (text other : List ℕ) → SpellsLanguage primary extended text → are_alike text (codes "und") ≡ true →
    or_other other text ≡ join (put_language primary extended other ∷ extended)
und_alone primary extended text other spells und = grind (arith, common_steps, primary_length, extended_primary, length-append)

pub short_read : (r : Record) (text : List ℕ) (ends : Ends) → Spells r text → ends ≡ ends_of r → ends.language ≤ 3 → true ≡ is_read r.primary r.extended
short_read r text ends spells is short =
    grind (arith, nat_tests, common_steps, length-join, primary_length, length-append, hyphenated, extended_three)

-- ---- the whole text

rest_of : (r : Record) → drop (ends_of r).region (spell r) ≡ hyphenated (r.variants ++ (flat_map extension_flat r.extensions ++ private_part_flat r.private_use))
rest_of r =
    grind (arith, nat_tests, flat_map extension_flat r.extensions, drop-join r.primary (r.extended ++ (one_flat r.script ++ one_flat r.region)), append_assoc)

-- the language, the script and the region, each with its hyphen, and what stands after the old region
pub put_spelled :
    (r : Record) (f : Fields) (before_script before_region : List ℕ) →
    before_script ++ f.script ≡ hyphenated (one_flat (subtag_of f.script)) → before_region ++ f.region ≡ hyphenated (one_flat (subtag_of f.region)) →
    join (put_language r.primary r.extended f.language ∷ r.extended)
    ++ (before_script ++ (f.script ++ (before_region ++ (f.region ++ (drop (ends_of r).region (spell r) ++ [])))))
    ≡ spell (put_fields r f)
put_spelled r f before_script before_region script_is region_is = grind (arith, append-nil, rest_of, append_assoc, hyphenated-append, join-append)

-- ---- its length

-- the region ends inside the text
pub region_inside : (r : Record) → (ends_of r).region ≤ length (spell r)
region_inside r = grind (arith, ends_in_order r)

subtag-length : (s : List ℕ) → length (hyphenated (one_flat (subtag_of s))) ≤ length s + 1
subtag-length s = grind (arith, append-nil)

put_language-length : (p : List ℕ) (es : List (List ℕ)) (l : List ℕ) → length (put_language p es l) ≤ length p + length l
put_language-length p es l = grind arith

pub region_three : (text : List ℕ) → is_region_field text ≡ true → length text ≤ 3
region_three text good = grind (arith, region_two_three)

-- a tag with other fields is longer by no more than these and two hyphens
pub put_length : (r : Record) (f : Fields) → length (spell (put_fields r f)) ≤ length (spell r) + (length f.language + (length f.script + (length f.region + 2)))
put_length r f = search (rules, put_language-length, subtag-length, length-spell)
