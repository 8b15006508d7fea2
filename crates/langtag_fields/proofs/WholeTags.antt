-- What the registry puts in the place of a subtag or a tag is registered, and the Preferred-Value of a whole tag is a normal tag of a
-- simple record: by computation.
use Rattle.langtag_scan.proofs.Prelude.{◌≡◌, ℕ, ◌-◌, ◌/◌, ◌%◌, ◌<◌, ◌==◌, true, Bool, ◌&&◌, leb, ltb, List, [], ◌∷◌, length, map, get_or, Option, None, Some, IsTrue, IfSome, inl, refl, arith, nat_tests, common_steps, ◌^◌, list_all, option_map_or, bytes_eq, bytes_decides, and_parts, is_none, find}
use Rattle.langtag_scan.specs.Grammar.{fold_byte, are_alike, is_primary, is_letter, are_letters, is_digit, is_script, is_region, is_variant, Record, IsWellFormed, Spells, spell, subtags, IsTag, IsNormal}
use Rattle.langtag_scan.proofs.SubtagLists.{each_from_test}
use Rattle.langtag.specs.Repeat.{repeat}
use Rattle.langtag_text.specs.Numbers.{letter_number}
use Rattle.langtag_fields.specs.declared.tables.TheConstants.{LANGUAGE_BITS}
use Rattle.langtag_fields.specs.Entry.{value_for}
use Rattle.langtag_fields.specs.Fields.{preferred_language, preferred_region, preferred_variant, preferred_tag}
use Rattle.langtag_fields.specs.Registered.{is_registered_language, is_registered_script, is_registered_region, is_registered_variant}
use Rattle.langtag_fields.specs.Subtags.{language_preferred, region_preferred, variant_preferred, tag_preferred, extlang_subtags, script_subtags, region_subtags, variant_subtags}
use Rattle.langtag_fields.proofs.Values.{value_good, value_of_long, found_good, language_bit_at, language_from_bit}

-- ---- what is put in is registered: by computation

-- the table of languages has a bit for it
abbrev pub has_bit : List ℕ → Bool
has_bit text =
    are_letters text
    && (leb 27 (letter_number text)
    && (ltb (letter_number text - 27) 18304
    && (get_or LANGUAGE_BITS ((letter_number text - 27) / 64) 0 / 2 ^ ((letter_number text - 27) % 64) % 2 == 1)))

pub registered_from_bit : (text : List ℕ) → has_bit text ≡ true → is_registered_language text ≡ true
registered_from_bit text h = grind (arith, common_steps, nat_tests, and_parts, language_from_bit text, language_bit_at (letter_number text - 27))

pub new_language_known : (s new : List ℕ) → preferred_language s ≡ Some new → is_registered_language new ≡ true
unfolding preferred_language language_preferred letter_number fold_byte is_letter
new_language_known s new is = registered_from_bit new (value_good has_bit language_preferred s new refl is)

pub extlang_known : (p : List ℕ → Bool) (new : List ℕ) → find p extlang_subtags ≡ Some new → is_registered_language new ≡ true
unfolding extlang_subtags letter_number fold_byte is_letter
extlang_known p new is = registered_from_bit new (found_good p has_bit extlang_subtags new refl is)

pub new_region_known : (s new : List ℕ) → preferred_region s ≡ Some new → is_registered_region new ≡ true
unfolding preferred_region region_preferred is_registered_region region_subtags fold_byte
new_region_known s new is = value_good is_registered_region region_preferred s new refl is

pub new_variant_known : (s new : List ℕ) → preferred_variant s ≡ Some new → is_registered_variant new ≡ true
unfolding preferred_variant variant_preferred is_registered_variant variant_subtags fold_byte
new_variant_known s new is = value_good is_registered_variant variant_preferred s new refl is

-- ---- the Preferred-Value of a whole tag is a normal tag of a simple record: by computation

abbrev simple : List ℕ → Option (List ℕ) → Option (List ℕ) → List (List ℕ) → Record
simple primary script region variants =
    record { primary = primary; extended = []; script = script; region = region; variants = variants; extensions = []; private_use = None }

-- a language, a language with a script, or one with a region and a variant
abbrev of_subtags : List (List ℕ) → Record
of_subtags (primary ∷ []) = simple primary None None []
of_subtags (primary ∷ script ∷ []) = simple primary (Some script) None []
of_subtags (primary ∷ region ∷ variant ∷ []) = simple primary None (Some region) (variant ∷ [])
of_subtags _ = simple [] None None []

abbrev pub record_of : List ℕ → Record
record_of text = of_subtags (subtags text)

abbrev is_spelled : List ℕ → Bool
is_spelled text =
    (is_primary (record_of text).primary && (option_map_or is_script (record_of text).script true
    && (option_map_or is_region (record_of text).region true && list_all is_variant (record_of text).variants)))
    && bytes_eq (spell (record_of text)) text

all_spelled : list_all is_spelled (map (λ e. e.value) tag_preferred) ≡ true
unfolding tag_preferred is_primary is_script is_region is_variant is_letter is_digit
all_spelled = refl

pub if_some_from_test : (test : List ℕ → Bool) (o : Option (List ℕ)) → option_map_or test o true ≡ true → IfSome o (λ s. IsTrue (test s))
if_some_from_test test o h = grind (arith, common_steps)

-- ---- the record of such a text

pub record IsSimple (r : Record) : Type 0 where
  pub extended : r.extended ≡ []
  pub extensions : r.extensions ≡ []
  pub private_use : r.private_use ≡ None

pub simple_record : (text : List ℕ) → IsSimple (record_of text)
simple_record text = grind (arith, common_steps)

well_formed :
    (r : Record) → IsSimple r → IsTrue (is_primary r.primary) → IsTrue (option_map_or is_script r.script true) →
    IsTrue (option_map_or is_region r.region true) → IsTrue (list_all is_variant r.variants) → IsWellFormed r
well_formed r simple p s g v = grind (arith, common_steps, if_some_from_test, each_from_test)

spelled_from_test : (text : List ℕ) → is_spelled text ≡ true → Spells (record_of text) text
spelled_from_test text h = grind (arith, common_steps, and_parts, well_formed, simple_record text, bytes_decides (spell (record_of text)) text)

-- the Preferred-Value of a tag is spelled by its record
pub preferred_spelled : (text new : List ℕ) → preferred_tag text ≡ Some new → Spells (record_of new) new
unfolding preferred_tag
preferred_spelled text new is = spelled_from_test new (value_good is_spelled tag_preferred text new all_spelled is)

pub preferred_is_tag : (text new : List ℕ) → value_for tag_preferred text ≡ Some new → IsTag new
unfolding IsTag IsNormal
preferred_is_tag text new is = inl (record_of new, spelled_from_test new (value_good is_spelled tag_preferred text new all_spelled is))

-- no longer text has one
pub none_longer : (text : List ℕ) → 16 < length text → None ≡ preferred_tag text
unfolding preferred_tag tag_preferred
none_longer text long = value_of_long 16 tag_preferred text long refl

-- ---- its parts are registered

abbrev pub is_whole_valid : List ℕ → Bool
is_whole_valid text =
    has_bit (record_of text).primary
    && (option_map_or is_registered_script (record_of text).script true
    && (option_map_or is_registered_region (record_of text).region true
    && (list_all is_registered_variant (record_of text).variants && is_none (repeat are_alike (record_of text).variants))))

pub whole_valid_of : (text new : List ℕ) → preferred_tag text ≡ Some new → is_whole_valid new ≡ true
unfolding preferred_tag tag_preferred letter_number fold_byte is_letter is_registered_script is_registered_region is_registered_variant script_subtags region_subtags variant_subtags
whole_valid_of text new is = value_good is_whole_valid tag_preferred text new refl is
