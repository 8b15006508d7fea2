-- The canonical form of a tag (RFC 5646 section 4.5).
use Rattle.std.specs.Prelude.{◌≡◌, ℕ, ◌==◌, ltb, ◌⊎◌, Bool, List, [], ◌∷◌, length, map, find, Option, None, Some, if◌then◌else◌, unwrap_or, option_map}
use Rattle.langtag_scan.specs.Prelude.{option_map_or}
use Rattle.langtag_scan.specs.Grammar.{are_alike, fold_byte, Extension, Record, EachRecord, spell, IsNormal}
use Rattle.langtag.specs.Definitions.{IsGrandfathered}
use Rattle.langtag_text.specs.RecommendedCase.{recommended_text}
use Rattle.langtag_fields.specs.Fields.{preferred_language, preferred_region, preferred_variant, preferred_tag, extlang_prefix}
use Rattle.langtag_fields.specs.Registered.{is_registered_extlang}
use Rattle.langtag_fields.specs.Subtags.{extlang_subtags}

-- ---- step 1: the extensions are sorted by their singletons, ignoring case; extensions with the same singleton keep
-- their order

module _ {A : Type 0} (key : A → ℕ) where
  -- an element before the first one whose key is not less
  abbrev pub put_by : A → List A → List A
  put_by x [] = x ∷ []
  put_by x (y ∷ ys) = if ltb (key y) (key x) then y ∷ put_by x ys else x ∷ y ∷ ys

  -- the elements sorted by their keys; those with the same key keep their order
  abbrev pub sorted_by : List A → List A
  sorted_by [] = []
  sorted_by (x ∷ xs) = put_by x (sorted_by xs)

unfoldable pub in_order : List Extension → List Extension
in_order extensions = sorted_by (λ e. fold_byte e.singleton) extensions

-- ---- step 3: each subtag is replaced by its Preferred-Value

-- the Preferred-Value of a language (section 3.1.7), or the language itself if it has none
abbrev pub canonical_language : List ℕ → List ℕ
canonical_language text = unwrap_or (preferred_language text) text

-- the Preferred-Value of an extended subtag, which is the same text in the registry's case
unfoldable pub preferred_extlang : List ℕ → Option (List ℕ)
preferred_extlang text = find (are_alike text) extlang_subtags

-- the primary subtag of the canonical form: one extended subtag replaces the language before it, and may then itself be
-- replaced as a language. Two or more extended subtags, which no valid tag has, change nothing
abbrev pub canonical_primary : List ℕ → List (List ℕ) → List ℕ
canonical_primary primary [] = canonical_language primary
canonical_primary primary (extlang ∷ []) = canonical_language (unwrap_or (preferred_extlang extlang) primary)
canonical_primary primary (first ∷ second ∷ others) = primary

abbrev pub canonical_extended : List (List ℕ) → List (List ℕ)
canonical_extended [] = []
canonical_extended (extlang ∷ []) = if is_registered_extlang extlang then [] else extlang ∷ []
canonical_extended (first ∷ second ∷ others) = first ∷ second ∷ others

abbrev pub canonical_region : Option (List ℕ) → Option (List ℕ)
canonical_region region = option_map (λ g. unwrap_or (preferred_region g) g) region

abbrev pub canonical_variants : List (List ℕ) → List (List ℕ)
canonical_variants variants = map (λ v. unwrap_or (preferred_variant v) v) variants

-- the record after steps 1 and 3
unfoldable pub canonical_record : Record → Record
canonical_record r = record r {
  primary = canonical_primary r.primary r.extended;
  extended = canonical_extended r.extended;
  region = canonical_region r.region;
  variants = canonical_variants r.variants;
  extensions = in_order r.extensions;
}

-- ---- the canonical form

-- the text of the record after steps 1 and 3, and then after step 2 once more: step 3 turns `sgn-DD` into `sgn-DE`, and
-- step 2 turns `sgn-DE` into `gsg`
abbrev pub canonical_text : Record → List ℕ
canonical_text r = unwrap_or (preferred_tag (spell (canonical_record r))) (spell (canonical_record r))

-- `new` is `old` after the steps of section 4.5; CLDR replaces more. A tag that has a Preferred-Value as a whole
-- becomes this value. Any other grandfathered tag stays, and so does a tag that is not normal. Any other tag becomes
-- the canonical text of its record
pub record IsReplacedForm (old new : List ℕ) : Type 0 where
  pub whole : (w : List ℕ) → preferred_tag old ≡ Some w → new ≡ w
  pub kept : preferred_tag old ≡ None → IsGrandfathered old ⊎ (IsNormal old → ⊥) → new ≡ old
  pub parts : preferred_tag old ≡ None → (IsGrandfathered old → ⊥) → EachRecord old (λ r. new ≡ canonical_text r)

-- `new` is the canonical form of `old` by RFC 5646: the tag after the steps, in the case that section 2.1.1 recommends
pub record IsCanonicalForm (old new : List ℕ) : Type 0 where
  pub form : List ℕ
  pub steps : IsReplacedForm old form
  pub case : new ≡ recommended_text form

-- ---- the extlang form: the canonical form, in which a language that is also registered as an extended language gets
-- its Prefix before it (section 3.1.8). A tag with three extended subtags, which is never valid, has no room for a
-- fourth

abbrev pub is_full : List (List ℕ) → Bool
is_full extended = length extended == 3

abbrev pub extlang_primary : List ℕ → List (List ℕ) → List ℕ
extlang_primary primary extended = if is_full extended then primary else unwrap_or (extlang_prefix primary) primary

abbrev pub extlang_extended : List ℕ → List (List ℕ) → List (List ℕ)
extlang_extended primary extended = if is_full extended then extended else option_map_or (λ _. primary ∷ extended) (extlang_prefix primary) extended

abbrev pub extlang_record : Record → Record
extlang_record r = record r { primary = extlang_primary r.primary r.extended; extended = extlang_extended r.primary r.extended }

-- `new` is the extlang form of `old`; if the canonical form is not a normal tag, the extlang form is the same text
pub record IsExtlangForm (old new : List ℕ) : Type 0 where
  pub form : List ℕ
  pub canonical : IsCanonicalForm old form
  pub kept : (IsNormal form → ⊥) → new ≡ form
  pub parts : EachRecord form (λ r. new ≡ spell (extlang_record r))
