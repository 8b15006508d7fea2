-- The text of a name, and that it is read as it stands: neither Android nor .NET writes a tag so.
use Rattle.langtag_scan.proofs.Prelude.{◌≡◌, ℕ, ◌≤◌, not, true, false, Bool, cond, suc, List, [], ◌∷◌, ◌++◌, length, IfSome, refl, sym, ap, ◌∙◌, arith, flat_map, append_assoc, append-nil, unwrap_or, ◌<◌, ◌==◌, inl, inr, None, ◌⊎◌, codes, length-append, AllByRecursion, after_first, before_first, list_any, and_parts, or_parts, false_from_ne_true, nat_tests, map-append, list_any-append, take_while-cons, option_map, ◌&&◌, Option, Bor, is_some, common_steps}
use Rattle.langtag_scan.specs.Grammar.{Alike, fold_byte, are_alike, are_alphanumeric, is_alphanumeric, is_digit, is_letter, is_region, is_script, is_variant, Record, extension_flat, one_flat, private_part_flat, spell, join, is_hyphen, are_alike-decides}
use Rattle.langtag_scan.proofs.Laws.{drop-join, hyphenated, hyphenated-append, join-hyphenated, alike_region, region_short, script_four, of_region, of_variant}
use Rattle.langtag_range.specs.Wanted.{hyphened, hyphened_byte}
use Rattle.langtag_range.specs.Definitions.{ends_locale}
use Rattle.langtag_posix.specs.PlatformNames.{android_region, has_marked_region, is_short_language}
use Rattle.langtag_posix.proofs.Definitions.{is_of_language, is_empty, is_script_code, after_variants, marked, is_plus, without_gap, region_after_mark, platform_behind, platform_read, read_place, region_now, last_fields}
use Rattle.langtag_text.proofs.Alike.{alike_is, alike_length}
use Rattle.langtag_text.specs.Alias.{alias_for}
use Rattle.langtag_posix.proofs.LastFields.{other_field}

-- ---- marks

-- a mark that is written unless the text after it is empty
pub marked_cut : (mark : ℕ) (text rest : List ℕ) → cond (is_empty text) [] (mark ∷ []) ++ (text ++ rest) ≡ marked mark text ++ rest
marked_cut mark text rest = grind (arith, nat_tests)

-- ---- the text of a record

-- a record without extended subtags, whose subtags are not empty
abbrev pub IsPlain : Record → Type 0
IsPlain r = (r.extended ≡ []) × IfSome r.script (λ s. 1 ≤ length s) × IfSome r.region (λ s. 1 ≤ length s) × AllByRecursion (λ s. 1 ≤ length s) r.variants

-- the extensions and the private use part, with a hyphen before each subtag
abbrev pub others : Record → List ℕ
others r = hyphenated (flat_map extension_flat r.extensions ++ private_part_flat r.private_use)

abbrev pub tag_text : List ℕ → List ℕ → List ℕ → List ℕ → List ℕ → List ℕ
tag_text primary script region variants rest = primary ++ (marked 45 script ++ (marked 45 region ++ (marked 45 variants ++ rest)))

hyphenated-list : (ss : List (List ℕ)) → AllByRecursion (λ s. 1 ≤ length s) ss → hyphenated ss ≡ marked 45 (join ss)
hyphenated-list [] all = refl
hyphenated-list ([] ∷ ss) all = absurd (let some = all.0 in omega (arith, some))
hyphenated-list ((b ∷ s) ∷ ss) all = ap (marked 45) (sym (join-hyphenated (b ∷ s) ss))

pub spelled_text : (r : Record) → IsPlain r → spell r ≡ tag_text r.primary (unwrap_or r.script []) (unwrap_or r.region []) (join r.variants) (others r)
spelled_text r plain = grind (arith, nat_tests, join-hyphenated, hyphenated, hyphenated-append, append-nil, hyphenated-list)

pub after_others : (r : Record) → after_variants r ≡ others r
after_others r =
    let cut = drop-join r.primary (r.extended ++ (one_flat r.script ++ (one_flat r.region ++ r.variants))) (flat_map extension_flat r.extensions ++ private_part_flat r.private_use) in
    simp append_assoc at cut

-- ---- texts whose parts are alike

pub alike_text :
    (p s g v rest p2 s2 g2 v2 rest2 : List ℕ) → Alike p p2 → Alike s s2 → Alike g g2 → Alike v v2 → Alike rest rest2 → Alike (tag_text p s g v rest) (tag_text p2 s2 g2 v2 rest2)
unfolding fold_byte
alike_text p s g v rest p2 s2 g2 v2 rest2 a b c d e = grind (arith, nat_tests, map-append)

-- ---- a language, a territory and a variant, joined by underscores

abbrev pub place_text : List ℕ → List ℕ → List ℕ → List ℕ
place_text language territory variant = language ++ (marked 95 territory ++ marked 95 variant)

hyphened_byte-kept : (b : ℕ) → is_alphanumeric b ≡ true → hyphened_byte b ≡ b
unfolding is_letter is_digit
hyphened_byte-kept b is = grind (arith, nat_tests)

hyphened-kept : (text : List ℕ) → are_alphanumeric text ≡ true → hyphened text ≡ text
hyphened-kept [] all = refl
hyphened-kept (b ∷ text) all = let k = and_parts (is_alphanumeric b) (are_alphanumeric text) all in rw (hyphened_byte-kept b k.0, hyphened-kept text k.1) refl

-- letters and digits have no byte of another class
pub free_of : (p : ℕ → Bool) → ((byte : ℕ) → is_alphanumeric byte ≡ true → p byte ≡ false) → (text : List ℕ) → are_alphanumeric text ≡ true → list_any p text ≡ false
free_of p other [] all = refl
free_of p other (byte ∷ text) all = let k = and_parts (is_alphanumeric byte) (are_alphanumeric text) all in rw (other byte k.0) (free_of p other text k.1)

module _ (a b c : List ℕ) (first : are_alphanumeric a ≡ true) (second : are_alphanumeric b ≡ true) (third : are_alphanumeric c ≡ true) where
  pub place_hyphened : hyphened (place_text a b c) ≡ tag_text a [] b c []
  place_hyphened = grind (arith, nat_tests, map-append, hyphened-kept, append-nil)

  -- a byte that is neither a letter, nor a digit, nor an underscore is not in them
  module _ (p : ℕ → Bool) (other : (byte : ℕ) → is_alphanumeric byte ≡ true → p byte ≡ false) (no_underscore : p 95 ≡ false) where
    pub place_free : list_any p (place_text a b c) ≡ false
    place_free = grind (arith, nat_tests, list_any-append, free_of)

-- ---- a text before and after a mark

module _ (p : ℕ → Bool) where
  pub before_rest : (text rest : List ℕ) → list_any p text ≡ false → before_first p (text ++ rest) ≡ text ++ before_first p rest
  before_rest [] rest free = refl
  before_rest (b ∷ text) rest free = grind (arith, nat_tests, or_parts, take_while-cons (λ byte. not (p byte)) b (text ++ rest), before_rest text rest)

  pub after_rest : (text rest : List ℕ) → list_any p text ≡ false → after_first p (text ++ rest) ≡ after_first p rest
  after_rest [] rest free = refl
  after_rest (b ∷ text) rest free = grind (arith, nat_tests, or_parts, suc, after_rest text rest)

-- what comes before a mark is a part of the text
pub front_within : (text : List ℕ) → length (before_first ends_locale text) ≤ length text
front_within [] = omega arith
front_within (b ∷ text) = grind (arith, nat_tests, take_while-cons (λ byte. not (ends_locale byte)) b text, front_within text)

-- ---- the lengths of what is read

pub script_code_four : (script : List ℕ) → is_script_code script ≡ true → length script ≡ 4
script_code_four script is = (script_four script (and_parts (is_script script) _ is).0).0

pub region_now_few : (language region : List ℕ) → is_region region ≡ true → length (region_now language region) ≤ 3
region_now_few language region is = grind (arith, region_short)

pub begins_some : (text : List ℕ) → is_variant (before_first is_hyphen text) ≡ true → 1 ≤ length text
begins_some text is = grind (arith, of_variant [])

pub marked_some : (text : List ℕ) → 1 ≤ length text → marked 45 text ≡ 45 ∷ text
marked_some text some = grind (arith, nat_tests)

pub region_now_marked : (language region : List ℕ) → is_region region ≡ true → marked 45 (region_now language region) ≡ 45 ∷ region_now language region
region_now_marked language region is = marked_some (region_now language region) (grind (arith, of_region))

-- ---- a region with Android's mark

pub some_region : (o : Option (Bor (List ℕ))) (p : Option (List ℕ)) → option_map (λ region. region.now) o ≡ p → is_some o ≡ is_some p
some_region o p is = grind arith

pub marked_by :
    (text language behind region : List ℕ) (short found : Bool) → language ≡ before_first is_hyphen text → behind ≡ after_first is_hyphen text → region ≡ before_first is_hyphen behind →
    short ≡ is_short_language language → short ≡ true → found ≡ is_some (android_region language region) → found ≡ has_marked_region text
marked_by text language behind region short found language_is behind_is region_is short_is is_short found_is =
    found_is ∙ ap (λ s. s && is_some (android_region language region)) (sym is_short ∙ short_is) ∙ rw (region_is, behind_is, language_is) refl

-- ---- the text behind a language

-- it has none of .NET's, Android's and Java's forms
record IsOrdinary (behind : List ℕ) : Type 0 where
  simplified : are_alike (codes "CHS") behind ≡ false
  traditional : are_alike (codes "CHT") behind ≡ false
  unmarked : region_after_mark behind ≡ None
  field : (after_first is_hyphen behind ≡ []) ⊎ (after_first is_hyphen behind ≡ codes "POSIX")
  first_unmarked : region_after_mark (before_first is_hyphen behind) ≡ None
  in_order : is_script_code (after_first is_hyphen behind) ≡ false
  gapless : without_gap behind ≡ None

ordinary : (language behind : List ℕ) → IsOrdinary behind → platform_behind language behind ≡ None
ordinary language behind is = rw (is.simplified, is.traditional, is.unmarked, is.in_order) (grind (arith, common_steps))

-- .NET's names for Chinese are no regions, so neither is a region alike one of them
no_regions : (is_region (codes "CHS") ≡ false) × (is_region (codes "CHT") ≡ false)
unfolding is_region is_digit
no_regions = (refl, refl)

other_than : (text region : List ℕ) → is_region text ≡ false → is_region region ≡ true → are_alike text region ≡ false
other_than text region other is = grind (arith, alike_is, are_alike-decides, alike_region)

-- a mark that comes before the digits is neither a letter nor a digit
pub no_mark : (mark : ℕ) → mark < 48 → (b : ℕ) → is_alphanumeric b ≡ true → (b == mark) ≡ false
unfolding is_letter is_digit
no_mark mark small b is = grind (arith, nat_tests)

-- a text of letters and digits is what stands before the first hyphen, if one follows or nothing
cut_hyphen :
    (text rest : List ℕ) → are_alphanumeric text ≡ true → before_first is_hyphen rest ≡ [] →
    (before_first is_hyphen (text ++ rest) ≡ text) × (after_first is_hyphen (text ++ rest) ≡ after_first is_hyphen rest)
cut_hyphen text rest all none =
    let free = free_of is_hyphen (no_mark 45 (omega arith)) text all in
    grind (arith, before_rest is_hyphen text rest free, after_rest is_hyphen text rest free, append-nil text)

module _ (region c : List ℕ) (is : is_region region ≡ true) (variant : (c ≡ []) ⊎ (c ≡ codes "POSIX")) where
  abbrev both : List ℕ
  both = region ++ (marked 45 c ++ [])

  cut_both : (before_first is_hyphen both ≡ region) × (after_first is_hyphen both ≡ after_first is_hyphen (marked 45 c ++ []))
  cut_both = cut_hyphen region (marked 45 c ++ []) (of_region region is).alphanumeric (grind arith)

  unlike : (t : List ℕ) → is_region t ≡ false → length t ≤ 5 → are_alike t both ≡ false
  unlike t never few =
      let alone = other_than t region never is in
      grind (arith, common_steps, false_from_ne_true, alike_length t both, alone, length-append, append-nil region)

  region_behind : IsOrdinary both
  unfolding is_region is_script is_letter is_digit
  region_behind = record {
    simplified = unlike (codes "CHS") no_regions.0 (omega arith);
    traditional = unlike (codes "CHT") no_regions.1 (omega arith);
    field = grind (arith, nat_tests, cut_both);
    unmarked = grind (arith, common_steps, append-nil region, length-append region);
    first_unmarked = rw cut_both.0 (grind (arith, nat_tests));
    in_order = grind (arith, nat_tests, cut_both);
    gapless = grind (arith, nat_tests, cut_both);
  }

-- ---- a name

-- a territory and a variant of a name
pub record IsTerritory (b c : List ℕ) : Type 0 where
  pub territory : (b ≡ []) ⊎ (is_region b ≡ true)
  pub variant : (c ≡ []) ⊎ (c ≡ codes "POSIX")

behind_is : (b c : List ℕ) → (b ≡ []) ⊎ (is_region b ≡ true) → (c ≡ []) ⊎ (c ≡ codes "POSIX") → IsOrdinary (after_first is_hyphen (marked 45 b ++ (marked 45 c ++ [])))
unfolding is_script fold_byte
behind_is b c (inl none) (inl plain) = grind (arith, nat_tests)
behind_is b c (inl none) (inr posix) = grind arith
behind_is b c (inr is) variant = rw (marked_some b (of_region b is).some) (region_behind b c is variant)

module _ (a b c : List ℕ) (first : are_alphanumeric a ≡ true) (second : are_alphanumeric b ≡ true) (third : are_alphanumeric c ≡ true) (long : 2 ≤ length a) (is : IsTerritory b c) where
  abbrev text : List ℕ
  text = tag_text a [] b c []

  abbrev behind : List ℕ
  behind = after_first is_hyphen (marked 45 b ++ (marked 45 c ++ []))

  cut_text : (before_first is_hyphen text ≡ a) × (after_first is_hyphen text ≡ behind)
  cut_text = cut_hyphen a (marked 45 b ++ (marked 45 c ++ [])) first (grind arith)

  is_ordinary : IsOrdinary behind
  is_ordinary = behind_is b c is.territory is.variant

  kept : platform_read text ≡ text
  kept =
      let field : alias_for last_fields text ≡ None = other_field text (rw cut_text.1 is_ordinary.field) in
      rw (field, cut_text.0, cut_text.1, is_ordinary.gapless, ordinary a behind is_ordinary) (grind (arith, common_steps, is_ordinary))

  -- the language has at most three letters, and the region has no mark
  place_of_language : length a ≤ 3 → is_of_language text ≡ true
  place_of_language few = grind (arith, nat_tests, cut_text, is_ordinary)

  unplussed : are_alike (codes "b") (before_first is_plus (place_text a b c)) ≡ false
  unplussed =
      let place = place_text a b c in
      let free = place_free a b c first second third is_plus (no_mark 43 (omega arith)) refl in
      let whole = before_rest is_plus place [] free in
      grind (arith, nat_tests, false_from_ne_true, whole, append-nil place, alike_length (codes "b") place, length-append a)

  -- the place is read as it stands
  pub place_kept : read_place (place_text a b c) ≡ hyphened (place_text a b c)
  unfolding read_place
  place_kept = rw (unplussed, place_hyphened a b c first second third) kept

  pub read_of_language : length a ≤ 3 → is_of_language (read_place (place_text a b c)) ≡ true
  read_of_language few = ap is_of_language (place_kept ∙ place_hyphened a b c first second third) ∙ place_of_language few
