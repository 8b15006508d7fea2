-- `from_posix` reads the name of a tag as the tag.
use Rattle.langtag_scan.proofs.Prelude.{◌≡◌, ℕ, ◌+◌, ◌≤◌, not, true, false, Bool, cond, List, [], ◌∷◌, ◌++◌, length, Option, None, Some, IfSome, IsTrue, IsAscii, IsUtf8, ◌<◌, refl, sym, ap, subst, inl, inr, ◌∙◌, ◌⊎◌, arith, and-false, codes, find, flat_map, append_assoc, append-nil, length-append, option_map, unwrap_or, Bor, ◌&&◌, ◌||◌, take, leb, AllByRecursion, after_first, list_all, option_and_then, and_parts, common_steps, nat_tests, IsAscii-append, IsUtf8-from_ascii, IsAscii-cons, IsAscii-nil, lowercase-uppercase, rules, list_any, drop_at}
use Rattle.langtag_scan.specs.Grammar.{Alike, are_alike, fold_byte, fold_text, are_alike-decides, are_alphanumeric, are_letters, is_alphanumeric, is_digit, is_letter, is_region, is_script, is_variant, language_part, variants_part, Extension, IsWellFormed, Record, extension_flat, one_flat, spell, join, IsNormal, IsTag}
use Rattle.langtag_scan.proofs.NormalTexts.{spelled_once}
use Rattle.langtag_scan.proofs.Laws.{alike_primary, alike_region, fold_text-twice, length-fold, extended_three, region_short, hyphenated, length-join, IsAscii-each, alphanumeric_below, normal_or_not, letters_alphanumeric, of_primary, of_region, of_script, of_variant}
use Rattle.langtag_text.specs.RecommendedCase.{capital_text}
use Rattle.langtag_text.specs.Fields.{Fields}
use Rattle.langtag.specs.Definitions.{with_script}
use Rattle.langtag_text.proofs.Alike.{alike_is}
use Rattle.langtag_text.proofs.RecommendedLaws.{alike_of_recommended}
use Rattle.langtag_range.specs.Definitions.{ends_locale, front_of, is_hash, hyphened}
use Rattle.langtag_cldr.specs.Definitions.{language_alone, or_else, without_script}
use Rattle.langtag_likely.proofs.Definitions.{fields_of}
use Rattle.langtag_posix.proofs.Definitions.{is_empty, modifier_for, modifier_script, modifier_variant, modifiers, names, HasRegisteredVariants, IsReadName, IsTagOfName, NamesTag, are_keywords, extensions_behind, place_of, place_read, text_of_name, is_at, behind_front, has_good_codeset, said_script, modifier_of, posix_extension, posix_replaced, with_said, with_said_script, with_said_variant, IsPosixName, IsReadBack, NameParts, ReadsBack, is_likely, is_named, is_of_language, marked, name_modifier, name_parts, name_variant, read_place}
use Rattle.langtag_posix.specs.KeywordNames.{key_named, key_names, type_named, type_names}
use Rattle.langtag_posix.specs.ToPosix.{name_text}
use Rattle.langtag_posix.proofs.PosixNameLaws.{no_mark, place_kept, read_of_language, IsPlain, after_others, after_rest, alike_text, before_rest, marked_cut, others, place_free, place_hyphened, place_text, spelled_text}
use Rattle.langtag_posix.proofs.PosixLaws.{said_well_formed, others_stay}
use Rattle.langtag_text.proofs.Letters.{primary_length}
use Rattle.langtag_text.proofs.FieldClasses.{from_region}
use Rattle.langtag_text.specs.FieldClasses.{is_region_field}
use Rattle.langtag_cldr.proofs.FieldClasses.{region_alphanumeric}

-- ---- the parts of the name of a record

abbrev parts_by : Record → Bool → Option (List ℕ) → Option (List ℕ) → Option NameParts
parts_by r named variant modifier =
    cond named (option_and_then (λ v. option_map (λ m. record { language = language_part r; territory = unwrap_or r.region []; variant = v; modifier = m }) modifier) variant) None

named_by : (r : Record) (named : Bool) (variant modifier : Option (List ℕ)) (n : NameParts) → parts_by r named variant modifier ≡ Some n →
    (named ≡ true) × (n.language ≡ language_part r) × (n.territory ≡ unwrap_or r.region []) × (variant ≡ Some n.variant) × (modifier ≡ Some n.modifier)
named_by r named variant modifier n is = grind (arith, common_steps)

-- ---- the language

pub record IsShort (r : Record) : Type 0 where
  pub none : r.extended ≡ []
  pub few : length r.primary ≤ 3
  pub same : language_part r ≡ r.primary

pub named_short : (r : Record) → IsWellFormed r → is_named (language_part r) ≡ true → IsShort r
named_short r fits named = grind (arith, nat_tests, and_parts, extended_three, length-join r.primary, length-append)

-- ---- the variant of a name

-- a text as a list of one subtag, or no subtag if it is empty
abbrev listed : List ℕ → List (List ℕ)
listed [] = []
listed (b ∷ text) = (b ∷ text) ∷ []

-- the record of a language, a territory and a variant
abbrev place_record : Record → List ℕ → Record
place_record r variant = record {
  primary = fold_text r.primary;
  extended = [];
  script = None;
  region = option_map capital_text r.region;
  variants = listed variant;
  extensions = [];
  private_use = None;
}

-- what `from_posix` makes of a variant: these extensions, which are alike the text after the variants of the tag
record IsVariantOf (r : Record) (variant : List ℕ) (extensions : List Extension) : Type 0 where
  fits : AllByRecursion (λ s. IsTrue (is_variant s)) (listed variant)
  alphanumeric : are_alphanumeric variant ≡ true
  short : length variant ≤ 5
  named : (variant ≡ []) ⊎ (variant ≡ codes "POSIX")
  replaced : posix_replaced (place_record r variant) ≡ record (place_record r variant) { variants = []; extensions = extensions }
  alike : Alike (hyphenated (flat_map extension_flat extensions ++ [])) (others r)

no_variant : (r : Record) → others r ≡ [] → IsVariantOf r [] []
no_variant r none = grind (arith, common_steps, nat_tests, others_stay)

posix_variant : (r : Record) → are_alike (codes "-u-va-posix") (others r) ≡ true → IsVariantOf r (codes "POSIX") (posix_extension ∷ [])
unfolding posix_replaced fold_byte is_variant is_letter is_digit
posix_variant r same = grind (arith, common_steps, nat_tests, alike_is, others)

-- the extensions for a variant
abbrev extensions_of : List ℕ → List Extension
extensions_of [] = []
extensions_of (b ∷ variant) = posix_extension ∷ []

variant_is :
    (text variant : List ℕ) → name_variant text ≡ Some variant →
    ((variant ≡ []) × (text ≡ [])) ⊎ ((variant ≡ codes "POSIX") × (are_alike (codes "-u-va-posix") text ≡ true))
variant_is text variant is = grind (arith, common_steps)

variant_of_tag :
    (r : Record) (variant : List ℕ) → name_variant (others r) ≡ Some variant → IsVariantOf r variant (extensions_of variant)
variant_of_tag r variant is = grind (arith, variant_is (others r) variant is, no_variant r, posix_variant r)

-- ---- the modifier of a name

-- a modifier names a script and variants, and is short
record IsSaid (s v modifier : List ℕ) : Type 0 where
  script : Alike (unwrap_or (modifier_script modifier) []) s
  variants : Alike (unwrap_or (modifier_variant modifier) []) v
  few : length modifier ≤ 14
  letters : are_letters modifier ≡ true
  no_keywords : are_keywords modifier ≡ false

found_in : {X : Type 0} (test is_good : X → Bool) (xs : List X) (x : X) → list_all is_good xs ≡ true → find test xs ≡ Some x → (test x ≡ true) × (is_good x ≡ true)
found_in test is_good [] x all is = absurd cc
found_in test is_good (y ∷ xs) x all is = grind (arith, common_steps, and_parts (is_good y), found_in test is_good xs x)

said_of :
    (s v m : List ℕ) → names s v m ≡ true → ((leb (length m) 14 && are_letters m) && not (are_keywords m)) ≡ true → IsSaid s v m
said_of s v m named good = grind (arith, nat_tests, and_parts, alike_is)

modifier_said : (s v modifier : List ℕ) → modifier_for s v ≡ Some modifier → IsSaid s v modifier
unfolding modifier_for is_letter key_named key_names type_named type_names fold_byte
modifier_said s v modifier is =
    let (named, good) = found_in (names s v) (λ m. (leb (length m) 14 && are_letters m) && not (are_keywords m)) modifiers modifier refl is in
    said_of s v modifier named good

tried : (likely alone : Bool) (written left_out : Option (List ℕ)) (m : List ℕ) → cond (not likely) written (cond alone left_out (or_else written left_out)) ≡ Some m →
    (written ≡ Some m) ⊎ ((left_out ≡ Some m) × (likely ≡ true))
tried likely alone written left_out m is = grind (arith, common_steps)

-- the modifier names the script, or a script that is likely is left out
modifier_cases :
    (f : Fields) (script variants modifier : List ℕ) → name_modifier f script variants ≡ Some modifier →
    IsSaid script variants modifier ⊎ (IsSaid [] variants modifier × IsTrue (is_likely (without_script f) script))
modifier_cases f script variants modifier is =
    elim (tried (is_likely (without_script f) script) (is_likely (language_alone f) script) (modifier_for script variants) (modifier_for [] variants) modifier is) [
      | inl written ↦ inl (modifier_said script variants modifier written)
      | inr (left_out, likely) ↦ inr (modifier_said [] variants modifier left_out, likely)
    ]

-- ---- the place is a tag

pub capital-fold : (text : List ℕ) → fold_text (capital_text text) ≡ fold_text text
unfolding fold_byte
capital-fold [] = refl
capital-fold (b ∷ text) = rw (lowercase-uppercase b, capital-fold text) refl

pub capital_region : (region : List ℕ) → is_region region ≡ true → is_region (capital_text region) ≡ true
capital_region region is = alike_region region (capital_text region) ((are_alike-decides region (capital_text region)).1 (sym (capital-fold region))) is

unwrap-capital : (o : Option (List ℕ)) → unwrap_or (option_map capital_text o) [] ≡ capital_text (unwrap_or o [])
unwrap-capital o = grind (arith, common_steps, nat_tests)

region_fits : (o : Option (List ℕ)) → IfSome o (λ s. IsTrue (is_region s)) → IfSome (option_map capital_text o) (λ s. IsTrue (is_region s))
region_fits None fits = tt
region_fits (Some region) fits = capital_region region fits

place_fits : (r : Record) (variant : List ℕ) → IsWellFormed r → AllByRecursion (λ s. IsTrue (is_variant s)) (listed variant) → IsWellFormed (place_record r variant)
place_fits r variant fits variants = grind (arith, common_steps, fold_text-twice, alike_primary r.primary, are_alike-decides r.primary, region_fits)

variants_some : (vs : List (List ℕ)) → AllByRecursion (λ s. IsTrue (is_variant s)) vs → AllByRecursion (λ s. 1 ≤ length s) vs
variants_some [] fits = tt
variants_some (v ∷ vs) fits = ((of_variant v fits.0).some, variants_some vs fits.1)

plain_of : (r : Record) → IsWellFormed r → r.extended ≡ [] → IsPlain r
plain_of r fits none = grind (arith, common_steps, of_script, of_region, variants_some)

join-one : (o : Option (List ℕ)) → join (one_flat o) ≡ unwrap_or o []
join-one o = grind (arith, common_steps)

-- ---- the bytes of a name

-- neither the codeset nor the modifier begins with a letter or a digit
no_end : (b : ℕ) → is_alphanumeric b ≡ true → (ends_locale b ≡ false) × (is_at b ≡ false)
unfolding is_letter is_digit
no_end b is = grind (arith, nat_tests)

-- ---- the name is read back

-- the record of what is read
abbrev read_record : Record → List ℕ → List Extension → Record
read_record r modifier extensions = record {
  primary = fold_text r.primary;
  extended = [];
  script = modifier_script modifier;
  region = option_map capital_text r.region;
  variants = one_flat (modifier_variant modifier);
  extensions = extensions;
  private_use = None;
}

said_of_place :
    (r : Record) (extensions : List Extension) (script variant : Option (List ℕ)) →
    with_said_variant variant (with_said_script (or_else script None) (record (place_record r []) { variants = []; extensions = extensions }))
    ≡ record (place_record r []) { script = script; variants = one_flat variant; extensions = extensions }
said_of_place r extensions script variant = grind arith

-- a record without variants has none that is not registered
none_registered : (script : Option (List ℕ)) (r : Record) → r.variants ≡ [] → HasRegisteredVariants (with_said_script script r)
none_registered None r none = inr (rw none refl)
none_registered (Some script) r none = inr (rw none refl)

-- without extensions, no field stands for them
java_by : (a b : Bool) (place : List ℕ) → cond ((a && false) || (b && false)) (take 5 place) place ≡ place
java_by true true place = refl
java_by true false place = refl
java_by false true place = refl
java_by false false place = refl

marked_few : (mark : ℕ) (text : List ℕ) → length (marked mark text) ≤ length text + 1
marked_few mark text = grind arith

ascii_of : (text : List ℕ) → are_alphanumeric text ≡ true → IsAscii text
ascii_of = IsAscii-each is_alphanumeric alphanumeric_below

marked_ascii : (mark : ℕ) → mark < 128 → (text : List ℕ) → are_alphanumeric text ≡ true → IsAscii (marked mark text)
marked_ascii mark below [] all = IsAscii-nil
marked_ascii mark below (b ∷ text) all = IsAscii-cons mark (b ∷ text) below (ascii_of (b ∷ text) all)

-- a name that is read back, of some ASCII bytes
abbrev IsGood : Record → List ℕ → Type 0
IsGood r name = IsReadBack r name × IsAscii name × (1 ≤ length name)

module _ (r : Record) (fits : IsWellFormed r) (short : IsShort r) (v m s : List ℕ) (extensions : List Extension) (variant : IsVariantOf r v extensions) (said : IsSaid s (join r.variants) m) where
  abbrev region : List ℕ
  region = capital_text (unwrap_or r.region [])

  abbrev place : List ℕ
  place = place_text (fold_text r.primary) region v

  fits_place : IsWellFormed (place_record r v)
  fits_place = place_fits r v fits variant.fits

  letters_first : are_alphanumeric (fold_text r.primary) ≡ true
  letters_first = (of_primary (fold_text r.primary) fits_place.primary).alphanumeric

  letters_second : are_alphanumeric region ≡ true
  letters_second =
      let field : is_region_field region ≡ true = grind (arith, from_region, fits_place.region) in
      region_alphanumeric region field

  abbrev name : List ℕ
  name = place ++ marked 64 m

  lacks : (p : ℕ → Bool) → ((b : ℕ) → is_alphanumeric b ≡ true → p b ≡ false) → p 95 ≡ false → list_any p place ≡ false
  lacks = place_free (fold_text r.primary) region v letters_first letters_second variant.alphanumeric

  front : front_of name ≡ place
  front =
      let no_ends = lacks ends_locale (λ b is. (no_end b is).0) refl in
      grind (arith, before_rest ends_locale place (marked 64 m) no_ends, append-nil place)

  no_hash : list_any is_hash place ≡ false
  no_hash = lacks is_hash (no_mark 35 (omega arith)) refl

  none_behind : after_first is_hash place ≡ []
  none_behind = grind (arith, after_rest is_hash place [] no_hash, append-nil place)

  modifier_is : modifier_of name ≡ m
  modifier_is = grind (arith, after_rest is_at place (marked 64 m) (lacks is_at (λ b is. (no_end b is).1) refl))

  no_extensions : extensions_behind (front_of name) ≡ []
  unfolding is_script
  no_extensions = rw (front, none_behind) refl

  place_is : place_of name ≡ place
  place_is = rw (front, no_hash, none_behind, and-false) refl

  is_read : place_read name ≡ read_place place
  unfolding place_read fold_byte
  is_read = rw (no_extensions, place_is) (java_by _ _ _)

  text_is : text_of_name name ≡ read_place place
  unfolding text_of_name
  text_is = rw (is_read, no_extensions, modifier_is, said.no_keywords) (simp append-nil)

  plain_place : IsPlain (place_record r v)
  plain_place = plain_of (place_record r v) fits_place refl

  spelled_place : spell (place_record r v) ≡ hyphened place
  spelled_place =
      let hyphens = place_hyphened (fold_text r.primary) region v letters_first letters_second variant.alphanumeric in
      grind (arith, common_steps, spelled_text (place_record r v) plain_place, unwrap-capital, hyphens, variant.named)

  read_kept : read_place place ≡ hyphened place
  read_kept = grind (arith, common_steps, nat_tests, place_kept, letters_first, letters_second, primary_length, fits_place, unwrap-capital)

  spelled_read : spell (place_record r v) ≡ read_place place
  spelled_read = spelled_place ∙ sym read_kept

  of_language : is_of_language (read_place place) ≡ true
  of_language =
      grind (arith, common_steps, nat_tests, read_of_language, letters_first, letters_second, primary_length, fits_place, unwrap-capital, length-fold, short)

  place_tag : IsTag (read_place place) × (is_of_language (read_place place) ≡ true) × (length place ≤ 255) × (length (read_place place) ≤ 260)
  unfolding IsTag IsNormal
  place_tag =
      grind (arith, nat_tests, common_steps, fits_place, spelled_read, read_kept, place_hyphened, letters_first, letters_second, of_language, length-fold, region_short, unwrap-capital, length-append, marked_few)

  no_codeset : has_good_codeset (behind_front name) ≡ true
  no_codeset = rw (front, drop_at place (marked 64 m) (length place) refl) (grind (arith, nat_tests))

  read_name : IsReadName name
  read_name =
      grind (arith, common_steps, place_tag, no_codeset, no_extensions, place_is, is_read, text_is, modifier_is, said.no_keywords)

  none_left : (posix_replaced (place_record r v)).variants ≡ []
  none_left = ap (λ (q : Record). q.variants) variant.replaced

  names_tag : NamesTag name
  names_tag = record {
    read = read_name;
    variants = λ q spells.
        let same : place_record r v ≡ q = spelled_once (place_record r v) q fits_place spells.0 (spelled_read ∙ sym text_is ∙ sym spells.1) in
        subst (λ q. HasRegisteredVariants (with_said_script (said_script name) (posix_replaced q))) same (none_registered (said_script name) (posix_replaced (place_record r v)) none_left);
  }

  said_is : with_said name (place_record r v) ≡ read_record r m extensions
  unfolding is_script
  said_is = grind (arith, common_steps, nat_tests, front, none_behind, modifier_is, variant.replaced, said_of_place)

  plain_read : IsPlain (read_record r m extensions)
  plain_read = plain_of (read_record r m extensions) (subst IsWellFormed said_is (said_well_formed name (place_record r v) fits_place)) refl

  read_alike :
      (script : Option (List ℕ)) → IsWellFormed (with_script r script) → unwrap_or script [] ≡ s → (tag : List ℕ) → IsTagOfName name tag → Alike tag (spell (with_script r script))
  read_alike script whole is tag read =
      let parts = read.said.parts (place_record r v) (fits_place, spelled_read ∙ sym text_is) in
      let new = spelled_text (read_record r m extensions) plain_read in
      let old = spelled_text (with_script r script) (plain_of (with_script r script) whole short.none) in
      let alike : Alike read.form (spell (with_script r script)) = grind (arith, common_steps, said_is, new, old, alike_text, fold_text-twice, unwrap-capital, capital-fold, join-one) in
      sym (alike_of_recommended read.form tag read.case) ∙ alike

  name_ascii : IsAscii name
  name_ascii =
      let letters = letters_alphanumeric m said.letters in
      search (rules, IsAscii-append, marked_ascii, ascii_of, letters_first, letters_second, variant.alphanumeric)

  name_some : 1 ≤ length name
  name_some = grind (arith, common_steps, nat_tests, of_primary, fits_place, length-append)

  good :
      (script : Option (List ℕ)) → IsWellFormed (with_script r script) → unwrap_or script [] ≡ s →
      (script ≡ r.script) ⊎ ((script ≡ None) × IsTrue (is_likely (without_script (fields_of r)) (unwrap_or r.script []))) →
      IsGood r name
  good script whole is kept =
      let back = read_alike script whole is in
      (record { script = script; names = names_tag; back = back; kept = kept }, name_ascii, name_some)

name_good : (r : Record) (n : NameParts) → IsWellFormed r → name_parts r ≡ Some n → IsGood r (name_text n)
unfolding name_parts
name_good r n fits is =
    let (named, language, territory, variant_is, modifier_is) = named_by r _ _ _ n is in
    let short = named_short r fits named in
    let variant = variant_of_tag r n.variant (ap name_variant (sym (after_others r)) ∙ variant_is) in
    let region = capital_text (unwrap_or r.region []) in
    let text : place_text (fold_text r.primary) region n.variant ++ marked 64 n.modifier ≡ name_text n =
    rw (territory, language, short.same) (simp append_assoc) in
    let read = good r fits short n.variant n.modifier in
    subst (IsGood r) text (elim (modifier_cases (fields_of r) (unwrap_or r.script []) (variants_part r) n.modifier modifier_is) [
      | inl said ↦ read (unwrap_or r.script []) _ variant said r.script fits refl (inl refl)
      | inr (said, likely) ↦ read [] _ variant said None (grind (arith, common_steps)) refl (inr (refl, likely))
    ])

found_good : (r : Record) (name : List ℕ) → IsWellFormed r → Some name ≡ option_map name_text (name_parts r) → IsGood r name
found_good r name fits is = grind (arith, name_good r)

pub reads_back : (tag name : List ℕ) → IsPosixName tag (Some name) → ReadsBack tag name
reads_back tag name is = λ r spells. (found_good r name spells.0 (is.part r spells)).0

of_bytes : (tag name : List ℕ) → IsPosixName tag (Some name) → IsAscii name × (1 ≤ length name)
unfolding IsNormal
of_bytes tag name is = elim (normal_or_not tag) [
  | inl (r, spells) ↦ (let good = found_good r name spells.0 (is.part r spells) in (good.1, good.2))
  | inr never ↦ let no = is.absent never in absurd cc
]

-- the name is not empty
pub some_name : (tag name : List ℕ) → IsPosixName tag (Some name) → 1 ≤ length name
some_name tag name is = (of_bytes tag name is).1

-- there is one name, or none
pub one_name : (tag : List ℕ) (one other : Option (List ℕ)) → IsPosixName tag one → IsPosixName tag other → one ≡ other
unfolding IsNormal
one_name tag one other a b = elim (normal_or_not tag) [
  | inl (r, spells) ↦ a.part r spells ∙ sym (b.part r spells)
  | inr never ↦ a.absent never ∙ sym (b.absent never)
]

pub utf8_name : (tag name : List ℕ) → IsPosixName tag (Some name) → IsUtf8 name
utf8_name tag name is = IsUtf8-from_ascii name (of_bytes tag name is).0

pub other_name : (tag : List ℕ) → (IsNormal tag → ⊥) → IsPosixName tag None
unfolding IsNormal
other_name tag never = record { part = λ r spells. absurd (never (r, spells)); absent = λ _. refl }

-- ---- the parts of the code

pub modifier_few :
    (f : Fields) (s v : List ℕ) (o : Option (Bor (List ℕ))) → option_map (λ text. text.now) o ≡ name_modifier f s v → IfSome o (λ text. length text.now ≤ 14)
modifier_few f s v o is = grind (arith, modifier_cases f s v)

-- what is written for the parts of a name
pub pieces_name :
    (n : NameParts) (language territory a b c : List ℕ) → language ≡ fold_text n.language → territory ≡ capital_text n.territory →
    a ≡ cond (is_empty territory) [] (95 ∷ []) → b ≡ cond (is_empty n.variant) [] (95 ∷ []) → c ≡ cond (is_empty n.modifier) [] (64 ∷ []) →
    language ++ (a ++ (territory ++ (b ++ (n.variant ++ (c ++ (n.modifier ++ [])))))) ≡ name_text n
pieces_name n language territory a b c l t first second third = rw (l, first, second, third, t) (simp marked_cut (simp append-nil))

pub name_few : (n : NameParts) → length n.language ≤ 3 → length n.territory ≤ 3 → length n.variant ≤ 5 → length n.modifier ≤ 14 → length (name_text n) ≤ 28
name_few n a b c d = grind (arith, common_steps, nat_tests, length-fold, capital-fold, marked_few, length-append)
