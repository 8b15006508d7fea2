-- A part that is put into the text of a normal tag: where it stands, what the new text is, and which record spells it.
use Rattle.langtag_scan.proofs.Prelude.{◌≡◌, ℕ, ◌≤◌, IsTrue, List, [], ◌∷◌, ◌++◌, length, Option, None, Some, IfSome, unwrap_or, refl, ap, arith, append_assoc, append-nil, option_map, sym, ◌∙◌, AllByRecursion, flat_map, replace_range, common_steps}
use Rattle.langtag_scan.specs.Grammar.{is_script, is_region, is_variant, ends_of, HasEnds, Extension, PrivateUse, Record, EachRecord, IsWellFormed, Spells, extension_flat, one_flat, private_part_flat, spell, join, IsPrivate}
use Rattle.langtag_scan.specs.declared.ends.Ends.{Ends}
use Rattle.langtag_scan.proofs.Laws.{hyphenated, join-hyphenated, join-append, drop-join, length-join, length-hyphenated, join-replaced, join-around, ends_equal, ends_each, ends_had, ends_ordered, ends_whole, of_script, of_region, of_variant, spelled_once}
use Rattle.langtag.specs.Definitions.{SpellsLanguage, region_text, script_text, variants_text, SpellsVariants, SpellsExtensions, of_parts, with_language, with_script, with_region, with_variants, with_extensions, with_private_use, SpellsPrivateUse, SetsPart, ComesBack, with_old_part, language_text, extensions_text}
use Rattle.langtag_place.specs.declared.region.Region.{Region}
use Rattle.langtag_place.specs.declared.script.Script.{Script}
use Rattle.langtag_private.specs.Text.{private_use_text}
use Rattle.langtag_private.proofs.Rules.{IsPrivate-from_test}
use Rattle.langtag.specs.Lengths.{after_hyphen, ends_from, lengths_of, with_length}
use Rattle.langtag.specs.declared.lengths.Lengths.{Lengths}
use Rattle.langtag_language.proofs.Rules.{IsLanguage-from_test}
use Rattle.langtag_place.proofs.Rules.{IsVariants-from_test}
use Rattle.langtag_extension.proofs.Rules.{IsExtensions-from_test}
use Rattle.langtag.specs.PartPlaces.{part_start, part_end, put_text}
use Rattle.langtag.specs.declared.part.Part.{Part}
use Rattle.langtag.specs.declared.part.Part.TheVariants.{Language, Script as ScriptPart, Region as RegionPart, Variants, Extensions, PrivateUse as PrivateUsePart}
use Rattle.langtag_private.specs.declared.private_use.PrivateUse as private

-- ---- the lengths of the parts of a record

abbrev part_lengths : Record → Lengths
part_lengths r = record {
  language = length (join (r.primary ∷ r.extended));
  script = length (hyphenated (one_flat r.script));
  region = length (hyphenated (one_flat r.region));
  variants = length (hyphenated r.variants);
  extensions = length (hyphenated (flat_map extension_flat r.extensions));
  private_use = length (hyphenated (private_part_flat r.private_use));
}

-- its parts end where they add up to
ends_from-part_lengths : (r : Record) → ends_from (part_lengths r) ≡ ends_of r
ends_from-part_lengths r = grind (arith, common_steps, ends_equal, length-join, length-hyphenated)

abbrev lengths : ℕ → ℕ → ℕ → ℕ → ℕ → ℕ → Lengths
lengths l s g v x p = record { language = l; script = s; region = g; variants = v; extensions = x; private_use = p }

lengths_of-ends_of : (r : Record) → lengths_of (ends_of r) ≡ part_lengths r
lengths_of-ends_of r = grind (arith, common_steps, ends_from-part_lengths)

-- ---- an edit of a text and the change of its record

-- to put a text between two of the ends of a record is to change the record, and one of the lengths of its parts
pub record Replaces (part : List ℕ) (low high : Ends → ℕ) (with_length : Lengths → ℕ → Lengths) (change : Record → Record) : Type 0 where
  pub fits : (r : Record) → IsWellFormed r → IsWellFormed (change r)
  pub spelled : (r : Record) → replace_range (spell r) (low (ends_of r)) (high (ends_of r)) part ≡ spell (change r)
  pub lengths : (r : Record) → with_length (part_lengths r) (length part) ≡ part_lengths (change r)

-- so it is with the ends that a text keeps
module _ {part : List ℕ} {low high : Ends → ℕ} {with_length : Lengths → ℕ → Lengths} {change : Record → Record} (replaces : Replaces part low high with_length change) where
  ends-changed : (r : Record) → ends_from (with_length (lengths_of (ends_of r)) (length part)) ≡ ends_of (change r)
  ends-changed r = rw (lengths_of-ends_of r, replaces.lengths r) (ends_from-part_lengths (change r))

  pub spells-edited :
      (old new : List ℕ) (ends : Ends) → HasEnds old ends → new ≡ replace_range old (low ends) (high ends) part →
      EachRecord old (λ r. Spells (change r) new)
  spells-edited old new ends kept made r spells = grind (arith, common_steps, ends_each old ends kept r spells)

  pub ends-edited :
      (old new : List ℕ) (ends : Ends) (count : ℕ) → HasEnds old ends → new ≡ replace_range old (low ends) (high ends) part →
      count ≡ length part → HasEnds new (ends_from (with_length (lengths_of ends) count))
  unfolding HasEnds
  ends-edited old new ends count (r, spells, is) made counted =
      (change r, spells-edited old new ends (r, spells, is) made r spells, rw (counted, is) (ends-changed r))

-- ---- one part among the subtags

-- no subtags, or a first one that is not empty
abbrev BeginsWithByte : List (List ℕ) → Type 0
BeginsWithByte [] = Unit {0}
BeginsWithByte ([] ∷ ss) = ⊥
BeginsWithByte ((b ∷ s) ∷ ss) = Unit {0}

-- these subtags, joined, are the part, which is empty only where there are none
record IsPart (part : List ℕ) (ss : List (List ℕ)) : Type 0 where
  pub joined : join ss ≡ part
  pub begins : BeginsWithByte ss

begins : (s : List ℕ) (ss : List (List ℕ)) → 1 ≤ length s → BeginsWithByte (s ∷ ss)
begins s ss some = grind (arith, common_steps)

-- what stands in the text for the part is each of its subtags after a hyphen
after_hyphen-join : (ss : List (List ℕ)) → BeginsWithByte ss → after_hyphen (join ss) ≡ hyphenated ss
after_hyphen-join ss some = grind (arith, common_steps, join-hyphenated)

after_hyphen-part : (part : List ℕ) (ss : List (List ℕ)) → IsPart part ss → after_hyphen part ≡ hyphenated ss
after_hyphen-part part ss is = rw (← is.joined) (after_hyphen-join ss is.begins)

-- to replace the part in the text is to replace its subtags in the list, however they are grouped
join-part_replaced :
    (part x : List ℕ) (xs ys zs us prefix whole changed : List (List ℕ)) → IsPart part us →
    prefix ≡ xs ++ ys → whole ≡ xs ++ (ys ++ zs) → changed ≡ xs ++ (us ++ zs) →
    replace_range (join (x ∷ whole)) (length (join (x ∷ xs))) (length (join (x ∷ prefix))) (after_hyphen part) ≡ join (x ∷ changed)
join-part_replaced part x xs ys zs us prefix whole changed is to_prefix to_whole to_changed = cc (after_hyphen-part part us is, join-replaced x xs ys zs us)

-- ---- what stands after each part

abbrev after_variants : Record → List (List ℕ)
after_variants r = flat_map extension_flat r.extensions ++ private_part_flat r.private_use

abbrev after_region : Record → List (List ℕ)
after_region r = r.variants ++ after_variants r

-- ---- the language

pub language-replaces :
    (primary : List ℕ) (extended : List (List ℕ)) (text : List ℕ) → SpellsLanguage primary extended text →
    Replaces text (λ ends. 0) (λ ends. ends.language) (λ m n. record m { language = n }) (λ r. with_language r primary extended)
language-replaces primary extended text spells = grind (arith, common_steps, drop-join, join-append primary extended)

-- ---- the script and the region

pub is_script-member : (script : Option Script) → IfSome (option_map script_text script) (λ s. IsTrue (is_script s))
is_script-member script = grind (arith, common_steps)

pub is_region-member : (region : Option Region) → IfSome (option_map region_text region) (λ s. IsTrue (is_region s))
is_region-member region = grind (arith, common_steps)

-- a subtag that may be there
script_part : (script : Option (List ℕ)) → IfSome script (λ s. IsTrue (is_script s)) → IsPart (unwrap_or script []) (one_flat script)
script_part script member = grind (arith, common_steps, begins, of_script)

region_part : (region : Option (List ℕ)) → IfSome region (λ s. IsTrue (is_region s)) → IsPart (unwrap_or region []) (one_flat region)
region_part region member = grind (arith, common_steps, begins, of_region)

pub script-replaces :
    (script : Option (List ℕ)) → IfSome script (λ s. IsTrue (is_script s)) →
    Replaces (after_hyphen (unwrap_or script [])) (λ ends. ends.language) (λ ends. ends.script) (λ m n. record m { script = n }) (λ r. with_script r script)
script-replaces script member = grind (arith, common_steps, script_part script member, join-part_replaced, after_hyphen-part)

pub region-replaces :
    (region : Option (List ℕ)) → IfSome region (λ s. IsTrue (is_region s)) →
    Replaces (after_hyphen (unwrap_or region [])) (λ ends. ends.script) (λ ends. ends.region) (λ m n. record m { region = n }) (λ r. with_region r region)
region-replaces region member =
    let is = region_part region member in
    record {
      fits = λ r fits. record { primary = fits.primary; extended = fits.extended; few = fits.few; short = fits.short; script = fits.script; region = member; variants = fits.variants; extensions = fits.extensions; private_use = fits.private_use };
      spelled = λ r.
          join-part_replaced _ r.primary (r.extended ++ one_flat r.script) (one_flat r.region) (after_region r) (one_flat region) _ _ _ is
          (simp append_assoc) (simp append_assoc) (simp append_assoc);
      lengths = λ r. rw (after_hyphen-part _ _ is) refl;
    }

-- ---- the variants, the extensions and the private use part

pub variants-replaces :
    (variants : List (List ℕ)) (text : List ℕ) → SpellsVariants variants text →
    Replaces (after_hyphen text) (λ ends. ends.region) (λ ends. ends.variants) (λ m n. record m { variants = n }) (λ r. with_variants r variants)
variants-replaces variants text spells =
    let is : IsPart text variants = record { joined = spells.joined; begins = variants-begin variants spells.members } in
    record {
      fits = λ r fits. record { primary = fits.primary; extended = fits.extended; few = fits.few; short = fits.short; script = fits.script; region = fits.region; variants = spells.members; extensions = fits.extensions; private_use = fits.private_use };
      spelled = λ r.
          join-part_replaced _ r.primary (r.extended ++ (one_flat r.script ++ one_flat r.region)) r.variants (after_variants r) variants _ _ _ is
          (simp append_assoc) (simp append_assoc) (simp append_assoc);
      lengths = λ r. rw (after_hyphen-part _ _ is) refl;
    }
  where
    variants-begin : (variants : List (List ℕ)) → AllByRecursion (λ s. IsTrue (is_variant s)) variants → BeginsWithByte variants
    variants-begin variants members = grind (arith, common_steps, begins, of_variant)

pub extensions-replaces :
    (extensions : List Extension) (text : List ℕ) → SpellsExtensions extensions text →
    Replaces (after_hyphen text) (λ ends. ends.variants) (λ ends. ends.extensions) (λ m n. record m { extensions = n }) (λ r. with_extensions r extensions)
extensions-replaces extensions text spells =
    let is : IsPart text (flat_map extension_flat extensions) = record { joined = spells.joined; begins = extensions-begin extensions } in
    record {
      fits = λ r fits. record { primary = fits.primary; extended = fits.extended; few = fits.few; short = fits.short; script = fits.script; region = fits.region; variants = fits.variants; extensions = spells.members; private_use = fits.private_use };
      spelled = λ r.
          join-part_replaced _ r.primary (r.extended ++ (one_flat r.script ++ (one_flat r.region ++ r.variants))) (flat_map extension_flat r.extensions) (private_part_flat r.private_use) (flat_map extension_flat extensions) _ _ _ is
          (simp append_assoc) (simp append_assoc) (simp append_assoc);
      lengths = λ r. rw (after_hyphen-part _ _ is) refl;
    }
  where
    extensions-begin : (extensions : List Extension) → BeginsWithByte (flat_map extension_flat extensions)
    extensions-begin [] = tt
    extensions-begin (e ∷ extensions) = tt

-- the text of a private use part that may be there, and the subtags of the one that spells it
private_use_part : (part : Option PrivateUse) (text : Option (List ℕ)) → SpellsPrivateUse part text → IsPart (unwrap_or text []) (private_part_flat part)
private_use_part part text spells = grind (arith, common_steps, begins)

pub private_use-replaces :
    (part : Option PrivateUse) (text : Option (List ℕ)) → SpellsPrivateUse part text →
    Replaces (after_hyphen (unwrap_or text [])) (λ ends. ends.extensions) (λ ends. ends.whole) (λ m n. record m { private_use = n }) (λ r. with_private_use r part)
private_use-replaces part text spells =
    let is = private_use_part part text spells in
    record {
      fits = λ r fits. record { primary = fits.primary; extended = fits.extended; few = fits.few; short = fits.short; script = fits.script; region = fits.region; variants = fits.variants; extensions = fits.extensions; private_use = spells.member };
      spelled = λ r.
          join-part_replaced _ r.primary (r.extended ++ (one_flat r.script ++ (one_flat r.region ++ (r.variants ++ flat_map extension_flat r.extensions)))) (private_part_flat r.private_use) [] (private_part_flat part) _ _ _ is
          (simp append_assoc) (simp (append_assoc, append-nil)) (simp (append_assoc, append-nil));
      lengths = λ r. rw (after_hyphen-part _ _ is) refl;
    }

-- a private use part that is kept is spelled by some private list
pub private_use_spelled : (part : Option private.PrivateUse) → (p : Option PrivateUse) × SpellsPrivateUse p (option_map private_use_text part)
unfolding IsPrivate
private_use_spelled None = (None, record { member = tt; joined = refl })
private_use_spelled (Some part) =
    let spelled = IsPrivate-from_test _ part.in_class in
    (Some spelled.0, record { member = spelled.1; joined = ap Some spelled.2 })

-- ---- a tag of a language, a script and a region

-- the record spells the text, and its parts end where the lengths add up to
pub record IsMade (text : List ℕ) (m : Lengths) (r : Record) : Type 0 where
  pub spells : Spells r text
  pub kept : ∥ HasEnds text (ends_from m) ∥₁

pub made_of_parts :
    (primary : List ℕ) (extended : List (List ℕ)) (language : List ℕ) (script region : Option (List ℕ)) (text : List ℕ) →
    SpellsLanguage primary extended language → IfSome script (λ s. IsTrue (is_script s)) → IfSome region (λ s. IsTrue (is_region s)) →
    text ≡ (language ++ after_hyphen (unwrap_or script [])) ++ after_hyphen (unwrap_or region []) →
    IsMade text (lengths (length language) (length (after_hyphen (unwrap_or script []))) (length (after_hyphen (unwrap_or region []))) 0 0 0) (of_parts primary extended script region)
unfolding HasEnds
made_of_parts primary extended language script region text spelled script_member region_member made =
    let r = of_parts primary extended script region in
    let first = after_hyphen-part _ _ (script_part script script_member) in
    let second = after_hyphen-part _ _ (region_part region region_member) in
    let fits : IsWellFormed r = record { primary = spelled.first; extended = spelled.others; few = spelled.few; short = spelled.short; script = script_member; region = region_member; variants = tt; extensions = tt; private_use = tt } in
    let spells : Spells r text = (fits, rw (made, first, second, ← spelled.joined, append-nil (one_flat region)) (join-around primary extended (one_flat script) (one_flat region))) in
    record { spells = spells; kept = ∣ (r, spells, rw (first, second, ← spelled.joined) (ends_from-part_lengths r)) ∣₁ }

-- a part of one subtag takes at most nine bytes
short_part : (P : List ℕ → Type 0) (part : Option (List ℕ)) → ((s : List ℕ) → P s → length s ≤ 8) → IfSome part P → length (after_hyphen (unwrap_or part [])) ≤ 9
short_part P part short member = grind (arith, common_steps)

pub short_script : (script : Option (List ℕ)) → IfSome script (λ s. IsTrue (is_script s)) → length (after_hyphen (unwrap_or script [])) ≤ 9
short_script script member = short_part _ script (λ s h. (of_script s h).short) member

pub short_region : (region : Option (List ℕ)) → IfSome region (λ s. IsTrue (is_region s)) → length (after_hyphen (unwrap_or region [])) ≤ 9
short_region region member = short_part _ region (λ s h. (of_region s h).short) member

-- ---- where it stands

-- what a tag answers for its ends are those of its text
pub ends_of_tag : (text : List ℕ) (kept ends : Ends) → ∥ HasEnds text kept ∥₁ → EachRecord text (λ r. ends ≡ ends_of r) → HasEnds text ends
unfolding HasEnds
ends_of_tag text kept ends merely answered = let (r, spells, at) = ends_had text kept merely in (r, spells, answered r spells)

pub part_order : (p : Part) (text : List ℕ) (ends : Ends) → HasEnds text ends → part_start p ends ≤ part_end p ends
part_order p text ends kept = grind (arith, common_steps, ends_ordered text ends kept)

pub part_within : (p : Part) (text : List ℕ) (ends : Ends) → HasEnds text ends → part_end p ends ≤ length text
part_within p text ends kept = grind (arith, common_steps, ends_ordered text ends kept, ends_whole text ends kept)

-- ---- what the new text is

-- the record of the old one with the part spells it
pub part_set :
    (p : Part) (old new : List ℕ) (ends : Ends) → HasEnds old ends →
    new ≡ replace_range old (part_start p ends) (part_end p ends) (put_text p) → SetsPart p old new
part_set (Language language) old new ends kept made =
    λ r spells primary extended spelled. spells-edited (language-replaces primary extended (language_text language) spelled) old new ends kept made r spells
part_set (ScriptPart script) old new ends kept made =
    spells-edited (script-replaces (option_map script_text script) (is_script-member script)) old new ends kept made
part_set (RegionPart region) old new ends kept made =
    spells-edited (region-replaces (option_map region_text region) (is_region-member region)) old new ends kept made
part_set (Variants variants) old new ends kept made =
    λ r spells members spelled. spells-edited (variants-replaces members (variants_text variants) spelled) old new ends kept made r spells
part_set (Extensions extensions) old new ends kept made =
    λ r spells members spelled. spells-edited (extensions-replaces members (extensions_text extensions) spelled) old new ends kept made r spells
part_set (PrivateUsePart private_use) old new ends kept made =
    λ r spells member spelled. spells-edited (private_use-replaces member _ spelled) old new ends kept made r spells

-- a change of the record that the part makes
record Changes (p : Part) (change : Record → Record) : Type 0 where
  replaces : Replaces (put_text p) (part_start p) (part_end p) (with_length p) change
  set : (old new : List ℕ) → SetsPart p old new → EachRecord old (λ r. Spells (change r) new)
  back : (r : Record) → with_old_part p (change r) r ≡ r

changes : (p : Part) → (change : Record → Record) × Changes p change
changes (Language language) =
    let some = IsLanguage-from_test _ language.in_class in
    (λ r. with_language r some.0 some.1, record { replaces = language-replaces some.0 some.1 _ some.2; set = λ _ _ set r is. set r is some.0 some.1 some.2; back = λ r. refl })
changes (ScriptPart script) = (λ r. with_script r _, record { replaces = script-replaces _ (is_script-member script); set = λ _ _ set. set; back = λ r. refl })
changes (RegionPart region) = (λ r. with_region r _, record { replaces = region-replaces _ (is_region-member region); set = λ _ _ set. set; back = λ r. refl })
changes (Variants variants) =
    let some = IsVariants-from_test _ variants.in_class in
    (λ r. with_variants r some.0, record { replaces = variants-replaces some.0 _ some.1; set = λ _ _ set r is. set r is some.0 some.1; back = λ r. refl })
changes (Extensions extensions) =
    let some = IsExtensions-from_test _ extensions.in_class in
    (λ r. with_extensions r some.0, record { replaces = extensions-replaces some.0 _ some.1; set = λ _ _ set r is. set r is some.0 some.1; back = λ r. refl })
changes (PrivateUsePart private_use) =
    let some = private_use_spelled private_use in
    (λ r. with_private_use r some.0, record { replaces = private_use-replaces some.0 _ some.1; set = λ _ _ set r is. set r is some.0 some.1; back = λ r. refl })

-- its parts end where the lengths add up to, of which that of the part is another
pub part_kept :
    (p : Part) (old new : List ℕ) (ends : Ends) (len : ℕ) → HasEnds old ends →
    new ≡ replace_range old (part_start p ends) (part_end p ends) (put_text p) → len ≡ length (put_text p) →
    HasEnds new (ends_from (with_length p (lengths_of ends) len))
part_kept p old new ends len kept made counted = ends-edited (changes p).1.replaces old new ends len kept made counted

-- ---- with the part of the old record, the new record is the old record

pub part_comes_back : (p : Part) (old new : List ℕ) → SetsPart p old new → ComesBack (with_old_part p) old new
part_comes_back p old new set r spells q spelled =
    let made = (changes p).1.set old new set r spells in
    ap (λ x. with_old_part p x r) (spelled_once q _ spelled.0 made.0 (spelled.1 ∙ sym made.1)) ∙ (changes p).1.back r

-- ---- to set a part to what it was gives the very text back, since a record spells one text

pub same_text : (r : Record) (t v : List ℕ) → Spells r t → Spells r v → v ≡ t
same_text r t v is other = sym other.1 ∙ is.1
