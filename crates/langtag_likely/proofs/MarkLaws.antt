-- The region that Android writes after a language is found by whether the extended language is registered.
use Rattle.langtag_scan.proofs.Prelude.{◌≡◌, ℕ, true, false, IsTrue, List, [], ◌∷◌, arith, refl, ap, ◌∙◌, AllByRecursion, common_steps, nat_tests, unwrap_or}
use Rattle.langtag_scan.specs.Grammar.{IsWellFormed, Record, Spells, is_extended, is_region}
use Rattle.langtag_text.specs.Fields.{subtag_of}
use Rattle.langtag_text.specs.FieldClasses.{is_region_field}
use Rattle.langtag_text.proofs.FieldClasses.{from_region}
use Rattle.langtag_fields.specs.Fields.{is_prefix_of}
use Rattle.langtag_cldr.specs.Definitions.{after_mark, first_marked, last_language, or_other}
use Rattle.langtag_likely.proofs.Definitions.{is_read}
use Rattle.langtag_likely.specs.Marked.{as_read, mark_after, mark_of, with_mark}

-- the last of the extended subtags at the start is the last of all
last_read :
    (primary before first : List ℕ) (others : List (List ℕ)) → AllByRecursion (λ s. IsTrue (is_extended s)) (first ∷ others) →
    is_prefix_of primary (last_language before (first ∷ others)) ≡ is_read primary (first ∷ others)
last_read primary before first [] all = rw all.0 refl
last_read primary before first (second ∷ others) all = rw all.0 (last_read primary first second others all.1)

read_none : (primary : List ℕ) (extended : List (List ℕ)) → AllByRecursion (λ s. IsTrue (is_extended s)) extended → is_read primary extended ≡ true → mark_after primary extended ≡ []
read_none primary [] all is = refl
read_none primary (first ∷ others) all is = rw (last_read primary [] first others all, is) refl

unread_first :
    (primary : List ℕ) (extended : List (List ℕ)) → AllByRecursion (λ s. IsTrue (is_extended s)) extended → is_read primary extended ≡ false → mark_after primary extended ≡ first_marked extended
unread_first primary [] all is = refl
unread_first primary (first ∷ others) all is = rw (last_read primary [] first others all, is) refl

pub none_marked : (r : Record) (text : List ℕ) → Spells r text → is_read r.primary r.extended ≡ true → mark_of r ≡ []
none_marked r text spells is = read_none r.primary r.extended spells.0.extended is

pub first_is_marked : (r : Record) (text : List ℕ) → Spells r text → is_read r.primary r.extended ≡ false → mark_of r ≡ first_marked r.extended
first_is_marked r text spells is = unread_first r.primary r.extended spells.0.extended is

-- ---- the record as it is read

after_mark-class : (subtag : List ℕ) → is_region_field (after_mark subtag) ≡ true
after_mark-class [] = refl
after_mark-class (mark ∷ region) = grind (arith, nat_tests, from_region region)

mark-class : (primary : List ℕ) (extended : List (List ℕ)) → is_region_field (mark_after primary extended) ≡ true
mark-class primary [] = refl
mark-class primary (first ∷ others) = grind (arith, nat_tests, after_mark-class first)

with_mark-fits : (r : Record) (mark : List ℕ) → IsWellFormed r → is_region_field mark ≡ true → IsWellFormed (with_mark r mark)
with_mark-fits r [] fits is = fits
with_mark-fits r (b ∷ mark) fits is = grind (arith, nat_tests, from_region, fits)

pub read_fits : (r : Record) → IsWellFormed r → IsWellFormed (as_read r)
read_fits r fits = with_mark-fits r (mark_of r) fits (mark-class r.primary r.extended)

-- the parts that are read as they stand
pub record AreKept (r q : Record) : Type 0 where
  pub primary : q.primary ≡ r.primary
  pub script : q.script ≡ r.script
  pub variants : q.variants ≡ r.variants
  pub extensions : q.extensions ≡ r.extensions
  pub private_use : q.private_use ≡ r.private_use

with_mark-keeps : (r : Record) (mark : List ℕ) → AreKept r (with_mark r mark)
with_mark-keeps r [] = record { primary = refl; script = refl; variants = refl; extensions = refl; private_use = refl }
with_mark-keeps r (b ∷ mark) = record { primary = refl; script = refl; variants = refl; extensions = refl; private_use = refl }

pub read_keeps : (r : Record) → AreKept r (as_read r)
read_keeps r = with_mark-keeps r (mark_of r)

-- the region
pub either_region : (region mark : List ℕ) → is_region_field region ≡ true → is_region_field mark ≡ true → is_region_field (or_other region mark) ≡ true
either_region [] mark good other = other
either_region (b ∷ region) mark good other = good

or_none : (region : List ℕ) → or_other region [] ≡ region
or_none [] = refl
or_none (b ∷ region) = refl

or_some : (region : List ℕ) (b : ℕ) (mark : List ℕ) → or_other region (b ∷ mark) ≡ unwrap_or (subtag_of (or_other region (b ∷ mark))) []
or_some [] b mark = refl
or_some (c ∷ region) b mark = refl

with_mark-region : (r : Record) (mark : List ℕ) → or_other (unwrap_or r.region []) mark ≡ unwrap_or (with_mark r mark).region []
with_mark-region r [] = or_none (unwrap_or r.region [])
with_mark-region r (b ∷ mark) = or_some (unwrap_or r.region []) b mark

pub read_region : (r : Record) (mark : List ℕ) → mark ≡ mark_of r → or_other (unwrap_or r.region []) mark ≡ unwrap_or (as_read r).region []
read_region r mark is = with_mark-region r mark ∙ ap (λ m. unwrap_or (with_mark r m).region []) is
