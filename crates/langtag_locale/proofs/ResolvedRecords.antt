-- The record of the locale to format with: it is well-formed, and is put part by part.
use Rattle.langtag_keyword.proofs.Common.{common_steps, ◌≡◌, ◌≤◌, ◌==◌, ◌||◌, ℕ, List, [], ◌∷◌, ◌++◌, true, false, not, cond, subst, Bool, length, fold, Option, Some, None, refl, sym, ap, ◌∙◌, arith, nat_tests, each-append, AllByRecursion, IsTrue, Output, Pushes, pushes_joined, pushes_same, with_joined, Record, IsWellFormed, one_flat, spell, join, of_primary, of_variant, is_region, is_script, is_variant, length-join, unwrap_or, option_map_or}
use Rattle.langtag_scan.specs.Grammar.{flat, Extension}
use Rattle.langtag_scan.proofs.Laws.{of_region}
use Rattle.langtag_scan.proofs.Prelude.{IfSome}
use Rattle.langtag_text.specs.Fields.{subtag_of}
use Rattle.langtag_text.specs.Output.{with_subtag}
use Rattle.std.specs.Prelude.{codes}
use Rattle.langtag_text.specs.Fields.{Fields}
use Rattle.langtag_text.specs.FieldClasses.{is_region_field}
use Rattle.langtag_text.specs.RecommendedCase.{capital_text}
use Rattle.langtag_cldr.specs.Definitions.{add_likely_subtags, known, or_else}
use Rattle.langtag_likely.specs.Maximal.{fields_of, is_read, maximal_record, put_fields}
use Rattle.langtag_likely.proofs.GoodForms.{maximal_well_formed}
use Rattle.langtag_keyword.proofs.Common.{before_key, extension_found, find_extension, flat_map, fold_text, in_alphabet, is_key, keyword_form, keywords_form, unicode_form, unicode_value}
use Rattle.langtag_keyword.specs.Form.{keys_in_order}
use Rattle.langtag_keyword.specs.Keywords.{subtags_of}
use Rattle.langtag_keyword.proofs.AlphabetLaws.{each-back}
use Rattle.langtag_keyword.proofs.FormRecords.{Good, good-changed, good-unicode_form}
use Rattle.langtag_posix.proofs.PosixNameRead.{capital_region}
use Rattle.langtag_locale.specs.Resolved.{Wish, from_greater, is_greater_key, is_likely_with, likely_script, new_region, resolved_record, resolved_subtags, script_with, remaining_subtags, with_keywords}

-- ---- parts

some_text : (text : List ℕ) → 1 ≤ length text → one_flat (subtag_of text) ≡ text ∷ []
some_text [] some = absurd (omega (arith, some))
some_text (b ∷ text) some = refl

-- a part as a field, and as a part again
pub part_again : (part : Option (List ℕ)) → ((s : List ℕ) → part ≡ Some s → 1 ≤ length s) → subtag_of (unwrap_or part []) ≡ part
part_again None some = refl
part_again (Some []) some = absurd (omega (arith, some [] refl))
part_again (Some (b ∷ s)) some = refl

-- variants that are put as one text
pub variants_pushed :
    (vs : List (List ℕ)) (text : List ℕ) (old new : Output) → AllByRecursion (λ s. IsTrue (is_variant s)) vs → text ≡ join vs → Pushes (one_flat (subtag_of text)) old new → Pushes vs old new
variants_pushed [] text old new all is these = pushes_same _ _ old new (ap (λ t. one_flat (subtag_of t)) is) these
variants_pushed (v ∷ vs) text old new all is these =
    let first = (of_variant v all.0).some in
    let whole = some_text (join (v ∷ vs)) (omega (arith, first, length-join v vs)) in
    pushes_joined v vs old new first (pushes_same _ _ old new (ap (λ t. one_flat (subtag_of t)) is ∙ whole) these)

pub resolved_joined : (w : Wish) (r : Record) → IsWellFormed r → fold with_subtag [] (flat (resolved_record w r)) ≡ spell (resolved_record w r)
unfolding with_subtag resolved_record
resolved_joined w r fits = sym (with_joined [] r.primary _ (of_primary r.primary fits.primary).some)

pub region_some : (r : Record) → IsWellFormed r → (s : List ℕ) → r.region ≡ Some s → 1 ≤ length s
region_some r fits s is = by_part r.region fits.region is
  where
    by_part : (o : Option (List ℕ)) → IfSome o (λ s. IsTrue (is_region s)) → o ≡ Some s → 1 ≤ length s
    by_part None fits is = absurd cc
    by_part (Some t) fits is = grind (arith, nat_tests, (of_region t fits).some)

-- ---- the record is well-formed

script_by :
    (r : Record) (o : Option Fields) → IsWellFormed (option_map_or (put_fields r) o r) → IfSome r.script (λ s. IsTrue (is_script s)) →
    IfSome (subtag_of (option_map_or (λ most. most.script) o (known (codes "Zzzz") (unwrap_or r.script [])))) (λ s. IsTrue (is_script s))
script_by r (Some most) well fits = well.script
script_by r None well fits = grind (arith, common_steps, nat_tests)

script_fits : (r : Record) (region : List ℕ) → IsWellFormed r → IfSome (subtag_of (script_with r region)) (λ s. IsTrue (is_script s))
unfolding maximal_record
script_fits r region fits = by_tests (length region == 0) (is_read r.primary r.extended) (is_likely_with (fields_of r) region) refl
  where
    own : IfSome (subtag_of (unwrap_or r.script [])) (λ s. IsTrue (is_script s))
    own = grind (arith, common_steps, nat_tests, fits.script)

    by_tests :
        (none read likely : Bool) → is_read r.primary r.extended ≡ read →
        IfSome (subtag_of (cond ((none || not read) || likely) (unwrap_or r.script []) (likely_script (fields_of r)))) (λ s. IsTrue (is_script s))
    by_tests true read likely is = own
    by_tests false false likely is = own
    by_tests false true true is = own
    by_tests false true false is =
        script_by r (add_likely_subtags (fields_of r))
        (subst (λ read. IsWellFormed (option_map_or (put_fields r) (cond read (add_likely_subtags (fields_of r)) None) r)) is (maximal_well_formed r fits)) fits.script

region_fits :
    (r : Record) (region : List ℕ) → IsWellFormed r → is_region_field region ≡ true → IfSome (or_else (subtag_of (capital_text (new_region r region))) r.region) (λ s. IsTrue (is_region s))
region_fits r [] fits is = grind (arith, common_steps, nat_tests, fits.region)
region_fits r (b ∷ region) fits is = grind (arith, common_steps, nat_tests, fits.region, capital_region (b ∷ region))

-- ---- the subtags of `u`

module _ (P : List ℕ → Type 0) where
  each-front : (xs ys : List (List ℕ)) → AllByRecursion P (xs ++ ys) → AllByRecursion P xs
  each-front [] ys all = tt
  each-front (x ∷ xs) ys all = (all.0, each-front xs ys all.1)

  each_remaining : (w : Wish) (gone : Bool) (ss : List (List ℕ)) → AllByRecursion P ss → AllByRecursion P (remaining_subtags w gone ss)
  each_remaining w gone [] all = tt
  each_remaining w gone (s ∷ ss) all = grind (arith, common_steps, each_remaining w true ss all.1, each_remaining w false ss all.1)

  pub each_early : (key : List ℕ) (ss : List (List ℕ)) → AllByRecursion P ss → AllByRecursion P (before_key (is_greater_key key) ss)
  each_early key [] all = tt
  each_early key (s ∷ ss) all = grind (arith, common_steps, each_early key ss all.1)

  pub each_late : (key : List ℕ) (ss : List (List ℕ)) → AllByRecursion P ss → AllByRecursion P (from_greater key ss)
  each_late key [] all = tt
  each_late key (s ∷ ss) all = grind (arith, common_steps, each_late key ss all.1)

  each_with : (f : List ℕ → List (List ℕ)) (keys others : List (List ℕ)) → AllByRecursion P (flat_map f keys) → AllByRecursion P others → AllByRecursion P (with_keywords f keys others)
  each_with f [] others these all = all
  each_with f (key ∷ keys) others these all =
      each-append _ (before_key (is_greater_key key) others) (f key ++ with_keywords f keys (from_greater key others)) (each_early key others all)
      (each-append _ (f key) (with_keywords f keys (from_greater key others)) (each-front (f key) (flat_map f keys) these)
      (each_with f keys (from_greater key others) (each-back _ (f key) (flat_map f keys) these) (each_late key others all)))

  -- what holds of the subtags that stay, and of the form of the range's subtags, holds of each
  pub each_resolved_subtag : (w : Wish) (ss : List (List ℕ)) → AllByRecursion P (unicode_form w.unicode) → AllByRecursion P ss → AllByRecursion P (resolved_subtags w ss)
  each_resolved_subtag w ss own all =
      each_with (keyword_form is_key unicode_value w.unicode) (keys_in_order is_key w.unicode) (remaining_subtags w false ss)
      (each-back _ (in_alphabet (before_key is_key w.unicode)) (keywords_form is_key unicode_value w.unicode) own) (each_remaining w false ss all)

good_resolved : (w : Wish) (ss : List (List ℕ)) → Good w.unicode → Good ss → Good (resolved_subtags w ss)
good_resolved w ss own = each_resolved_subtag _ w ss (good-unicode_form w.unicode own)

pub resolved_well : (w : Wish) (r : Record) → IsWellFormed r → is_region_field w.region ≡ true → Good w.unicode → IsWellFormed (resolved_record w r)
unfolding resolved_record
resolved_well w r fits region own = record {
  primary = fits.primary;
  extended = fits.extended;
  few = fits.few;
  short = fits.short;
  script = script_fits r (new_region r w.region) fits;
  region = region_fits r w.region fits region;
  variants = fits.variants;
  extensions = good-changed (resolved_subtags w) (λ ss good. good_resolved w ss own good) _ r.extensions fits.extensions;
  private_use = fits.private_use;
}

-- the subtags of `u`
pub good_unicode : (r : Record) → IsWellFormed r → Good (subtags_of 117 r)
good_unicode r fits = by_found (find_extension 117 r.extensions) refl
  where
    by_found : (o : Option Extension) → find_extension 117 r.extensions ≡ o → Good (option_map_or (λ e. e.subtags) o [])
    by_found None is = tt
    by_found (Some e) is = (extension_found 117 r.extensions fits.extensions e is).subtags
