-- Validity ignores case: a text that is alike a valid tag is valid.
use Rattle.langtag_scan.proofs.Prelude.{◌≡◌, ℕ, ◌⊎◌, Bool, IsTrue, List, [], ◌∷◌, map, length, list_any, bytes_eq, Option, option_map, AllByRecursion, inl, inr, refl, sym, ap, ◌∙◌, arith, common_steps, nat_tests, length-map}
use Rattle.std.specs.Prelude.{IfSome}
use Rattle.langtag_scan.specs.Grammar.{Alike, are_alike, fold_text, fold_byte, fold_extension, AlikeRecords, Extension, Record, EachRecord, IsTag}
use Rattle.langtag_scan.proofs.CaseLaw.{alike_parts, alike_tag, fold_text-twice}
use Rattle.langtag.specs.Repeat.{are_alike_bytes}
use Rattle.langtag.specs.Registered.{IsGrandfathered}
use Rattle.langtag.proofs.RegisteredLaws.{grandfathered_alike}
use Rattle.langtag_fields.specs.Subtags.{language_subtags, script_subtags, region_subtags, variant_subtags}
use Rattle.langtag_fields.specs.Registered.{is_registered_language, is_registered_extlang, is_registered_script, is_registered_region, is_registered_variant}
use Rattle.langtag_fields.specs.Valid.{IsValidRecord, IsValid}
use Rattle.langtag_fields.proofs.RepeatCase.{bytes-fold, none_alike, singletons-fold}
use Rattle.langtag_fields.proofs.Values.{registered_extlang-alike}

registered_language-alike : (a b : List ℕ) → Alike a b → is_registered_language a ≡ is_registered_language b
unfolding is_registered_language
registered_language-alike a b alike = ap (λ t. list_any (λ y. bytes_eq t (fold_text y)) language_subtags) alike

registered_script-alike : (a b : List ℕ) → Alike a b → is_registered_script a ≡ is_registered_script b
unfolding is_registered_script
registered_script-alike a b alike = ap (λ t. list_any (λ y. bytes_eq t (fold_text y)) script_subtags) alike

registered_region-alike : (a b : List ℕ) → Alike a b → is_registered_region a ≡ is_registered_region b
unfolding is_registered_region
registered_region-alike a b alike = ap (λ t. list_any (λ y. bytes_eq t (fold_text y)) region_subtags) alike

registered_variant-alike : (a b : List ℕ) → Alike a b → is_registered_variant a ≡ is_registered_variant b
unfolding is_registered_variant
registered_variant-alike a b alike = ap (λ t. list_any (λ y. bytes_eq t (fold_text y)) variant_subtags) alike

module _ (p : List ℕ → Bool) (ignores : (a b : List ℕ) → Alike a b → p a ≡ p b) where
  all_alike : (ss ts : List (List ℕ)) → map fold_text ss ≡ map fold_text ts → AllByRecursion (λ s. IsTrue (p s)) ss → AllByRecursion (λ s. IsTrue (p s)) ts
  all_alike ss [] same all = cc
  all_alike [] (t ∷ ts) same all = absurd cc
  all_alike (s ∷ ss) (t ∷ ts) same all = grind (arith, common_steps, ignores s t, all_alike ss ts)

  some_alike : (o u : Option (List ℕ)) → option_map fold_text o ≡ option_map fold_text u → IfSome o (λ s. IsTrue (p s)) → IfSome u (λ s. IsTrue (p s))
  some_alike o u same is = grind (arith, common_steps, ignores)

-- ---- what is repeated

texts-fold : (a b : List ℕ) → are_alike (fold_text a) (fold_text b) ≡ are_alike a b
texts-fold a b = rw (fold_text-twice a, fold_text-twice b) refl

singletons_alike : (es fs : List Extension) → map fold_extension es ≡ map fold_extension fs → map fold_byte (map (λ e. e.singleton) es) ≡ map fold_byte (map (λ e. e.singleton) fs)
singletons_alike es fs same = sym (singletons-fold es) ∙ ap (λ z. map (λ e. e.singleton) z) same ∙ singletons-fold fs

valid_record_alike : (r q : Record) → AlikeRecords r q → IsValidRecord r → IsValidRecord q
valid_record_alike r q like is = record {
  primary = grind (arith, common_steps, registered_language-alike r.primary q.primary, ap (λ z. z.primary) like, is.primary);
  extended = all_alike is_registered_extlang registered_extlang-alike r.extended q.extended (ap (λ z. z.extended) like) is.extended;
  one_extended = omega (arith, is.one_extended, sym (length-map r.extended fold_text) ∙ ap (λ z. length z.extended) like ∙ length-map q.extended fold_text);
  script = some_alike is_registered_script registered_script-alike r.script q.script (ap (λ z. z.script) like) is.script;
  region = some_alike is_registered_region registered_region-alike r.region q.region (ap (λ z. z.region) like) is.region;
  variants = all_alike is_registered_variant registered_variant-alike r.variants q.variants (ap (λ z. z.variants) like) is.variants;
  no_repeated_variant = none_alike are_alike fold_text texts-fold r.variants q.variants (ap (λ z. z.variants) like) is.no_repeated_variant;
  no_repeated_singleton = none_alike are_alike_bytes fold_byte bytes-fold (map (λ e. e.singleton) r.extensions) (map (λ e. e.singleton) q.extensions)
      (singletons_alike r.extensions q.extensions (ap (λ z. z.extensions) like)) is.no_repeated_singleton;
}

pub valid_alike : (t u : List ℕ) → Alike t u → IsValid t → IsValid u
unfolding IsValid
valid_alike t u alike (tag, inl old) = (alike_tag t u alike tag, inl (grandfathered_alike t u alike old))
valid_alike t u alike (tag, inr each) = (
  alike_tag t u alike tag,
  inr (λ q spells.
      let like = alike_parts u t (sym alike) q spells in
      valid_record_alike like.0 q (sym like.2) (each like.0 like.1)),
)
