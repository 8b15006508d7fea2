-- Android's region after a language does not change with the case of letters.
use Rattle.langtag_scan.proofs.Prelude.{◌≡◌, ℕ, ◌==◌, ◌&&◌, cond, Bool, List, [], ◌∷◌, refl, ap, ◌∙◌, map, arith, common_steps, nat_tests}
use Rattle.langtag_scan.specs.Grammar.{fold_byte, fold_text, is_extended, is_region}
use Rattle.langtag_scan.proofs.CaseLaw.{classes-fold, fold_byte-twice, fold_text-twice}
use Rattle.langtag_fields.specs.Fields.{is_prefix_of}
use Rattle.langtag_cldr.specs.Definitions.{after_mark, is_extended_by, last_language, marked_region, or_other}
use Rattle.langtag_cldr.proofs.AlikeFields.{is_prefix_of-alike}

pub cond-map : {A B : Type 0} (f : A → B) (b : Bool) (x y : A) → cond b (f x) (f y) ≡ f (cond b x y)
cond-map f b x y = grind arith

pub last_language-fold : (language : List ℕ) (subtags : List (List ℕ)) → last_language (fold_text language) (map fold_text subtags) ≡ fold_text (last_language language subtags)
last_language-fold language [] = refl
last_language-fold language (s ∷ others) = rw (ap (λ c. c.extended) (classes-fold s), last_language-fold s others) (cond-map fold_text (is_extended s) (last_language s others) language)

pub is_extended_by-fold : (language : List ℕ) (subtags : List (List ℕ)) → is_extended_by (fold_text language) (map fold_text subtags) ≡ is_extended_by language subtags
is_extended_by-fold language subtags = ap (is_prefix_of (fold_text language)) (last_language-fold [] subtags) ∙ is_prefix_of-alike (fold_text language) language _ _ (fold_text-twice language) (fold_text-twice (last_language [] subtags))

pub or_other-fold : (text other : List ℕ) → or_other (fold_text text) (fold_text other) ≡ fold_text (or_other text other)
or_other-fold text other = grind (arith, nat_tests, common_steps)

after_mark-fold : (subtag : List ℕ) → after_mark (fold_text subtag) ≡ fold_text (after_mark subtag)
after_mark-fold [] = refl
after_mark-fold (mark ∷ region) =
    rw (fold_byte-twice mark, ap (λ c. c.region) (classes-fold region)) (cond-map fold_text ((fold_byte mark == 114) && is_region region) region [])

pub marked_region-fold : (language : List ℕ) (subtags : List (List ℕ)) → marked_region (fold_text language) (map fold_text subtags) ≡ fold_text (marked_region language subtags)
marked_region-fold language subtags = grind (arith, nat_tests, common_steps, is_extended_by-fold, after_mark-fold, cond-map)
