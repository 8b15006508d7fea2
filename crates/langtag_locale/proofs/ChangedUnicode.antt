-- The extension `u` with changed subtags: what stays of the others, and that a change that is made twice is made once.
use Rattle.langtag_keyword.proofs.Common.{common_steps, ◌≡◌, ◌==◌, ℕ, Bool, true, false, not, cond, List, [], ◌∷◌, ◌++◌, Option, None, Some, find, map, subst, eqb-true, refl, sym, ap, ◌∙◌, arith, nat_tests, append_assoc, append-nil, AllByRecursion, is_some, Extension, IsWellFormedExtension, before_key, is_key, is_of, changed_from, extension_of, with_changed_u, find_extension, option_map_or, nat_lt}
use Rattle.langtag_keyword.proofs.KeywordBlocks.{extension-some, find_u, u_is_u}
use Rattle.langtag_scan.specs.Case.{fold_byte}
use Rattle.langtag_keyword.proofs.IdentifierParts.{Apart}
use Rattle.langtag.specs.Definitions.{are_alike_bytes}
use Rattle.langtag_locale.specs.ResolvedLaws.{attributes, other_extensions}

-- ---- the parts that stay

attributes-u : (n : ℕ) (ss : List (List ℕ)) (es : List Extension) → (fold_byte n == 117) ≡ true → attributes (extension_of n ss ++ es) ≡ before_key is_key ss ++ attributes es
attributes-u n [] es is = refl
attributes-u n (s ∷ ss) es is = ap (λ b. cond b (before_key is_key (s ∷ ss)) [] ++ attributes es) is

others-u : (n : ℕ) (ss : List (List ℕ)) (es : List Extension) → (fold_byte n == 117) ≡ true → other_extensions (extension_of n ss ++ es) ≡ other_extensions es
others-u n [] es is = refl
others-u n (s ∷ ss) es is = ap (λ b. cond (not b) (record { singleton = n; subtags = s ∷ ss } ∷ other_extensions es) (other_extensions es)) is

pub u_byte : (fold_byte 117 == 117) ≡ true
unfolding fold_byte
u_byte = refl

module _ (change : List (List ℕ) → List (List ℕ)) where
  pub attributes-changed : ((ss : List (List ℕ)) → before_key is_key (change ss) ≡ before_key is_key ss) → (stands : Bool) (es : List Extension) → attributes (changed_from change stands es) ≡ attributes es
  attributes-changed keeps stands [] = ap attributes (sym (append-nil (extension_of 117 (change [])))) ∙ attributes-u 117 (change []) [] u_byte ∙ ap (λ t. t ++ []) (keeps [])
  attributes-changed keeps stands (e ∷ es) = by_tests (changed_from change stands es) (attributes-changed keeps stands es) stands (is_of 117 e) (nat_lt 117 (fold_byte e.singleton)) refl
    where
      by_tests :
          (rest : List Extension) → attributes rest ≡ attributes es → (b u after : Bool) → is_of 117 e ≡ u →
          attributes (cond (cond b u after) (cond b (extension_of e.singleton (change e.subtags)) (extension_of 117 (change []) ++ e ∷ []) ++ es) (e ∷ rest)) ≡ attributes (e ∷ es)
      by_tests rest same true true after is = attributes-u e.singleton (change e.subtags) es is ∙ ap (λ t. t ++ attributes es) (keeps e.subtags) ∙ ap (λ b. cond b (before_key is_key e.subtags) [] ++ attributes es) (sym is)
      by_tests rest same true false after is = ap (λ t. cond (is_of 117 e) (before_key is_key e.subtags) [] ++ t) same
      by_tests rest same false u true is = ap attributes (append_assoc (extension_of 117 (change [])) (e ∷ []) es) ∙ attributes-u 117 (change []) (e ∷ es) u_byte ∙ ap (λ t. t ++ attributes (e ∷ es)) (keeps [])
      by_tests rest same false u false is = ap (λ t. cond (is_of 117 e) (before_key is_key e.subtags) [] ++ t) same

  pub others-changed : (stands : Bool) (es : List Extension) → other_extensions (changed_from change stands es) ≡ other_extensions es
  others-changed stands [] = ap other_extensions (sym (append-nil (extension_of 117 (change [])))) ∙ others-u 117 (change []) [] u_byte
  others-changed stands (e ∷ es) = by_tests (changed_from change stands es) (others-changed stands es) stands (is_of 117 e) (nat_lt 117 (fold_byte e.singleton)) refl
    where
      by_tests :
          (rest : List Extension) → other_extensions rest ≡ other_extensions es → (b u after : Bool) → is_of 117 e ≡ u →
          other_extensions (cond (cond b u after) (cond b (extension_of e.singleton (change e.subtags)) (extension_of 117 (change []) ++ e ∷ []) ++ es) (e ∷ rest)) ≡ other_extensions (e ∷ es)
      by_tests rest same true true after is = others-u e.singleton (change e.subtags) es is ∙ ap (λ b. cond (not b) (e ∷ other_extensions es) (other_extensions es)) (sym is)
      by_tests rest same true false after is = ap (λ t. cond (not (is_of 117 e)) (e ∷ t) t) same
      by_tests rest same false u true is = ap other_extensions (append_assoc (extension_of 117 (change [])) (e ∷ []) es) ∙ others-u 117 (change []) (e ∷ es) u_byte
      by_tests rest same false u false is = ap (λ t. cond (not (is_of 117 e)) (e ∷ t) t) same

-- ---- extensions without `u`

abbrev pub HaveNoU : List Extension → Type 0
HaveNoU es = AllByRecursion (λ e. is_of 117 e ≡ false) es

pub none_u : (es : List Extension) → HaveNoU es → find (is_of 117) es ≡ None
none_u [] none = refl
none_u (e ∷ es) none = grind (arith, nat_tests, none_u es none.1, none.0)

pub no_u : (es : List Extension) → find (is_of 117) es ≡ None → HaveNoU es
no_u [] none = tt
no_u (e ∷ es) none = grind (arith, common_steps, no_u es)

-- without a `u`, only what becomes of no subtags counts
changed-none : (one two : List (List ℕ) → List (List ℕ)) (es : List Extension) → one [] ≡ two [] → changed_from one false es ≡ changed_from two false es
changed-none one two [] same = ap (extension_of 117) same
changed-none one two (e ∷ es) same = rw (same, changed-none one two es same) refl

abbrev pub placed : List (List ℕ) → List Extension → List Extension
placed ss es = changed_from (λ _. ss) false es

placed-nothing : (es : List Extension) → placed [] es ≡ es
placed-nothing [] = refl
placed-nothing (e ∷ es) = grind (arith, nat_tests, placed-nothing es)

placed-found : (s : List ℕ) (ss : List (List ℕ)) (es : List Extension) → HaveNoU es → find (is_of 117) (placed (s ∷ ss) es) ≡ Some (record { singleton = 117; subtags = s ∷ ss })
placed-found s ss [] none = grind (arith, nat_tests, u_is_u (s ∷ ss))
placed-found s ss (e ∷ es) none = grind (arith, nat_tests, u_is_u (s ∷ ss), placed-found s ss es none.1, none.0)

pub with-found : (change : List (List ℕ) → List (List ℕ)) (es : List Extension) (o : Option Extension) → find (is_of 117) es ≡ o → with_changed_u change es ≡ changed_from change (is_some o) es
with-found change es o is = ap (λ p. changed_from change (is_some p) es) (find_u es ∙ is)

module _ (change : List (List ℕ) → List (List ℕ)) where
  changed-placed : (s : List ℕ) (ss : List (List ℕ)) (es : List Extension) → HaveNoU es → changed_from change true (placed (s ∷ ss) es) ≡ placed (change (s ∷ ss)) es
  changed-placed s ss [] none = grind (arith, nat_tests, u_is_u (s ∷ ss), append-nil)
  changed-placed s ss (e ∷ es) none = grind (arith, nat_tests, u_is_u (s ∷ ss), append_assoc, changed-placed s ss es none.1, none.0)

  -- a `u` that was placed is changed where it is
  pub placed-changed : (ss : List (List ℕ)) (es : List Extension) → HaveNoU es → with_changed_u change (placed ss es) ≡ placed (change ss) es
  placed-changed [] es none = ap (with_changed_u change) (placed-nothing es) ∙ with-found change es None (none_u es none) ∙ changed-none change (λ _. change []) es refl
  placed-changed (s ∷ ss) es none = with-found change (placed (s ∷ ss) es) _ (placed-found s ss es none) ∙ changed-placed s ss es none

pub placed-subtags : (ss : List (List ℕ)) (es : List Extension) → HaveNoU es → option_map_or (λ (e : Extension). e.subtags) (find_extension 117 (placed ss es)) [] ≡ ss
placed-subtags [] es none = ap (λ o. option_map_or (λ (e : Extension). e.subtags) o []) (ap (find_extension 117) (placed-nothing es) ∙ find_u es ∙ none_u es none)
placed-subtags (s ∷ ss) es none = ap (λ o. option_map_or (λ (e : Extension). e.subtags) o []) (find_u (placed (s ∷ ss) es) ∙ placed-found s ss es none)

pub others-none : (es : List Extension) → HaveNoU (other_extensions es)
others-none [] = tt
others-none (e ∷ es) = grind (arith, common_steps, others-none es)

-- ---- extensions with a `u`

pub record FirstU (es : List Extension) (e : Extension) : Type 0 where
  pub before : List Extension
  pub after : List Extension
  pub is : es ≡ before ++ e ∷ after
  pub this : is_of 117 e ≡ true
  pub none : HaveNoU before

pub first-u : (es : List Extension) (e : Extension) → find (is_of 117) es ≡ Some e → FirstU es e
first-u [] e found = absurd cc
first-u (x ∷ es) e found = by_test (first-u es e) (is_of 117 x) refl found
  where
    by_test : (find (is_of 117) es ≡ Some e → FirstU es e) → (b : Bool) → is_of 117 x ≡ b → cond b (Some x) (find (is_of 117) es) ≡ Some e → FirstU (x ∷ es) e
    by_test later true is found = record { before = []; after = es; is = grind (arith, found); this = grind (arith, found, is); none = tt }
    by_test later false is found = let s = later found in record { before = x ∷ s.before; after = s.after; is = ap (λ t. x ∷ t) s.is; this = s.this; none = (is, s.none) }

-- ---- singletons

abbrev pub bytes : List Extension → List ℕ
bytes es = map (λ e. e.singleton) es

-- if no singleton is repeated, there is no second `u`
no_second : (e : Extension) (es : List Extension) → is_of 117 e ≡ true → AllByRecursion (λ b. are_alike_bytes b e.singleton ≡ false) (bytes es) → HaveNoU es
no_second e [] this apart = tt
no_second e (x ∷ es) this apart = (grind (arith, nat_tests, eqb-true (fold_byte e.singleton) 117, this, apart.0), no_second e es this apart.1)

apart-back : (a b : List Extension) → Apart are_alike_bytes (bytes (a ++ b)) → Apart are_alike_bytes (bytes b)
apart-back [] b apart = apart
apart-back (x ∷ a) b apart = apart-back a b apart.1

none_after : (es : List Extension) (e : Extension) → (f : FirstU es e) → Apart are_alike_bytes (bytes es) → HaveNoU f.after
none_after es e f apart = no_second e f.after f.this (apart-back f.before (e ∷ f.after) (subst (λ t. Apart are_alike_bytes (bytes t)) f.is apart)).0

find-split : (e : Extension) (a b : List Extension) → HaveNoU a → is_of 117 e ≡ true → find (is_of 117) (a ++ e ∷ b) ≡ Some e
find-split e [] b none is = grind (arith, nat_tests, is)
find-split e (x ∷ a) b none is = grind (arith, nat_tests, find-split e a b none.1 is, none.0)

no_u-append : (a b : List Extension) → HaveNoU a → HaveNoU b → HaveNoU (a ++ b)
no_u-append [] b na nb = nb
no_u-append (x ∷ a) b na nb = (na.0, no_u-append a b na.1 nb)

module _ (change : List (List ℕ) → List (List ℕ)) where
  changed-split : (e : Extension) (a b : List Extension) → HaveNoU a → is_of 117 e ≡ true → changed_from change true (a ++ e ∷ b) ≡ a ++ (extension_of e.singleton (change e.subtags) ++ b)
  changed-split e [] b none is = grind (arith, nat_tests, is)
  changed-split e (x ∷ a) b none is = grind (arith, nat_tests, changed-split e a b none.1 is, none.0)

  with-split : (e : Extension) (a b : List Extension) → HaveNoU a → is_of 117 e ≡ true → with_changed_u change (a ++ e ∷ b) ≡ a ++ (extension_of e.singleton (change e.subtags) ++ b)
  with-split e a b none is = with-found change (a ++ e ∷ b) (Some e) (find-split e a b none is) ∙ changed-split e a b none is

  -- a change that is made twice is made once
  module _ (twice : (ss : List (List ℕ)) → change (change ss) ≡ change ss) where
    settled-split : (e : Extension) (a b : List Extension) → HaveNoU a → HaveNoU b → is_of 117 e ≡ true → with_changed_u change (with_changed_u change (a ++ e ∷ b)) ≡ with_changed_u change (a ++ e ∷ b)
    settled-split e a b na nb is = by_subtags (change e.subtags) refl
      where
        first : with_changed_u change (a ++ e ∷ b) ≡ a ++ (extension_of e.singleton (change e.subtags) ++ b)
        first = with-split e a b na is

        by_subtags : (ss : List (List ℕ)) → change e.subtags ≡ ss → with_changed_u change (with_changed_u change (a ++ e ∷ b)) ≡ with_changed_u change (a ++ e ∷ b)
        by_subtags [] same =
            let empty : with_changed_u change (a ++ e ∷ b) ≡ a ++ b = first ∙ ap (λ t. a ++ (extension_of e.singleton t ++ b)) same in
            let nothing : change [] ≡ [] = ap change (sym same) ∙ twice e.subtags ∙ same in
            ap (with_changed_u change) empty ∙ with-found change (a ++ b) None (none_u (a ++ b) (no_u-append a b na nb)) ∙ changed-none change (λ _. []) (a ++ b) nothing ∙ placed-nothing (a ++ b) ∙ sym empty
        by_subtags (s ∷ ss) same =
            let new : Extension = record { singleton = e.singleton; subtags = s ∷ ss } in
            let some : with_changed_u change (a ++ e ∷ b) ≡ a ++ new ∷ b = first ∙ ap (λ t. a ++ (extension_of e.singleton t ++ b)) same in
            let again : change (s ∷ ss) ≡ s ∷ ss = ap change (sym same) ∙ twice e.subtags ∙ same in
            ap (with_changed_u change) some ∙ with-split new a b na is ∙ ap (λ t. a ++ (extension_of e.singleton t ++ b)) again ∙ sym some

    pub changed-settled : (es : List Extension) → Apart are_alike_bytes (bytes es) → with_changed_u change (with_changed_u change es) ≡ with_changed_u change es
    changed-settled es apart = by_found (find (is_of 117) es) refl
      where
        by_found : (o : Option Extension) → find (is_of 117) es ≡ o → with_changed_u change (with_changed_u change es) ≡ with_changed_u change es
        by_found None none =
            let first : with_changed_u change es ≡ placed (change []) es = with-found change es None none ∙ changed-none change (λ _. change []) es refl in
            ap (with_changed_u change) first ∙ placed-changed change (change []) es (no_u es none) ∙ ap (λ ss. placed ss es) (twice []) ∙ sym first
        by_found (Some e) found =
            let s = first-u es e found in
            ap (λ t. with_changed_u change (with_changed_u change t)) s.is ∙ settled-split e s.before s.after s.none (none_after es e s apart) s.this ∙ ap (with_changed_u change) (sym s.is)

-- ---- the first `u` is changed

abbrev pub u_subtags : List Extension → List (List ℕ)
u_subtags es = option_map_or (λ (e : Extension). e.subtags) (find_extension 117 es) []

-- its subtags are the changed ones, if any are left
pub changed-subtags :
    (change : List (List ℕ) → List (List ℕ)) (es : List Extension) (s : List ℕ) (ss : List (List ℕ)) → change (u_subtags es) ≡ s ∷ ss → u_subtags (with_changed_u change es) ≡ s ∷ ss
changed-subtags change es s ss is = by_found (find (is_of 117) es) refl
  where
    read : (o : Option Extension) → find (is_of 117) es ≡ o → change (option_map_or (λ (e : Extension). e.subtags) o []) ≡ s ∷ ss
    read o found = ap (λ p. change (option_map_or (λ (e : Extension). e.subtags) p [])) (sym found ∙ sym (find_u es)) ∙ is

    by_found : (o : Option Extension) → find (is_of 117) es ≡ o → u_subtags (with_changed_u change es) ≡ s ∷ ss
    by_found None none =
        ap u_subtags (with-found change es None none ∙ changed-none change (λ _. change []) es refl) ∙ placed-subtags (change []) es (no_u es none) ∙ read None none
    by_found (Some e) found =
        let f = first-u es e found in
        let new : Extension = record { singleton = e.singleton; subtags = s ∷ ss } in
        let whole : with_changed_u change es ≡ f.before ++ new ∷ f.after =
        ap (with_changed_u change) f.is ∙ with-split change e f.before f.after f.none f.this ∙ ap (λ t. f.before ++ (extension_of e.singleton t ++ f.after)) (read (Some e) found) in
        ap u_subtags whole ∙ ap (λ o. option_map_or (λ (e : Extension). e.subtags) o []) (find_u (f.before ++ new ∷ f.after) ∙ find-split new f.before f.after f.none f.this)

-- ---- a change that changes nothing

same-changed :
    (change : List (List ℕ) → List (List ℕ)) → ((ss : List (List ℕ)) → change ss ≡ ss) → (stands : Bool) (es : List Extension) → AllByRecursion IsWellFormedExtension es → changed_from change stands es ≡ es
same-changed change same stands [] fits = ap (extension_of 117) (same [])
same-changed change same stands (e ∷ es) fits =
    grind (arith, common_steps, same, extension-some e.singleton e.subtags fits.0.some, same-changed change same stands es fits.1)

pub nothing-changed :
    (change : List (List ℕ) → List (List ℕ)) → ((ss : List (List ℕ)) → change ss ≡ ss) → (es : List Extension) → AllByRecursion IsWellFormedExtension es → with_changed_u change es ≡ es
nothing-changed change same es fits = same-changed change same (is_some (find_extension 117 es)) es fits

-- ---- no singleton is repeated

-- and 117 is apart from those of extensions without a `u`
each_apart : (n : ℕ) → (fold_byte n == 117) ≡ true → (es : List Extension) → HaveNoU es → AllByRecursion (λ b. are_alike_bytes b n ≡ false) (bytes es)
each_apart n is [] none = tt
each_apart n is (e ∷ es) none = (grind (arith, nat_tests, eqb-true (fold_byte n) 117, is, none.0), each_apart n is es none.1)

apart_from_u : (e : Extension) (n : ℕ) → (fold_byte n == 117) ≡ true → is_of 117 e ≡ false → are_alike_bytes n e.singleton ≡ false
apart_from_u e n is other = grind (arith, nat_tests, eqb-true (fold_byte n) 117, is, other)

placed-each : (P : ℕ → Type 0) → P 117 → (ss : List (List ℕ)) (es : List Extension) → AllByRecursion P (bytes es) → AllByRecursion P (bytes (placed ss es))
placed-each P one [] es all = subst (λ t. AllByRecursion P (bytes t)) (sym (placed-nothing es)) all
placed-each P one (s ∷ ss) [] all = (one, tt)
placed-each P one (s ∷ ss) (e ∷ es) all = grind (arith, common_steps, placed-each P one (s ∷ ss) es all.1, one, all.0, all.1)

apart-placed : (ss : List (List ℕ)) (es : List Extension) → HaveNoU es → Apart are_alike_bytes (bytes es) → Apart are_alike_bytes (bytes (placed ss es))
apart-placed [] es none apart = subst (λ t. Apart are_alike_bytes (bytes t)) (sym (placed-nothing es)) apart
apart-placed (s ∷ ss) [] none apart = (tt, tt)
apart-placed (s ∷ ss) (e ∷ es) none apart = by_test (apart-placed (s ∷ ss) es none.1 apart.1) (nat_lt 117 (fold_byte e.singleton))
  where
    by_test : Apart are_alike_bytes (bytes (placed (s ∷ ss) es)) → (b : Bool) → Apart are_alike_bytes (bytes (cond b ((record { singleton = 117; subtags = s ∷ ss } ∷ e ∷ []) ++ es) (e ∷ placed (s ∷ ss) es)))
    by_test later true = (each_apart 117 u_byte (e ∷ es) none, apart)
    by_test later false = (placed-each (λ b. are_alike_bytes b e.singleton ≡ false) (apart_from_u e 117 u_byte none.0) (s ∷ ss) es apart.0, later)

-- one is left out
each-without : (P : ℕ → Type 0) (e : Extension) (a b : List Extension) → AllByRecursion P (bytes (a ++ e ∷ b)) → AllByRecursion P (bytes (a ++ b))
each-without P e [] b all = all.1
each-without P e (x ∷ a) b all = (all.0, each-without P e a b all.1)

apart-without : (e : Extension) (a b : List Extension) → Apart are_alike_bytes (bytes (a ++ e ∷ b)) → Apart are_alike_bytes (bytes (a ++ b))
apart-without e [] b apart = apart.1
apart-without e (x ∷ a) b apart = (each-without (λ y. are_alike_bytes y x.singleton ≡ false) e a b apart.0, apart-without e a b apart.1)

bytes-same : (e f : Extension) (a b : List Extension) → e.singleton ≡ f.singleton → bytes (a ++ e ∷ b) ≡ bytes (a ++ f ∷ b)
bytes-same e f [] b same = ap (λ n. n ∷ bytes b) same
bytes-same e f (x ∷ a) b same = ap (λ t. x.singleton ∷ t) (bytes-same e f a b same)

pub changed-apart : (change : List (List ℕ) → List (List ℕ)) (es : List Extension) → Apart are_alike_bytes (bytes es) → Apart are_alike_bytes (bytes (with_changed_u change es))
changed-apart change es apart = by_found (find (is_of 117) es) refl
  where
    by_found : (o : Option Extension) → find (is_of 117) es ≡ o → Apart are_alike_bytes (bytes (with_changed_u change es))
    by_found None none =
        subst (λ t. Apart are_alike_bytes (bytes t)) (sym (with-found change es None none ∙ changed-none change (λ _. change []) es refl)) (apart-placed (change []) es (no_u es none) apart)
    by_found (Some e) found =
        let f = first-u es e found in
        let whole : with_changed_u change es ≡ f.before ++ (extension_of e.singleton (change e.subtags) ++ f.after) = ap (with_changed_u change) f.is ∙ with-split change e f.before f.after f.none f.this in
        subst (λ t. Apart are_alike_bytes (bytes t)) (sym whole) (by_subtags e f.before f.after (change e.subtags) (subst (λ t. Apart are_alike_bytes (bytes t)) f.is apart))
      where
        by_subtags : (e : Extension) (a b : List Extension) (ss : List (List ℕ)) → Apart are_alike_bytes (bytes (a ++ e ∷ b)) → Apart are_alike_bytes (bytes (a ++ (extension_of e.singleton ss ++ b)))
        by_subtags e a b [] apart = apart-without e a b apart
        by_subtags e a b (s ∷ ss) apart = subst (Apart are_alike_bytes) (bytes-same e (record { singleton = e.singleton; subtags = s ∷ ss }) a b refl) apart
