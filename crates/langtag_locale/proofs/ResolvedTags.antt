-- The locale to format with is a tag, repeats no more than the tag, and is a Unicode locale identifier and valid if the tag is.
use Rattle.langtag_keyword.proofs.Common.{◌≡◌, ◌==◌, ◌&&◌, ℕ, Bool, true, false, cond, List, [], ◌∷◌, ◌++◌, Option, None, Some, refl, sym, ap, subst, ◌∙◌, arith, nat_tests, inl, inr, AllByRecursion, list_all, list_any, list_any-append, is_none, is_unicode_language, are_alike, length, each-append, each-weaker, each_from_test, Extension, Record, IsWellFormed, fold_byte, changed_from, extension_of, with_changed_u, is_of, find_extension, is_some, is_transform, nat_lt, both, EachRecord}
use Rattle.langtag_scan.proofs.Laws.{spelled_once, test_from_each}
use Rattle.langtag_scan.specs.Grammar.{IsNormal, IsTag, Spells}
use Rattle.langtag.specs.Definitions.{are_alike_bytes, repeat}
use Rattle.langtag_fields.specs.Valid.{IsValid, IsValidRecord}
use Rattle.langtag_fields.proofs.RepeatsSeen.{repeat-after, repeat_after}
use Rattle.langtag_keyword.proofs.IdentifierParts.{Apart, none_repeated}
use Rattle.langtag_likely.specs.Marked.{as_read}
use Rattle.langtag_locale.specs.Locale.{IsLocale, is_locale_extension, is_locale_record, is_unicode_subtag}
use Rattle.langtag_locale.specs.Resolved.{IsAsked, IsResolved, Wish, resolved_record, resolved_subtags, wish_for, wish_of}
use Rattle.langtag_locale.specs.ResolvedLaws.{EachResolved, HasRegisteredPlace, IsSettled, RepeatsNoMore, RepeatsNothing}
use Rattle.langtag_locale.proofs.ChangedUnicode.{bytes, changed-apart, u_byte}
use Rattle.langtag_locale.proofs.LocaleTwice.{MayBeInU, unicode_allowed, unicode_form-may}
use Rattle.langtag_locale.proofs.RangeLaws.{known_locale}
use Rattle.langtag_locale.proofs.ResolvedRecords.{each_resolved_subtag}
use Rattle.langtag_locale.proofs.ServedRange.{resolved_again}
use Rattle.langtag_locale.proofs.ResolvedTexts.{IsAllowed, asked_allowed, asked_well, each_resolved, wish_allowed}

-- ---- what is repeated

module _ {A : Type 0} (alike : A → A → Bool) where
  seen_or_last : (x y : A) (seen : List A) → list_any (alike y) (seen ++ x ∷ []) ≡ false → (list_any (alike y) seen ≡ false) × (alike y x ≡ false)
  seen_or_last x y seen none = grind (arith, nat_tests, list_any-append (alike y) seen (x ∷ []), none)

  after_none : (seen xs : List A) → repeat_after alike seen xs ≡ None → AllByRecursion (λ y. list_any (alike y) seen ≡ false) xs × Apart alike xs
  after_none seen [] none = (tt, tt)
  after_none seen (x ∷ xs) none = by_test (after_none (seen ++ x ∷ []) xs) (list_any (alike x) seen) refl none
    where
      by_test :
          (repeat_after alike (seen ++ x ∷ []) xs ≡ None → AllByRecursion (λ y. list_any (alike y) (seen ++ x ∷ []) ≡ false) xs × Apart alike xs) → (b : Bool) → list_any (alike x) seen ≡ b → cond b (Some x) (repeat_after alike (seen ++ x ∷ []) xs) ≡ None → AllByRecursion (λ y. list_any (alike y) seen ≡ false) (x ∷ xs) × Apart alike (x ∷ xs)
      by_test later true is none = absurd cc
      by_test later false is none =
          let rest = later none in (
            (is, each-weaker (λ y. list_any (alike y) (seen ++ x ∷ []) ≡ false) (λ y. list_any (alike y) seen ≡ false) (λ y new. (seen_or_last x y seen new).0) xs rest.0),
            (each-weaker (λ y. list_any (alike y) (seen ++ x ∷ []) ≡ false) (λ y. alike y x ≡ false) (λ y new. (seen_or_last x y seen new).1) xs rest.0, rest.1),
          )

  pub apart_if_none : (xs : List A) → repeat alike xs ≡ None → Apart alike xs
  apart_if_none xs none = (after_none [] xs (sym (repeat-after alike xs) ∙ none)).1

  none_is : (o : Option A) → is_none o ≡ true → o ≡ None
  none_is None is = refl
  none_is (Some x) is = absurd cc

  pub none_if_apart : (xs : List A) → Apart alike xs → repeat alike xs ≡ None
  none_if_apart xs apart = none_is (repeat alike xs) (none_repeated alike xs apart)

singletons_kept : (change : List (List ℕ) → List (List ℕ)) (es : List Extension) → repeat are_alike_bytes (bytes es) ≡ None → repeat are_alike_bytes (bytes (with_changed_u change es)) ≡ None
singletons_kept change es none = none_if_apart are_alike_bytes _ (changed-apart change es (apart_if_none are_alike_bytes (bytes es) none))

repeats_no_more : (w : Wish) (r : Record) → IsAllowed w → IsWellFormed r → RepeatsNoMore r (resolved_record (wish_for r w) r)
unfolding resolved_record
repeats_no_more w r allowed fits none = record { variants = none.variants; singletons = singletons_kept (resolved_subtags (wish_for r w)) r.extensions none.singletons }

pub nothing_repeated : EachResolved RepeatsNoMore
nothing_repeated = each_resolved RepeatsNoMore (λ r fits none. none) repeats_no_more

-- ---- Unicode locale identifiers

module _ {X : Type 0} (test : X → Bool) where
  each_passes : (xs : List X) → list_all test xs ≡ true → AllByRecursion (λ x. test x ≡ true) xs
  each_passes [] all = tt
  each_passes (x ∷ xs) all = let parts = both (test x) (list_all test xs) all in (parts.0, each_passes xs parts.1)

  all_pass : (xs : List X) → AllByRecursion (λ x. test x ≡ true) xs → list_all test xs ≡ true
  all_pass [] each = refl
  all_pass (x ∷ xs) each = rw each.0 (all_pass xs each.1)

abbrev AreAllowed : List Extension → Type 0
AreAllowed es = AllByRecursion (λ e. is_locale_extension e ≡ true) es

u_allowed : (n : ℕ) (ss : List (List ℕ)) → (fold_byte n == 117) ≡ true → MayBeInU ss → AreAllowed (extension_of n ss)
u_allowed n [] is may = tt
u_allowed n (s ∷ ss) is may =
    (ap (λ b. cond b (list_all is_unicode_subtag (s ∷ ss)) (cond (fold_byte n == 116) (is_transform (s ∷ ss)) true)) is ∙ test_from_each is_unicode_subtag (s ∷ ss) may, tt)

module _ (change : List (List ℕ) → List (List ℕ)) (keeps : (ss : List (List ℕ)) → MayBeInU ss → MayBeInU (change ss)) where
  allowed_changed : (stands : Bool) (es : List Extension) → AreAllowed es → AreAllowed (changed_from change stands es)
  allowed_changed stands [] allowed = u_allowed 117 (change []) u_byte (keeps [] tt)
  allowed_changed stands (e ∷ es) allowed = by_tests (changed_from change stands es) (allowed_changed stands es allowed.1) stands (is_of 117 e) (nat_lt 117 (fold_byte e.singleton)) refl
    where
      by_tests :
          (rest : List Extension) → AreAllowed rest → (b u after : Bool) → is_of 117 e ≡ u →
          AreAllowed (cond (cond b u after) (cond b (extension_of e.singleton (change e.subtags)) (extension_of 117 (change []) ++ e ∷ []) ++ es) (e ∷ rest))
      by_tests rest later true true after is =
          each-append _ (extension_of e.singleton (change e.subtags)) es
          (u_allowed e.singleton (change e.subtags) is (keeps e.subtags (each_from_test is_unicode_subtag e.subtags (unicode_allowed e is allowed.0)))) allowed.1
      by_tests rest later true false after is = (allowed.0, later)
      by_tests rest later false u true is =
          each-append _ (extension_of 117 (change []) ++ e ∷ []) es (each-append _ (extension_of 117 (change [])) (e ∷ []) (u_allowed 117 (change []) u_byte (keeps [] tt)) (allowed.0, tt)) allowed.1
      by_tests rest later false u false is = (allowed.0, later)

-- the last two tests
last_two : (a b c d e x y : Bool) → (a && b && c && d && e) ≡ true → (d ≡ true → x ≡ true) → (e ≡ true → y ≡ true) → (a && b && c && x && y) ≡ true
last_two true true true true true x y all one two = rw (one refl, two refl) refl
last_two false b c d e x y all one two = absurd cc
last_two true false c d e x y all one two = absurd cc
last_two true true false d e x y all one two = absurd cc
last_two true true true false e x y all one two = absurd cc
last_two true true true true false x y all one two = absurd cc

is_none_kept : {A : Type 0} (o p : Option A) → (o ≡ None → p ≡ None) → is_none o ≡ true → is_none p ≡ true
is_none_kept None p keeps is = ap is_none (keeps refl)
is_none_kept (Some x) p keeps is = absurd cc

locale_kept : (w : Wish) (r : Record) → IsAllowed w → IsWellFormed r → is_locale_record r ≡ true → is_locale_record (resolved_record (wish_for r w) r) ≡ true
unfolding resolved_record
locale_kept w r allowed fits locale =
    let a : Wish = wish_for r w in
    let fit = asked_allowed r w allowed in
    let change = resolved_subtags a in
    let stands = is_some (find_extension 117 r.extensions) in
    last_two (is_unicode_language r.primary) (length r.extended == 0) (is_none (repeat are_alike r.variants)) _ _ _ _ locale (is_none_kept (repeat are_alike_bytes (bytes r.extensions)) _ (singletons_kept change r.extensions))
    (λ all. all_pass is_locale_extension (changed_from change stands r.extensions)
    (allowed_changed change (λ ss. each_resolved_subtag _ a ss (unicode_form-may a.unicode fit.unicode fit.may)) stands r.extensions (each_passes is_locale_extension r.extensions all)))

-- ---- texts

-- the record of the locale to format with
record IsMade (range tag resolved : List ℕ) : Type 0 where
  wish : Wish
  allowed : IsAllowed wish
  made : (r : Record) → Spells r tag → Spells (resolved_record (wish_for r wish) r) resolved

made_from : (range tag resolved : List ℕ) → IsAsked range tag resolved → IsMade range tag resolved
made_from range tag resolved asks =
    let (l, ls, locale) = known_locale range asks.locale asks.is_locale in
    let allowed = wish_allowed l ls.0 locale in
    record { wish = wish_of l; allowed = allowed; made = λ r rs. (asked_well (wish_of l) r allowed rs.0, sym (asks.parts l ls r rs)) }

pub is_tag : (range tag resolved : List ℕ) → IsResolved range tag resolved → IsTag tag → IsTag resolved
unfolding IsTag IsNormal
is_tag range tag resolved is tags = elim is [
  | inl kept ↦ subst IsTag (sym kept.1) tags
  | inr asks ↦
      let m = made_from range tag resolved asks in
      let (r, rs) = asks.normal in
      inl (resolved_record (wish_for r m.wish) r, m.made r rs)
]

pub is_locale : (range tag resolved : List ℕ) → IsResolved range tag resolved → IsLocale tag → IsLocale resolved
is_locale range tag resolved is locale = elim is [
  | inl kept ↦ subst IsLocale (sym kept.1) locale
  | inr asks ↦
      let m = made_from range tag resolved asks in
      let (r, rs, locale_r) = locale in
      (resolved_record (wish_for r m.wish) r, m.made r rs, locale_kept m.wish r m.allowed rs.0 locale_r)
]

-- ---- valid tags

valid_record : (w : Wish) (r : Record) → IsAllowed w → IsWellFormed r → IsValidRecord r → HasRegisteredPlace (resolved_record (wish_for r w) r) → IsValidRecord (resolved_record (wish_for r w) r)
unfolding resolved_record
valid_record w r allowed fits valid place = record {
  primary = valid.primary;
  extended = valid.extended;
  one_extended = valid.one_extended;
  script = place.script;
  region = place.region;
  variants = valid.variants;
  no_repeated_variant = valid.no_repeated_variant;
  no_repeated_singleton = singletons_kept (resolved_subtags (wish_for r w)) r.extensions valid.no_repeated_singleton;
}

pub is_valid : (range tag resolved : List ℕ) → IsResolved range tag resolved → IsValid tag → EachRecord resolved HasRegisteredPlace → IsValid resolved
unfolding IsValid IsNormal
is_valid range tag resolved is valid place = elim is [
  | inl kept ↦ subst IsValid (sym kept.1) valid
  | inr asks ↦ (
    is_tag range tag resolved (inr asks) valid.0,
    inr (λ q qs.
        let m = made_from range tag resolved asks in
        let (r, rs) = asks.normal in
        let made = m.made r rs in
        let record_valid : IsValidRecord r = elim valid.1 [
          | inl old ↦ absurd (asks.other old)
          | inr each ↦ each r rs
        ] in
        subst IsValidRecord (spelled_once (resolved_record (wish_for r m.wish) r) q made.0 qs.0 (made.1 ∙ sym qs.1))
        (valid_record m.wish r m.allowed rs.0 record_valid (place (resolved_record (wish_for r m.wish) r) made))),
  )
]

-- ---- the same range again

same_wish : (w : Wish) (r : Record) → wish_for (resolved_record (wish_for r w) r) w ≡ wish_for r w
unfolding resolved_record
same_wish w r = refl

pub is_settled : (l r : Record) → IsWellFormed l → is_locale_record (as_read l) ≡ true → IsWellFormed r → RepeatsNothing r → IsSettled l r
is_settled l r fits locale well none =
    let w : Wish = wish_of l in
    ap (λ a. resolved_record a (resolved_record (wish_for r w) r)) (same_wish w r) ∙ resolved_again w r (wish_allowed l fits locale) well (apart_if_none are_alike_bytes (bytes r.extensions) none.singletons)
