-- The locale to format with has what the range asks for; the old parts come back; and a range that asks for nothing changes nothing.
use Rattle.langtag_keyword.proofs.Common.{◌≡◌, ℕ, Bool, true, false, cond, List, [], ◌∷◌, Option, None, Some, list_any, refl, sym, ap, subst, ◌∙◌, arith, nat_tests, inl, inr, unwrap_or, Alike, are_alike, are_alike-decides, fold_text, Extension, Record, IsWellFormed, is_key, join, map, spell, subtags, unicode_value, value_of, with_changed_u}
use Rattle.std.specs.Prelude.{codes, ◌⊎◌}
use Rattle.langtag_scan.proofs.Laws.{spelled_once}
use Rattle.langtag_scan.specs.Grammar.{IsNormal}
use Rattle.langtag_text.proofs.Alike.{alike_is, alike_length}
use Rattle.langtag_text.specs.Fields.{subtag_of}
use Rattle.langtag_text.specs.RecommendedCase.{capital_text}
use Rattle.langtag_cldr.specs.Definitions.{or_else}
use Rattle.langtag_keyword.specs.Keywords.{subtags_of}
use Rattle.langtag_likely.specs.Marked.{as_read}
use Rattle.langtag_locale.specs.Locale.{is_locale_record}
use Rattle.langtag_keyword.proofs.FormRecords.{Good}
use Rattle.langtag_keyword.proofs.IdentifierParts.{Apart}
use Rattle.langtag.specs.Definitions.{are_alike_bytes}
use Rattle.langtag_locale.specs.Resolved.{IsResolved, Wish, new_region, resolved_record, resolved_subtags, script_with, remaining_subtags, wish_for, wish_of}
use Rattle.langtag_locale.specs.ResolvedLaws.{AsksNothing, ComesBack, EachResolved, HasWish, IsInPlace, IsServed, other_extensions}
use Rattle.langtag_locale.proofs.ChangedUnicode.{changed-settled, changed-subtags, none_u, nothing-changed, others-none, placed, placed-changed, with-found}
use Rattle.langtag_locale.proofs.MergedKeywords.{resolved-twice, resolved-value}
use Rattle.langtag_locale.proofs.RangeLaws.{known_locale}
use Rattle.langtag_locale.proofs.ResolvedLaws.{resolved-none}
use Rattle.langtag_posix.proofs.PosixNameRead.{capital-fold}
use Rattle.langtag_locale.proofs.ResolvedRecords.{part_again}
use Rattle.langtag_locale.proofs.ResolvedTexts.{IsAllowed, asked_allowed, asked_well, each_resolved, wish_allowed}
use Rattle.langtag_locale.proofs.WrittenScript.{script_some}

-- ---- the region

-- the new region, or the old one
abbrev region_of : Record → List ℕ → Option (List ℕ)
region_of r region = or_else (subtag_of (capital_text (new_region r region))) r.region

capital_there : (region : List ℕ) (old : Option (List ℕ)) → (region ≡ []) ⊎ Alike (unwrap_or (or_else (subtag_of (capital_text region)) old) []) region
capital_there [] old = inl refl
capital_there (b ∷ region) old = inr (capital-fold (b ∷ region))

region_served : (r : Record) (region : List ℕ) → (region ≡ []) ⊎ Alike (unwrap_or (region_of r region) []) region
region_served r region = by_test (are_alike (unwrap_or r.region []) region) refl
  where
    by_test :
        (b : Bool) → are_alike (unwrap_or r.region []) region ≡ b → (region ≡ []) ⊎ Alike (unwrap_or (or_else (subtag_of (capital_text (cond b [] region))) r.region) []) region
    by_test true is = inr (alike_is (unwrap_or r.region []) region is)
    by_test false is = capital_there region r.region

-- ---- the keywords

keyword_served :
    (w : Wish) (r : Record) → IsAllowed w → (key : List ℕ) (v : List (List ℕ)) → fold_text key ≡ key → value_of is_key key w.unicode ≡ Some v →
    value_of is_key key (subtags_of 117 (resolved_record (wish_for r w) r)) ≡ Some (map fold_text (subtags (unicode_value key (join v))))
unfolding resolved_record
keyword_served w r allowed key v low found = by_subtags (resolved_subtags a (subtags_of 117 r)) refl (resolved-value a (asked_allowed r w allowed).unicode key v (subtags_of 117 r) low found)
  where
    a : Wish
    a = wish_for r w

    by_subtags :
        (ss : List (List ℕ)) → resolved_subtags a (subtags_of 117 r) ≡ ss → value_of is_key key ss ≡ Some (map fold_text (subtags (unicode_value key (join v)))) →
        value_of is_key key (subtags_of 117 (record r { extensions = with_changed_u (resolved_subtags a) r.extensions })) ≡ Some (map fold_text (subtags (unicode_value key (join v))))
    by_subtags [] same is = absurd cc
    by_subtags (s ∷ ss) same is = ap (value_of is_key key) (changed-subtags (resolved_subtags a) r.extensions s ss same) ∙ is

has_wish : (l r : Record) → IsWellFormed l → is_locale_record (as_read l) ≡ true → HasWish l r (resolved_record (wish_for r (wish_of l)) r)
unfolding resolved_record
has_wish l r fits locale = record {
  region = region_served r (wish_for r (wish_of l)).region;
  keywords = keyword_served (wish_of l) r (wish_allowed l fits locale);
}

pub range_served : (range tag resolved : List ℕ) → IsResolved range tag resolved → IsServed range tag resolved
range_served range tag resolved is = elim is [
  | inl kept ↦ inl kept.0
  | inr asks ↦
      let (l, ls, locale) = known_locale range asks.locale asks.is_locale in
      inr (
        asks.locale,
        asks.is_locale,
        λ m ms r rs q qs.
            let same = spelled_once l m ls.0 ms.0 (ls.1 ∙ sym ms.1) in
            let allowed = subst (λ m. is_locale_record (as_read m) ≡ true) same locale in
            subst (HasWish m r) (spelled_once (resolved_record (wish_for r (wish_of m)) r) q (asked_well (wish_of m) r (wish_allowed m ms.0 allowed) rs.0) qs.0 (sym (asks.parts m ms r rs) ∙ sym qs.1)) (has_wish m r ms.0 allowed),
      )
]

-- ---- what is put back

-- a `u` in its place comes back
back_in_place : (change : List (List ℕ) → List (List ℕ)) (r : Record) → IsInPlace r → with_changed_u (λ _. subtags_of 117 r) (with_changed_u change r.extensions) ≡ r.extensions
back_in_place change r here =
    let old : List (List ℕ) = subtags_of 117 r in
    let others : List Extension = other_extensions r.extensions in
    let is : placed old others ≡ r.extensions = sym (with-found (λ _. old) others None (none_u others (others-none r.extensions))) ∙ here in
    ap (λ es. with_changed_u (λ _. old) (with_changed_u change es)) (sym is)
    ∙ ap (with_changed_u (λ _. old)) (placed-changed change old others (others-none r.extensions)) ∙ placed-changed (λ _. old) (change old) others (others-none r.extensions) ∙ is

same_in_place : (r : Record) → IsInPlace r → with_changed_u (λ _. subtags_of 117 r) r.extensions ≡ r.extensions
same_in_place r here =
    let old : List (List ℕ) = subtags_of 117 r in
    let others : List Extension = other_extensions r.extensions in
    let is : placed old others ≡ r.extensions = sym (with-found (λ _. old) others None (none_u others (others-none r.extensions))) ∙ here in
    ap (with_changed_u (λ _. old)) (sym is) ∙ placed-changed (λ _. old) old others (others-none r.extensions) ∙ is

comes_back : (w : Wish) (r : Record) → IsAllowed w → IsWellFormed r → ComesBack r (resolved_record (wish_for r w) r)
unfolding resolved_record
comes_back w r allowed fits here = ap (λ es. record r { extensions = es }) (back_in_place (resolved_subtags (wish_for r w)) r here)

pub parts_come_back : EachResolved ComesBack
parts_come_back = each_resolved ComesBack (λ r fits here. ap (λ es. record r { extensions = es }) (same_in_place r here)) comes_back

-- ---- a range that asks for nothing

none_new : (r : Record) (region : List ℕ) → region ≡ [] → new_region r region ≡ []
none_new r region none = by_test (are_alike (unwrap_or r.region []) region)
  where
    by_test : (b : Bool) → cond b [] region ≡ []
    by_test true = refl
    by_test false = none

-- a record whose region stays
region_stays :
    (a : Wish) (r : Record) → IsWellFormed r → new_region r a.region ≡ [] → with_changed_u (resolved_subtags a) r.extensions ≡ r.extensions → resolved_record a r ≡ r
unfolding resolved_record
region_stays a r fits none same =
    ap (λ t. record r { script = subtag_of (script_with r t); region = or_else (subtag_of (capital_text t)) r.region; extensions = with_changed_u (resolved_subtags a) r.extensions }) none
    ∙ ap (λ s. record r { script = s; extensions = with_changed_u (resolved_subtags a) r.extensions }) (part_again r.script (script_some r fits))
    ∙ ap (λ es. record r { extensions = es }) same

no_key : (key : List ℕ) (ss : List (List ℕ)) → is_key key ≡ true → list_any is_key ss ≡ false → list_any (are_alike key) ss ≡ false
no_key key [] two none = refl
no_key key (s ∷ ss) two none = grind (arith, nat_tests, no_key key ss two, alike_length key s)

rg_key : is_key (codes "rg") ≡ true
rg_key = refl

all_stay : (a : Wish) → a.region ≡ [] → list_any is_key a.unicode ≡ false → (ss : List (List ℕ)) → remaining_subtags a false ss ≡ ss
all_stay a region none [] = refl
all_stay a region none (s ∷ ss) =
    grind (arith, nat_tests, all_stay a region none ss, no_key s a.unicode, no_key (codes "rg") a.unicode rg_key none, region)

pub nothing_asked : (a : Wish) (r : Record) → IsWellFormed r → a.region ≡ [] → list_any is_key a.unicode ≡ false → resolved_record a r ≡ r
nothing_asked a r fits region none =
    region_stays a r fits (none_new r a.region region) (nothing-changed (resolved_subtags a) (λ ss. resolved-none a ss none ∙ all_stay a region none ss) r.extensions fits.extensions)

pub nothing_changes : (range tag resolved : List ℕ) → IsResolved range tag resolved → AsksNothing range tag → resolved ≡ tag
unfolding IsNormal
nothing_changes range tag resolved is nothing = elim is [
  | inl kept ↦ kept.1
  | inr asks ↦
      let (l, ls, locale) = known_locale range asks.locale asks.is_locale in
      let (r, rs) = asks.normal in
      let none = nothing asks.locale asks.is_locale l ls r rs in
      asks.parts l ls r rs ∙ ap spell (nothing_asked (wish_for r (wish_of l)) r rs.0 none.0 none.1) ∙ rs.1
]

-- ---- the same range again

served_stays : (r : Record) (q : Record) (region : List ℕ) → q.region ≡ region_of r region → new_region q region ≡ []
served_stays r q region is = elim (region_served r region) [
  | inl none ↦ none_new q region none
  | inr alike ↦ ap (λ b. cond b [] region) ((are_alike-decides (unwrap_or q.region []) region).1 (ap (λ o. fold_text (unwrap_or o [])) is ∙ alike))
]

region_is : (a : Wish) (r : Record) → (resolved_record a r).region ≡ region_of r a.region
unfolding resolved_record
region_is a r = refl

merged_again :
    (a : Wish) (r : Record) → Good a.unicode → Apart are_alike_bytes (map (λ e. e.singleton) r.extensions) → with_changed_u (resolved_subtags a) (resolved_record a r).extensions ≡ (resolved_record a r).extensions
unfolding resolved_record
merged_again a r good apart = changed-settled (resolved_subtags a) (resolved-twice a good) r.extensions apart

pub resolved_again :
    (w : Wish) (r : Record) → IsAllowed w → IsWellFormed r → Apart are_alike_bytes (map (λ e. e.singleton) r.extensions) → resolved_record (wish_for r w) (resolved_record (wish_for r w) r) ≡ resolved_record (wish_for r w) r
resolved_again w r allowed fits apart =
    let a : Wish = wish_for r w in
    let q : Record = resolved_record a r in
    region_stays a q (asked_well w r allowed fits) (served_stays r q a.region (region_is a r)) (merged_again a r (asked_allowed r w allowed).unicode apart)
