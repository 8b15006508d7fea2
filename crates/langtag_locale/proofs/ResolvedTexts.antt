-- What holds of each record with what may be asked of it holds of the texts.
use Rattle.langtag_keyword.proofs.Common.{arith, ◌≡◌, ℕ, true, List, [], Extension, Option, None, Some, find, find_extension, is_of, list_all, option_map_or, each_from_test, found_has, Record, IsWellFormed, subst, sym, ◌∙◌, inl, inr}
use Rattle.std.specs.Prelude.{codes}
use Rattle.langtag_scan.proofs.Laws.{spelled_once}
use Rattle.langtag_text.specs.FieldClasses.{is_region_field}
use Rattle.langtag_cldr.specs.Definitions.{known}
use Rattle.langtag_keyword.specs.Keywords.{subtags_of}
use Rattle.langtag_keyword.proofs.FormRecords.{Good}
use Rattle.langtag_keyword.proofs.Found.{found_is}
use Rattle.langtag_keyword.proofs.KeywordBlocks.{find_u}
use Rattle.langtag_likely.specs.Marked.{as_read}
use Rattle.langtag_likely.proofs.MarkLaws.{read_fits, read_keeps}
use Rattle.langtag_locale.specs.Locale.{is_locale_extension, is_locale_record, is_unicode_subtag}
use Rattle.langtag_locale.specs.LocaleForm.{identifier_form, record_fields}
use Rattle.langtag_locale.specs.Resolved.{Wish, resolved_record, wish_for, wish_of}
use Rattle.langtag_locale.specs.ResolvedLaws.{EachResolved}
use Rattle.langtag_locale.proofs.IdentifierForms.{form_subtags, record_subtags}
use Rattle.langtag_locale.proofs.LocaleRecords.{all_allowed}
use Rattle.langtag_locale.proofs.LocaleTwice.{MayBeInU, unicode_allowed}
use Rattle.langtag_locale.proofs.RangeLaws.{known_locale}
use Rattle.langtag_locale.proofs.ResolvedRecords.{good_unicode, resolved_well}

-- what a range may ask for
pub record IsAllowed (w : Wish) : Type 0 where
  pub region : is_region_field w.region ≡ true
  pub is_known : known (codes "ZZ") w.region ≡ w.region
  pub unicode : Good w.unicode
  pub may : MayBeInU w.unicode

pub known-twice : (unknown a : List ℕ) → known unknown (known unknown a) ≡ known unknown a
known-twice unknown a = grind arith

known-region : (unknown a : List ℕ) → is_region_field a ≡ true → is_region_field (known unknown a) ≡ true
known-region unknown a is = grind arith

-- the subtags of `u` of a Unicode locale identifier
pub u_may : (l : Record) → list_all is_locale_extension l.extensions ≡ true → MayBeInU (subtags_of 117 l)
u_may l all = by_found (find_extension 117 l.extensions) (sym (find_u l.extensions))
  where
    by_found : (o : Option Extension) → find (is_of 117) l.extensions ≡ o → MayBeInU (option_map_or (λ (e : Extension). e.subtags) o [])
    by_found None is = tt
    by_found (Some e) is =
        each_from_test is_unicode_subtag e.subtags (unicode_allowed e (found_is (is_of 117) l.extensions e is) (found_has is_locale_extension (is_of 117) l.extensions e all is))

pub wish_allowed : (l : Record) → IsWellFormed l → is_locale_record (as_read l) ≡ true → IsAllowed (wish_of l)
wish_allowed l fits locale = record {
  region = known-region (codes "ZZ") _ (form_subtags l.variants (record_fields (as_read l)) (record_subtags (as_read l) (read_fits l fits) locale)).region;
  is_known = known-twice (codes "ZZ") (identifier_form l.variants (record_fields (as_read l))).region;
  unicode = good_unicode l fits;
  may = u_may l (subst (λ es. list_all is_locale_extension es ≡ true) (read_keeps l).extensions (all_allowed (as_read l) locale));
}

pub asked_allowed : (r : Record) (w : Wish) → IsAllowed w → IsAllowed (wish_for r w)
asked_allowed r w allowed = grind (arith, allowed.region, allowed.is_known, allowed.unicode, allowed.may)

pub asked_well : (w : Wish) (r : Record) → IsAllowed w → IsWellFormed r → IsWellFormed (resolved_record (wish_for r w) r)
asked_well w r allowed fits = let a = asked_allowed r w allowed in resolved_well (wish_for r w) r fits a.region a.unicode

pub each_resolved :
    (P : Record → Record → Type 0) → ((r : Record) → IsWellFormed r → P r r) → ((w : Wish) (r : Record) → IsAllowed w → IsWellFormed r → P r (resolved_record (wish_for r w) r)) →
    EachResolved P
each_resolved P same asked range tag resolved is r rs q qs = elim is [
  | inl kept ↦ subst (P r) (spelled_once r q rs.0 qs.0 (rs.1 ∙ sym kept.1 ∙ sym qs.1)) (same r rs.0)
  | inr asks ↦
      let (l, ls, locale) = known_locale range asks.locale asks.is_locale in
      let allowed = wish_allowed l ls.0 locale in
      subst (P r) (spelled_once (resolved_record (wish_for r (wish_of l)) r) q (asked_well (wish_of l) r allowed rs.0) qs.0 (sym (asks.parts l ls r rs) ∙ sym qs.1)) (asked (wish_of l) r allowed rs.0)
]
