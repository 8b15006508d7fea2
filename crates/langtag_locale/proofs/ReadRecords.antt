-- Records of tags as they are read, with Android's mark before a region.
use Rattle.langtag_scan.proofs.Prelude.{◌≡◌, ℕ, ◌==◌, ◌&&◌, ◌||◌, not, true, false, Bool, List, [], ◌∷◌, length, map, refl, sym, ap, ◌∙◌, arith, common_steps, nat_tests, list_all, unwrap_or}
use Rattle.langtag_scan.specs.Grammar.{Record, are_alike}
use Rattle.std.specs.Prelude.{is_none}
use Rattle.langtag.specs.Definitions.{are_alike_bytes, repeat}
use Rattle.langtag_text.specs.Fields.{Fields}
use Rattle.langtag_text.proofs.Alike.{same_fields}
use Rattle.langtag_cldr.specs.Definitions.{or_other}
use Rattle.langtag_keyword.specs.Form.{is_unicode_language}
use Rattle.langtag_likely.specs.Marked.{as_read, mark_after, mark_of, with_mark}
use Rattle.langtag_likely.proofs.MarkLaws.{read_keeps, read_region}
use Rattle.langtag_locale.specs.Locale.{IsLocale, IsReadLocale, is_locale_extension, is_locale_record}
use Rattle.langtag_locale.specs.LocaleForm.{record_fields}

-- ---- which records are Unicode locale identifiers

and_split : (a b c d e : Bool) → (a && b && c && d && e) ≡ ((a && b) && (c && d && e))
and_split true true c d e = refl
and_split true false c d e = refl
and_split false b c d e = refl

pub parts_read :
    (r : Record) → is_locale_record (as_read r)
    ≡ ((is_unicode_language (as_read r).primary && length (as_read r).extended == 0)
    && (is_none (repeat are_alike r.variants) && is_none (repeat are_alike_bytes (map (λ e. e.singleton) r.extensions)) && list_all is_locale_extension r.extensions))
parts_read r =
    let kept = read_keeps r in
    rw (kept.variants, kept.extensions)
    (and_split (is_unicode_language (as_read r).primary) (length (as_read r).extended == 0) (is_none (repeat are_alike r.variants))
    (is_none (repeat are_alike_bytes (map (λ e. e.singleton) r.extensions))) (list_all is_locale_extension r.extensions))

-- the language
with_mark-language :
    (r : Record) (mark : List ℕ) →
    (is_unicode_language (with_mark r mark).primary && length (with_mark r mark).extended == 0)
    ≡ ((is_unicode_language r.primary && length r.extended == 0) || (not (length mark == 0) && is_unicode_language r.primary))
with_mark-language r [] = grind (arith, nat_tests)
with_mark-language r (b ∷ mark) = grind (arith, nat_tests)

pub language_read :
    (r : Record) (mark : List ℕ) → mark ≡ mark_of r →
    (is_unicode_language (as_read r).primary && length (as_read r).extended == 0)
    ≡ ((is_unicode_language r.primary && length r.extended == 0) || (not (length mark == 0) && is_unicode_language r.primary))
language_read r mark is =
    ap (λ m. is_unicode_language (with_mark r m).primary && length (with_mark r m).extended == 0) (sym is) ∙ with_mark-language r mark

-- ---- a Unicode locale identifier is read as it stands

alone : (r : Record) → is_locale_record r ≡ true → length r.extended ≡ 0
alone r locale = grind (arith, nat_tests, common_steps)

none_after : (primary : List ℕ) (extended : List (List ℕ)) → length extended ≡ 0 → mark_after primary extended ≡ []
none_after primary [] none = refl
none_after primary (first ∷ others) none = absurd (omega (arith, none))

pub own_read : (r : Record) → is_locale_record r ≡ true → as_read r ≡ r
own_read r locale = ap (with_mark r) (none_after r.primary r.extended (alone r locale))

pub own_locale_read : (r : Record) → is_locale_record r ≡ true → is_locale_record (as_read r) ≡ true
own_locale_read r locale = ap is_locale_record (own_read r locale) ∙ locale

pub locale_read : (text : List ℕ) → IsLocale text → IsReadLocale text
locale_read text (r, spells, locale) = (r, spells, own_locale_read r locale)

-- ---- the fields

pub read_fields :
    (r : Record) (f : Fields) (mark : List ℕ) → mark ≡ mark_of r → f.language ≡ r.primary → f.script ≡ unwrap_or r.script [] → f.region ≡ or_other (unwrap_or r.region []) mark →
    f ≡ record_fields (as_read r)
read_fields r f mark is language script region =
    let kept = read_keeps r in
    same_fields f (record_fields (as_read r)) (language ∙ sym kept.primary) (script ∙ ap (λ s. unwrap_or s []) (sym kept.script)) (region ∙ read_region r mark is)
