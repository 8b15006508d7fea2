-- The form of any tag is that of a Unicode locale identifier, and its own form; alike tags have the same form.
use Rattle.langtag_keyword.proofs.Common.{◌≡◌, ℕ, ◌+◌, true, List, [], ◌∷◌, ◌++◌, drop, length, Option, Some, None, inl, inr, refl, sym, ap, ◌∙◌, arith, append_assoc, map, false≢true, length-append, IsCharBoundary-after_ascii, IsUtf8, flat_map, nat_tests, is_extended, EachRecord, IsWellFormed, Record, extension_flat, one_flat, private_part_flat, join, fold_text-twice, AlikeRecords, Alike, fold_text}
use Rattle.langtag_scan.proofs.Prelude.{◌⊎◌, get_or-append_seam, drop_at, length_push, none-some, IsCharBoundary}
use Rattle.langtag_scan.specs.Grammar.{Spells, IsNormal, fold_record}
use Rattle.std.proofs.lemmas.Option.{same_Some}
use Rattle.langtag.specs.Part.{PartOf}
use Rattle.langtag.specs.Definitions.{IsGrandfathered, SpellsLanguageExtension}
use Rattle.langtag_language.proofs.Rules.{subtags-extension}
use Rattle.langtag_fields.specs.Fields.{preferred_tag}
use Rattle.langtag_fields.specs.Registered.{is_registered_extlang}
use Rattle.langtag_scan.proofs.Laws.{normal_or_not, spelled_once, alike_normal, alike_parts}
use Rattle.langtag_text.proofs.Letters.{extended_primary}
use Rattle.langtag_likely.specs.Marked.{as_read}
use Rattle.langtag_likely.proofs.MarkCase.{read-alike}
use Rattle.langtag_likely.proofs.MarkLaws.{read_fits}
use Rattle.langtag_locale.specs.Locale.{IsReadLocale, is_locale_record}
use Rattle.langtag_locale.specs.LocaleForm.{IsLocaleForm, IsWholeForm, extlang_replaced, locale_text, read_form, record_form, replace_language, IsOwnForm}
use Rattle.langtag.proofs.RegisteredLaws.{grandfathered_alike}
use Rattle.langtag_fields.proofs.Values.{preferred_tag-alike, registered_extlang-alike}
use Rattle.langtag_cldr.proofs.AddedTwice.{either_way, some_value}
use Rattle.langtag_locale.proofs.LocaleCase.{locale-alike, text-alike}
use Rattle.langtag_locale.proofs.LocaleTwice.{text-own}
use Rattle.langtag_locale.proofs.ReadRecords.{locale_read}

-- ---- the extended language takes the place of the language

-- a text of three letters is the only extended subtag
pub only_one : (extended : List (List ℕ)) (text : List ℕ) → SpellsLanguageExtension extended text → is_extended text ≡ true → extended ≡ text ∷ []
only_one extended text spells is = grind (arith, nat_tests, subtags-extension extended text spells, subtags-extension (text ∷ []) text)

-- the record from the extended language on
abbrev from : List ℕ → Record → Record
from extlang r = record r { primary = extlang; extended = [] }

replaced_from : (extended : List (List ℕ)) (extlang : List ℕ) (r : Record) → extended ≡ extlang ∷ [] → is_registered_extlang extlang ≡ true → replace_language extended r ≡ from extlang r
replaced_from extended extlang r one known = rw (one, known) refl

after_first : (x y : List ℕ) (ys : List (List ℕ)) → drop (length x + 1) (join (x ∷ y ∷ ys)) ≡ join (y ∷ ys)
after_first x y ys =
    ap (drop (length x + 1)) (sym (append_assoc x (45 ∷ []) (join (y ∷ ys)))) ∙ drop_at (x ++ 45 ∷ []) (join (y ∷ ys)) (length x + 1) (length_push x 45)

from_well_formed : (r : Record) (extlang : List ℕ) → IsWellFormed r → is_extended extlang ≡ true → IsWellFormed (from extlang r)
from_well_formed r extlang fits is = grind (arith, nat_tests, extended_primary extlang is)

-- the subtags after it
abbrev others : Record → List (List ℕ)
others r = one_flat r.script ++ (one_flat r.region ++ (r.variants ++ (flat_map extension_flat r.extensions ++ private_part_flat r.private_use)))

cut_text : (r : Record) (extlang text : List ℕ) → Spells r text → r.extended ≡ extlang ∷ [] → text ≡ join (r.primary ∷ extlang ∷ others r)
cut_text r extlang text spells one = sym spells.1 ∙ ap (λ es. join (r.primary ∷ (es ++ others r))) one

-- the text of that record is the rest of the tag
pub rest_spelled :
    (r : Record) (text extension extlang primary rest : List ℕ) → Spells r text → SpellsLanguageExtension r.extended extension → extlang ≡ extension → is_extended extlang ≡ true →
    is_registered_extlang extlang ≡ true → primary ≡ r.primary → rest ≡ drop (length primary + 1) text → Spells (extlang_replaced r) rest
rest_spelled r text extension extlang primary rest spells members whole_extension is known same cut =
    grind (arith, nat_tests, only_one, cut_text, after_first, replaced_from, from_well_formed)

-- the tag may be cut there
pub rest_boundary :
    (r : Record) (text extlang primary : List ℕ) → Spells r text → SpellsLanguageExtension r.extended extlang → is_extended extlang ≡ true → primary ≡ r.primary → IsUtf8 text →
    IsCharBoundary text (length primary + 1)
rest_boundary r text extlang primary spells members is same utf8 =
    grind (arith, nat_tests, cut_text, only_one, IsCharBoundary-after_ascii, length-append, get_or-append_seam)

-- ---- the form of a Unicode locale identifier

record_form-none : (r : Record) → (is_locale_record r ≡ true → ⊥) → None ≡ record_form r
record_form-none r outside = grind (arith, nat_tests)

pub none_form : (tag : List ℕ) → (IsReadLocale tag → ⊥) → IsLocaleForm tag None
none_form tag outside = record { part = λ r spells. record_form-none (as_read r) (λ locale. outside (r, spells, locale)); absent = λ other. refl }

-- ---- the form of any tag

pub own_form : (tag : List ℕ) (form : Option (List ℕ)) → IsReadLocale tag → IsLocaleForm tag form → IsWholeForm tag form
own_form tag form is of = record { locale = λ _. of; whole = λ outside. absurd (outside is); kept = λ outside. absurd (outside is); parts = λ outside. absurd (outside is) }

pub value_form : (tag value : List ℕ) (form : Option (List ℕ)) → (IsReadLocale tag → ⊥) → preferred_tag tag ≡ Some value → IsLocaleForm value form → IsWholeForm tag form
value_form tag value form outside found of = grind (arith, nat_tests, same_Some value, none-some value)

abbrev IsPartsForm : List ℕ → Option (List ℕ) → Type 0
IsPartsForm tag form = PartOf tag (λ r. read_form (extlang_replaced r)) None form

parts_form : (tag : List ℕ) (form : Option (List ℕ)) → (IsReadLocale tag → ⊥) → preferred_tag tag ≡ None → (IsGrandfathered tag → ⊥) → IsPartsForm tag form → IsWholeForm tag form
parts_form tag form outside none new of = grind (arith, nat_tests, none-some)

pub rest_form :
    (tag rest : List ℕ) (form : Option (List ℕ)) → (IsReadLocale tag → ⊥) → preferred_tag tag ≡ None → (IsGrandfathered tag → ⊥) → IsNormal tag →
    EachRecord tag (λ r. Spells (extlang_replaced r) rest) → IsLocaleForm rest form → IsWholeForm tag form
rest_form tag rest form outside none new normal spelled of = grind (arith, nat_tests, parts_form tag form outside none new)

-- a tag that stays as it is has no form
pub stays_none : (tag : List ℕ) → (IsReadLocale tag → ⊥) → preferred_tag tag ≡ None → (IsGrandfathered tag → ⊥) → EachRecord tag (λ r. extlang_replaced r ≡ r) → IsWholeForm tag None
stays_none tag outside none new stays =
    parts_form tag None outside none new (record {
      part = λ r spells. record_form-none (as_read r) (λ locale. outside (r, spells, locale)) ∙ ap read_form (sym (stays r spells));
      absent = λ other. refl;
    })

-- ---- a form is that of a Unicode locale identifier

record_form-some : (r : Record) (form : List ℕ) → Some form ≡ record_form r → (is_locale_record r ≡ true) × (form ≡ locale_text r)
record_form-some r form is = grind (arith, nat_tests)

-- the record of which a text is the form
abbrev pub IsOfRecord : List ℕ → Type 0
IsOfRecord form = (r : Record) × IsWellFormed r × (is_locale_record r ≡ true) × (form ≡ locale_text r)

part_of_record :
    (text form : List ℕ) (new : Record → Record) → ((r : Record) → IsWellFormed r → IsWellFormed (new r)) →
    PartOf text (λ r. record_form (new r)) None (Some form) → IsOfRecord form
unfolding IsNormal
part_of_record text form new fits of = elim (normal_or_not text) [
  | inl (r, spells) ↦ (let is = record_form-some (new r) form (of.part r spells) in (new r, fits r spells.0, is.0, is.1))
  | inr other ↦ absurd (none-some form (sym (of.absent other)))
]

replaced_well_formed : (r : Record) → IsWellFormed r → IsWellFormed (extlang_replaced r)
replaced_well_formed r fits = grind (arith, nat_tests, from_well_formed r)

-- each record of it is one
pub spelled_locale : (tag : List ℕ) (r : Record) → IsReadLocale tag → Spells r tag → is_locale_record (as_read r) ≡ true
spelled_locale tag r (q, also, locale) spells = ap (λ x. is_locale_record (as_read x)) (spelled_once r q spells.0 also.0 (spells.1 ∙ sym also.1)) ∙ locale

pub locale_or_not : (tag : List ℕ) → IsReadLocale tag ⊎ (IsReadLocale tag → ⊥)
unfolding IsNormal
locale_or_not tag = elim (normal_or_not tag) [
  | inl (r, spells) ↦
      either_way (is_locale_record (as_read r)) (λ locale. inl (r, spells, locale)) (λ other. inr (λ is. false≢true (sym other ∙ spelled_locale tag r is spells)))
  | inr other ↦ inr (λ is. other (is.0, is.1))
]

pub whole_of_record : (tag form : List ℕ) → IsWholeForm tag (Some form) → IsOfRecord form
whole_of_record tag form of = elim (locale_or_not tag) [
  | inl is ↦ part_of_record tag form as_read read_fits (of.locale is)
  | inr outside ↦
      some_value (preferred_tag tag)
      (λ none. part_of_record tag form (λ r. as_read (extlang_replaced r)) (λ r fits. read_fits (extlang_replaced r) (replaced_well_formed r fits)) (of.parts outside none (λ old. none-some form (sym (of.kept outside none old)))))
      (λ value found. part_of_record value form as_read read_fits (of.whole outside value found))
]

pub whole-own : (tag form : List ℕ) → IsWholeForm tag (Some form) → IsOwnForm form
whole-own tag form of =
    let (r, fits, locale, text) = whole_of_record tag form of in
    let (is, own) = text-own r form fits locale text in
    (is, own_form form (Some form) (locale_read form is) own)

-- ---- case

locale_alike : (a b : List ℕ) → Alike a b → IsReadLocale a → IsReadLocale b
locale_alike a b alike (r, spells, locale) =
    let (q, also, same, ends) = alike_parts a b alike r spells in
    (q, also, sym (locale-alike (as_read r) (as_read q) (read-alike r q same)) ∙ locale)

record_form-alike : (r q : Record) → AlikeRecords r q → record_form r ≡ record_form q
record_form-alike r q alike = grind (arith, nat_tests, locale-alike r q alike, text-alike r q alike)

read_form-alike : (r q : Record) → AlikeRecords r q → read_form r ≡ read_form q
read_form-alike r q alike = record_form-alike (as_read r) (as_read q) (read-alike r q alike)

part-alike :
    (f : Record → Option (List ℕ)) → ((r q : Record) → AlikeRecords r q → f r ≡ f q) → (a b : List ℕ) (x y : Option (List ℕ)) → Alike a b → PartOf a f None x → PartOf b f None y → x ≡ y
unfolding IsNormal
part-alike f same a b x y alike p q = elim (normal_or_not a) [
  | inl (r, spells) ↦
      let (s, spells_b, alike_rs, ends) = alike_parts a b alike r spells in
      p.part r spells ∙ same r s alike_rs ∙ sym (q.part s spells_b)
  | inr other ↦ p.absent other ∙ sym (q.absent (λ normal. other (alike_normal b a (sym alike) normal)))
]

replaced-fold : (es : List (List ℕ)) (r : Record) → fold_record (replace_language es r) ≡ replace_language (map fold_text es) (fold_record r)
replaced-fold es r = grind (arith, nat_tests, registered_extlang-alike, fold_text-twice)

replaced-alike : (r q : Record) → AlikeRecords r q → AlikeRecords (extlang_replaced r) (extlang_replaced q)
replaced-alike r q alike = replaced-fold r.extended r ∙ ap (λ x. replace_language x.extended x) alike ∙ sym (replaced-fold q.extended q)

module _ (tag other : List ℕ) (alike : Alike tag other) where
  outside_too : (IsReadLocale tag → ⊥) → IsReadLocale other → ⊥
  outside_too outside is = outside (locale_alike other tag (sym alike) is)

  same_value : preferred_tag other ≡ preferred_tag tag
  same_value = sym (preferred_tag-alike tag other alike)

  module _ (outside : IsReadLocale tag → ⊥) where
    by_parts : preferred_tag tag ≡ None → (IsGrandfathered tag → ⊥) → (x y : Option (List ℕ)) → IsWholeForm tag x → IsWholeForm other y → x ≡ y
    by_parts none new x y p q =
        part-alike (λ r. read_form (extlang_replaced r)) (λ r s same. read_form-alike (extlang_replaced r) (extlang_replaced s) (replaced-alike r s same)) tag other x y alike
        (p.parts outside none new) (q.parts (outside_too outside) (same_value ∙ none) (λ old. new (grandfathered_alike other tag (sym alike) old)))

    by_forms : preferred_tag tag ≡ None → (x y : Option (List ℕ)) → IsWholeForm tag x → IsWholeForm other y → x ≡ y
    by_forms none None None p q = refl
    by_forms none (Some form) y p q = by_parts none (λ old. none-some form (sym (p.kept outside none old))) (Some form) y p q
    by_forms none None (Some form) p q =
        by_parts none (λ old. none-some form (sym (q.kept (outside_too outside) (same_value ∙ none) (grandfathered_alike tag other alike old)))) None (Some form) p q

  pub whole-alike : (x y : Option (List ℕ)) → IsWholeForm tag x → IsWholeForm other y → x ≡ y
  whole-alike x y p q = elim (locale_or_not tag) [
    | inl is ↦ part-alike read_form read_form-alike tag other x y alike (p.locale is) (q.locale (locale_alike tag other alike is))
    | inr outside ↦
        some_value (preferred_tag tag) (λ none. by_forms outside none x y p q)
        (λ value found.
        part-alike read_form read_form-alike value value x y refl (p.whole outside value found) (q.whole (outside_too outside) value (same_value ∙ found)))
  ]

-- no tag has a form and none
pub not_both : (tag form : List ℕ) → IsWholeForm tag (Some form) → IsWholeForm tag None → ⊥
not_both tag form p q = none-some form (sym (whole-alike tag tag refl (Some form) None p q))
