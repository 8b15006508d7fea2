-- What is written for a caller: it is not empty where a text is due, and what is cut out of a text is UTF-8.
use Rattle.langtag_scan.proofs.Prelude.{◌≡◌, ℕ, ◌+◌, ◌≤◌, List, [], ◌∷◌, leb, length, Option, None, refl, arith, ◌↔◌, Some, unwrap_or, sym, subst, and_parts, AllByRecursion, nat_tests, IsUtf8, IfSome, MatchOption}
use Rattle.langtag.specs.Form.{IsForm}
use Rattle.langtag_text.specs.Writes.{Writes}
use Rattle.langtag_scan.proofs.Laws.{length-join, IsSubtag, of_extension_subtag, of_primary, of_region, join-subtags}
use Rattle.langtag_scan.specs.Grammar.{is_extension_subtag, subtags, IsNormal, IsTag}
use Rattle.langtag_keyword.specs.Edit.{edited_record, invalid_type_from, keyword_error}
use Rattle.langtag_c.proofs.TagLengths.{IsUtf8-joined}
use Rattle.langtag_parent.proofs.Chains.{some_tag}
use Rattle.langtag_text.specs.WritesWhole.{WritesWhole}
use Rattle.langtag_registry.specs.Canonical.{IsCanonicalForm}
use Rattle.langtag_likely.proofs.Definitions.{IsMaximalForm, IsMinimalForm, maximal_record, minimal_record}
use Rattle.langtag_posix.proofs.Definitions.{text_of_name, IsTagOfName, NamesTag, with_said, IsPosixName}
use Rattle.langtag.proofs.FormLaws.{form_is_tag}
use Rattle.langtag_scan.proofs.CaseLaw.{alike_tag}
use Rattle.langtag_text.proofs.RecommendedLaws.{alike_of_recommended}
use Rattle.langtag_likely.proofs.GoodForms.{maximal_well_formed, minimal_well_formed}
use Rattle.langtag_posix.proofs.PosixLaws.{said_well_formed}
use Rattle.langtag_posix.proofs.PosixNameRead.{one_name, some_name}
use Rattle.langtag_keyword.proofs.FormRecords.{form_well_formed}
use Rattle.langtag_locale.proofs.LocaleRecords.{locale_tag}
use Rattle.langtag_locale.proofs.WholeLaws.{not_both, whole_of_record}
use Rattle.langtag_keyword.specs.Form.{extensions_record}
use Rattle.langtag_unicode.specs.ExtensionsForm.{IsExtensionsForm}
use Rattle.langtag_locale.specs.LocaleForm.{IsWholeForm}
use Rattle.langtag_cldr.specs.Suggestion.{suggested_language, suggested_region}
use Rattle.langtag_c.specs.Validity.{suggested}
use Rattle.langtag_cldr.proofs.RowLaws.{utf8_name}
use Rattle.langtag_registry.proofs.CanonicalCase as canonical

-- ---- a key and a value are UTF-8

types_subtags : (at : ℕ) (ss : List (List ℕ)) → invalid_type_from at ss ≡ None → AllByRecursion IsSubtag ss
types_subtags at [] none = tt
types_subtags at (s ∷ ss) none =
    grind (arith, nat_tests, types_subtags (at + (length s + 1)) ss, of_extension_subtag s, and_parts (leb 3 (length s)) (is_extension_subtag s))

pub IsUtf8-keyword_key : (key : List ℕ) (value : List (List ℕ)) → keyword_error key value ≡ None → IsUtf8 key
IsUtf8-keyword_key key value none = utf8_name key (grind (arith, nat_tests, and_parts))

pub IsUtf8-keyword_value : (key value : List ℕ) → keyword_error key (subtags value) ≡ None → IsUtf8 value
IsUtf8-keyword_value key value none =
    IsUtf8-joined (subtags value) value (types_subtags 0 (subtags value) (grind (arith, nat_tests))) (join-subtags value)

-- ---- the tag is not empty

pub some_edited : (key : List ℕ) (value : Option (List (List ℕ))) (old new : List ℕ) → IsNormal old → IsForm (edited_record key value) old new → 1 ≤ length new
unfolding IsNormal edited_record
some_edited key value old new (r, spells) is = grind (arith, nat_tests, length-join, of_primary)

-- so its length is not 0
pub some_written :
    (key : List ℕ) (value : Option (List (List ℕ))) (old before after : List ℕ) (len : ℕ) →
    Writes (IsForm (edited_record key value) old) before after len → IsNormal old → len ≡ 0 → ⊥
some_written key value old before after len w normal zero = absurd (omega (arith, zero, w.whole, some_edited key value old w.text normal w.is_so))

-- ---- the forms of a tag, and the tag of a name, are not empty

pub some_canonical : (old new : List ℕ) → IsTag old → IsCanonicalForm old new → 1 ≤ length new
some_canonical old new tag is = some_tag new (canonical.canonical_is_tag old new tag is)

-- so the length that is written is not 0
pub canonical_written : (old before after : List ℕ) (len : ℕ) → WritesWhole (IsCanonicalForm old) before after len → IsTag old → len ≡ 0 → ⊥
canonical_written old before after len w tag zero =
    let some = some_canonical old w.text tag w.is_so in
    absurd (omega (arith, zero, w.whole, some))

pub some_maximal : (old new : List ℕ) → IsTag old → IsMaximalForm old new → 1 ≤ length new
some_maximal old new tag is = some_tag new (form_is_tag maximal_record maximal_well_formed old new tag is)

pub some_minimal : (old new : List ℕ) → IsTag old → IsMinimalForm old new → 1 ≤ length new
some_minimal old new tag is = some_tag new (form_is_tag minimal_record minimal_well_formed old new tag is)

pub some_extensions : (old new : List ℕ) → IsTag old → IsExtensionsForm old new → 1 ≤ length new
some_extensions old new tag is = some_tag new (form_is_tag extensions_record form_well_formed old new tag is)

pub some_named : (name new : List ℕ) → NamesTag name → IsTagOfName name new → 1 ≤ length new
some_named name new names is =
    let tag = form_is_tag (with_said name) (said_well_formed name) (text_of_name name) is.form names.read.tag is.said in
    some_tag new (alike_tag is.form new (alike_of_recommended is.form new is.case) tag)

pub named_written : (name before after : List ℕ) (len : ℕ) → Writes (IsTagOfName name) before after len → NamesTag name → len ≡ 0 → ⊥
named_written name before after len w names zero =
    let some = some_named name w.text names w.is_so in
    absurd (omega (arith, zero, w.whole, some))

pub some_locale : (old new : List ℕ) → IsWholeForm old (Some new) → 1 ≤ length new
some_locale old new is = let (r, fits, locale, same) = whole_of_record old new is in some_tag new (subst IsTag (sym same) (locale_tag r fits locale))

-- 0 bytes stand for no form
pub locale_none :
    (bytes text before after : List ℕ) (o : Option ℕ) (result : ℕ) → text ≡ bytes → IsTag bytes → result ≡ unwrap_or o 0 →
    IfSome o (λ len. WritesWhole (λ form. IsWholeForm text (Some form)) before after len) → (o ≡ None → IsWholeForm text None) → (result ≡ 0) ↔ (IsTag bytes → IsWholeForm bytes None)
locale_none bytes text before after None result same tag is written none = (λ _ _. subst (λ t. IsWholeForm t None) same (none refl), λ _. is)
locale_none bytes text before after (Some len) result same tag is written none =
    grind (arith, nat_tests, some_locale text written.text written.is_so, not_both text written.text written.is_so)

-- 0 bytes stand for no name
pub posix_none :
    (bytes text before after : List ℕ) (o : Option ℕ) (result : ℕ) → text ≡ bytes → result ≡ unwrap_or o 0 →
    MatchOption o (IsPosixName text None) (λ len. Writes (λ name. IsPosixName text (Some name)) before after len) → (result ≡ 0) ↔ IsPosixName bytes None
posix_none bytes text before after None result same is none = (λ _. subst (λ t. IsPosixName t None) same none, λ _. is)
posix_none bytes text before after (Some len) result same is w =
    grind (arith, nat_tests, some_name text w.text w.is_so, one_name text (Some w.text) None w.is_so)

pub posix_some :
    (tag before after : List ℕ) (o : Option ℕ) → MatchOption o (IsPosixName tag None) (λ len. Writes (λ name. IsPosixName tag (Some name)) before after len) →
    1 ≤ unwrap_or o 0 → Writes (λ name. IsPosixName tag (Some name)) before after (unwrap_or o 0)
posix_some tag before after None is some = absurd (omega (arith, some))
posix_some tag before after (Some len) w some = w

-- ---- what is suggested for bytes: they are UTF-8, as a language and a region are

-- other bytes are no code
pub none_suggested : (fault : ℕ) (s : List ℕ) → (IsUtf8 s → ⊥) → suggested fault s ≡ None
unfolding suggested_language suggested_region
none_suggested fault s other = grind (arith, nat_tests, utf8_name s, of_primary s, of_region s)

pub ruleset utf8_suggested = (none_suggested)
