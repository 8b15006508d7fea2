-- A canonical value is its own canonical value: no replacement is replaced, and the empty value stays.
use Rattle.std.proofs.lemmas.Bool.Decides.{nat_tests}
use Rattle.langtag_keyword.proofs.Common.{common_steps, arith, ◌≡◌, ℕ, true, not, cond, List, [], map, Option, None, unwrap_or, refl, ap, false≢true, not-true, list_all, is_none, fold_text-twice, join-subtags, are_alike, fold_text, are_alike-decides, join, subtags, Alias, TypeAlias, alias_for, type_alias_for, unicode_value, both, found_has}
use Rattle.langtag_scan.proofs.CaseLaw.{join-fold, map-twice, subtags-fold}
use Rattle.langtag_scan.specs.Case.{fold_byte}
use Rattle.langtag_keyword.specs.Aliases.{subdivision_aliases, transform_type_aliases, unicode_type_aliases}
use Rattle.langtag_keyword.specs.Form.{has_subdivision, subdivision, transform_value, unicode_type}
use Rattle.langtag_keyword.proofs.Aliases.{alias_for-alike, type_alias_for-alike}
use Rattle.langtag_keyword.proofs.Found.{found_is}

-- ---- by computation

-- no new subdivision is replaced, nor is the empty text
subdivisions_settled : (list_all {X = Alias} (λ row. is_none (alias_for subdivision_aliases row.new)) subdivision_aliases ≡ true) × (alias_for subdivision_aliases [] ≡ None)
unfolding subdivision_aliases fold_byte
subdivisions_settled = (refl, refl)

types_settled :
    (list_all {X = TypeAlias} (λ row. is_none (type_alias_for unicode_type_aliases row.key row.new)) unicode_type_aliases ≡ true)
    × (list_all {X = TypeAlias} (λ row. not (are_alike row.old [])) unicode_type_aliases ≡ true)
unfolding unicode_type_aliases fold_byte
types_settled = (refl, refl)

transforms_settled : list_all {X = TypeAlias} (λ row. is_none (type_alias_for transform_type_aliases row.key row.new)) transform_type_aliases ≡ true
unfolding transform_type_aliases fold_byte
transforms_settled = refl

-- ---- no replacement is replaced

is_none-none : (o : Option (List ℕ)) → is_none o ≡ true → o ≡ None
is_none-none o is = grind (arith, common_steps, false≢true)

alias-own :
    (rows : List Alias) (text : List ℕ) → list_all {X = Alias} (λ row. is_none (alias_for rows row.new)) rows ≡ true →
    alias_for rows (fold_text (unwrap_or (alias_for rows text) text)) ≡ None
alias-own rows text settled = grind (arith, common_steps, alias_for-alike, fold_text-twice, is_none-none, found_has)

type-own :
    (rows : List TypeAlias) (key text : List ℕ) → list_all {X = TypeAlias} (λ row. is_none (type_alias_for rows row.key row.new)) rows ≡ true →
    type_alias_for rows key (fold_text (unwrap_or (type_alias_for rows key text) text)) ≡ None
type-own rows key text settled = grind (arith, common_steps, type_alias_for-alike, fold_text-twice, is_none-none, found_has, found_is, both, are_alike-decides)

-- ---- values of `u`

abbrev pub replaced : List ℕ → List ℕ → List ℕ
replaced key text = cond (has_subdivision key) (subdivision text) (unicode_type key text)

replaced-own : (key text : List ℕ) → replaced key (fold_text (replaced key text)) ≡ fold_text (replaced key text)
unfolding subdivision unicode_type
replaced-own key text = grind (arith, common_steps, alias-own subdivision_aliases text subdivisions_settled.0, type-own unicode_type_aliases key text types_settled.0)

replaced-empty : (key : List ℕ) → replaced key [] ≡ []
unfolding subdivision unicode_type
replaced-empty key = grind (arith, common_steps, subdivisions_settled.1, types_settled.1, false≢true, not-true, found_has, both, found_is)

unicode-own : (key text : List ℕ) → unicode_value key (fold_text (unicode_value key text)) ≡ fold_text (unicode_value key text)
unicode-own key text = grind (arith, common_steps, replaced-empty, replaced-own, fold_text-twice)

-- ---- values of `t`

transform-own : (key text : List ℕ) → transform_value key (fold_text (transform_value key text)) ≡ fold_text (transform_value key text)
unfolding transform_value
transform-own key text = ap (λ o. unwrap_or o (fold_text (transform_value key text))) (type-own transform_type_aliases key text transforms_settled)

-- ---- subtags of values

-- the subtags of a canonical value are those of its own canonical value
abbrev pub AreSettled : (List ℕ → List ℕ → List ℕ) → Type 0
AreSettled canonical =
    (key : List ℕ) (w : List (List ℕ)) →
    map fold_text (subtags (canonical key (join (map fold_text (subtags (canonical key (join w))))))) ≡ map fold_text (subtags (canonical key (join w)))

settled : (canonical : List ℕ → List ℕ → List ℕ) → ((key text : List ℕ) → canonical key (fold_text (canonical key text)) ≡ fold_text (canonical key text)) → AreSettled canonical
settled canonical own key w = grind (arith, nat_tests, own key, join-fold, join-subtags, subtags-fold, map-twice fold_text fold_text-twice, fold_text-twice)

pub unicode-settled : AreSettled unicode_value
unicode-settled = settled unicode_value unicode-own

pub transform-settled : AreSettled transform_value
transform-settled = settled transform_value transform-own
