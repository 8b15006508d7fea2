-- The names whose last field is no subtag.
use Rattle.langtag_scan.proofs.Prelude.{◌≡◌, ℕ, ◌≤◌, ◌<◌, ◌&&◌, not, Bool, true, false, List, [], ◌∷◌, length, map, IfSome, None, Some, refl, ap, sym, subst, ◌∙◌, ◌⊎◌, arith, codes, leb, list_all, after_first, and_parts, common_steps, nat_tests, false_from_ne_true}
use Rattle.langtag_scan.specs.Grammar.{Alike, are_alike, fold_byte, fold_text, is_hyphen}
use Rattle.langtag_scan.proofs.CaseLaw.{hyphen-fold}
use Rattle.langtag_text.specs.Alias.{Alias, alias_for}
use Rattle.langtag_text.proofs.Alike.{alike_is, alike_length}
use Rattle.langtag_range.proofs.AlikeTexts.{after_first-fold}
use Rattle.langtag_posix.proofs.Definitions.{last_fields}
use Rattle.langtag_posix.specs.declared.platform_names.TheConstants.{LAST_FIELDS}

pub rows : map (λ row. record { old = row.0.now; new = row.1.now }) LAST_FIELDS ≡ last_fields
unfolding last_fields
rows = refl

-- ---- what is found in a list of aliases

few_found : (aliases : List Alias) (n : ℕ) (text : List ℕ) → list_all (λ alias. leb (length alias.new) n) aliases ≡ true → IfSome (alias_for aliases text) (λ new. length new ≤ n)
few_found [] n text all = tt
few_found (a ∷ aliases) n text all = grind (arith, common_steps, nat_tests, and_parts (leb (length a.new) n), few_found aliases n text)

none_found :
    (aliases : List Alias) (good : List ℕ → Bool) (text : List ℕ) → list_all (λ alias. good alias.old) aliases ≡ true →
    ((old : List ℕ) → good old ≡ true → are_alike old text ≡ false) → alias_for aliases text ≡ None
none_found [] good text all other = refl
none_found (a ∷ aliases) good text all other = grind (arith, common_steps, and_parts (good a.old), none_found aliases good text)

-- a tag of a last field is short
few : (text : List ℕ) → IfSome (alias_for last_fields text) (λ tag. length tag ≤ 20)
unfolding last_fields
few text = few_found last_fields 20 text refl

pub few_said : (aliases : List Alias) (text tag : List ℕ) → aliases ≡ last_fields → Some tag ≡ alias_for aliases text → length tag ≤ 20
few_said aliases text tag same is = subst (λ o. IfSome o (λ t. length t ≤ 20)) (sym (is ∙ ap (λ rows. alias_for rows text) same)) (few text)

-- no name is shorter than eight bytes
pub short_none : (text : List ℕ) → length text < 8 → alias_for last_fields text ≡ None
unfolding last_fields
short_none text short = none_found last_fields (λ old. leb 8 (length old)) text refl (λ old long. grind (arith, common_steps, nat_tests, false_from_ne_true, alike_length old text))

-- ---- the last field

-- the field after a language and a region
abbrev pub field_of : List ℕ → List ℕ
field_of text = after_first is_hyphen (after_first is_hyphen text)

field-fold : (text : List ℕ) → field_of (fold_text text) ≡ fold_text (field_of text)
field-fold text =
    ap (after_first is_hyphen) (after_first-fold is_hyphen hyphen-fold text) ∙ after_first-fold is_hyphen hyphen-fold (after_first is_hyphen text)

alike_fields : (a b : List ℕ) → Alike a b → Alike (field_of a) (field_of b)
alike_fields a b alike = sym (field-fold a) ∙ ap field_of alike ∙ field-fold b

abbrev is_named_field : List ℕ → Bool
is_named_field text = not (are_alike (field_of text) []) && not (are_alike (field_of text) (codes "POSIX"))

all_named : list_all (λ alias. is_named_field alias.old) last_fields ≡ true
unfolding last_fields fold_byte
all_named = refl

-- a name without a last field, or with `POSIX`, is none of them
pub other_field : (text : List ℕ) → (field_of text ≡ []) ⊎ (field_of text ≡ codes "POSIX") → alias_for last_fields text ≡ None
other_field text is = none_found last_fields is_named_field text all_named (λ old named. grind (arith, common_steps, nat_tests, and_parts, alike_fields old text, alike_is))
