use Rattle.std.proofs.Common.{◌≡◌, ◌==◌, ◌++◌, ℕ, false, List, [], ◌∷◌, length, sym, ◌∙◌}
use Rattle.langtag_text.proofs.replacement.replace.Goals as goal

not_empty : (hyphen part : List ℕ) → (length part == 0) ≡ false → hyphen ++ part ≡ [] → ⊥
not_empty [] [] other nothing = cc
not_empty [] (b ∷ part) other nothing = cc
not_empty (b ∷ hyphen) part other nothing = cc

pub returns-in_err-text-clause-taken_out : goal.returns-in_err-text-clause-taken_out
returns-in_err-text-clause-taken_out c nothing = absurd (not_empty _ _ (sym c.is_empty.ensures ∙ c.if-is_empty.false) nothing)

pub returns-clause-replaced : goal.returns-clause-replaced
returns-clause-replaced c = rw c.as_str.ensures.value at c.in_ok-text.ensures
