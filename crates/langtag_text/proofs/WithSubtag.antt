-- A subtag after a text: with a hyphen between them where the text has bytes.
use Rattle.langtag_scan.proofs.Prelude.{common_steps, ◌≡◌, ℕ, ◌≤◌, List, ◌∷◌, ◌++◌, length, arith}
use Rattle.langtag_text.specs.Output.{with_subtag}

pub with_subtag-none : (text subtag : List ℕ) → length text ≡ 0 → with_subtag text subtag ≡ subtag
unfolding with_subtag
with_subtag-none text subtag none = grind (arith, common_steps)

pub with_subtag-some : (text subtag : List ℕ) → 1 ≤ length text → with_subtag text subtag ≡ text ++ 45 ∷ subtag
unfolding with_subtag
with_subtag-some text subtag some = grind (arith, common_steps)
