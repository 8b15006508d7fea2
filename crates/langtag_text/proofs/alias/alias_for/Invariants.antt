use Rattle.std.specs.Prelude.{◌≡◌, length, map}
use Rattle.langtag_text.specs.Alias.{alias_for}
use Rattle.langtag_text.proofs.alias.alias_for.Given as goal

-- the text was not met so far
abbrev pub invariant-loop-rows : goal.invariant-loop-rows
invariant-loop-rows l =
    alias_for (map (λ row. record { old = row.0.now; new = row.1.now }) l.rows) l.text
    ≡ alias_for (map (λ row. record { old = row.0.now; new = row.1.now }) l.fn.rows) l.fn.text

abbrev pub decreases-loop-rows : goal.decreases-loop-rows
decreases-loop-rows l = length l.rows
