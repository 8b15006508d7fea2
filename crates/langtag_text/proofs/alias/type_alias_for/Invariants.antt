use Rattle.std.specs.Prelude.{◌≡◌, length, map}
use Rattle.langtag_text.specs.Alias.{type_alias_for}
use Rattle.langtag_text.proofs.alias.type_alias_for.Given as goal

-- the type was not met so far
abbrev pub invariant-loop-rows : goal.invariant-loop-rows
invariant-loop-rows l =
    type_alias_for (map (λ row. record { key = row.0.now; old = row.1.now; new = row.2.now }) l.rows) l.key l.text
    ≡ type_alias_for (map (λ row. record { key = row.0.now; old = row.1.now; new = row.2.now }) l.fn.rows) l.fn.key l.fn.text

abbrev pub decreases-loop-rows : goal.decreases-loop-rows
decreases-loop-rows l = length l.rows
