use Rattle.std.specs.Prelude.{◌≡◌, flat_map, length, map}
use Rattle.langtag_text.specs.Alias.{type_alias_for}
use Rattle.langtag_keyword.proofs.alias.key_alias_for.Given as goal

-- the type was not met so far
abbrev pub invariant-loop-rows : goal.invariant-loop-rows
invariant-loop-rows l =
    type_alias_for (flat_map (λ group. map (λ row. record { key = group.0.now; old = row.0.now; new = row.1.now }) group.1.now) l.rows) l.key l.text
    ≡ type_alias_for (flat_map (λ group. map (λ row. record { key = group.0.now; old = row.0.now; new = row.1.now }) group.1.now) l.fn.rows) l.fn.key l.fn.text

abbrev pub decreases-loop-rows : goal.decreases-loop-rows
decreases-loop-rows l = length l.rows
