use Rattle.std.proofs.Common.{◌≡◌, false, rules, tests}
use Rattle.langtag_range.specs.Range.{is_star}
use Rattle.langtag_range.proofs.Among.{walk_missed}
use Rattle.langtag_range.proofs.extended.stand_among.Goals as goal

pub returns-then-not-pass : goal.returns-then-not-pass
returns-then-not-pass c =
    let plain : is_star c.in-Some.subtag.now ≡ false = search (rules, tests) in
    let missed = c.pass.ensures.missed (search rules) in
    (λ no. absurd cc, λ whole. absurd (walk_missed _ _ _ _ _ c.in-Some.ensures.steps plain missed c.loop-subtag.invariant.same whole))
