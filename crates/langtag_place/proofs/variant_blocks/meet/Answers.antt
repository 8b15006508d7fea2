use Rattle.langtag_scan.proofs.Prelude.{arith, refl, common_steps}
use Rattle.langtag_place.proofs.RepeatLaws.{IsAbsent-place, AreMet-absent, AreMet-present, again-absent}
use Rattle.langtag_place.proofs.variant_blocks.meet.Goals.{then-place-block-via-then-place-block, then-place-block-via-else-place-block+then-block-place}
use Rattle.langtag_place.proofs.variant_blocks.meet.Goals as goal

pub returns-then-place-block : goal.returns-then-place-block
returns-then-place-block c =
    let absent = IsAbsent-place c.args.block.now c.args.number c.place_of-place.result c.requires.rises c.place_of-place.ensures
    (λ inside same. elim c.then-place-block.branch [
      | then-place-block-via-then-place-block w ↦ let end = w.if-place-block.true in omega (arith, end, inside)
      | then-place-block-via-else-place-block+then-block-place w ↦ w.if-block-place.true same
    ]) in
    record {
      room = refl;
      met = λ numbers before. AreMet-absent c.args.block.now c.args.met.now numbers c.args.number absent before;
      again = λ numbers before. again-absent c.args.block.now numbers c.args.number absent;
    }

pub returns-clause-met : goal.returns-clause-met
returns-clause-met c = grind (arith, common_steps, AreMet-present c.args.block.now c.args.met.now)
