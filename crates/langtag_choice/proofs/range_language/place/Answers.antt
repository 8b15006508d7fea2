use Rattle.langtag_scan.proofs.Prelude.{Err, Ok, arith, searched}
use Rattle.langtag_text.proofs.Rising.{climb_searched}
use Rattle.langtag_choice.proofs.MatchingTables.{climbs_at}
use Rattle.langtag_choice.proofs.range_language.place.Goals as goal

pub returns-in-Ok-clause-before : goal.returns-in-Ok-clause-before
returns-in-Ok-clause-before c = λ k below.
    let at = searched c.args.numbers.now c.args.least (Ok c.in-Ok.index) c.in-Ok.ensures.position (climb_searched c.args.numbers.now c.requires) in
    omega (arith, climbs_at 0 c.args.numbers.now k c.in-Ok.index c.requires below at.0, at.1)

pub returns-in-Ok-clause-after : goal.returns-in-Ok-clause-after
returns-in-Ok-clause-after c = λ k from inside.
    let at = searched c.args.numbers.now c.args.least (Ok c.in-Ok.index) c.in-Ok.ensures.position (climb_searched c.args.numbers.now c.requires) in
    omega (arith, climb_searched c.args.numbers.now c.requires c.in-Ok.index k from inside, at.1)

pub returns-in-Err-clause-before : goal.returns-in-Err-clause-before
returns-in-Err-clause-before c = λ k below.
    (searched c.args.numbers.now c.args.least (Err c.in-Err.index) c.in-Err.ensures.position (climb_searched c.args.numbers.now c.requires)).1 k below

pub returns-in-Err-clause-after : goal.returns-in-Err-clause-after
returns-in-Err-clause-after c = λ k from inside.
    let above = (searched c.args.numbers.now c.args.least (Err c.in-Err.index) c.in-Err.ensures.position (climb_searched c.args.numbers.now c.requires)).2 k from inside in
    omega (arith, above)
