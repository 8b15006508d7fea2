use Rattle.langtag_scan.proofs.Prelude.{◌<◌, Some, length, arith, common_steps, append-nil, map-append}
use Rattle.langtag_match.proofs.Readings.{first_bad, goes_on, placed, read_all, read_first, read_next}
use Rattle.langtag_match.proofs.accept_language.elements.Goals as goal
use Rattle.langtag_match.proofs.accept_language.elements.Goals.{in-Ok+in_ok-map_err-in-Ok, in-Err, in-Err+then-is_none+else-not-is_empty_element, in-Err+else-is_none}

pub loop-left-init : goal.loop-left-init
loop-left-init c = rw (c.as_bytes-left.ensures.value, c.new-elements.ensures.items) (read_first c.args.header.now)

pub loop-left-preserved : goal.loop-left-preserved
loop-left-preserved c =
    let now = c.loop-left in
    let some : 0 < length now.left.now = grind (arith, common_steps) in
    let next = read_next c.args.header.now now.left.now now.index now.elements.items now.bad now.invariant in
    let good = goes_on c.args.header.now now.left.now now.index now.elements.items now.bad now.invariant in
    elim c.match-element_at.branch [
      | in-Ok+in_ok-map_err-in-Ok w ↦ rw (w.elements-is, w.bad-is, c.split_at_byte.ensures.after) (next w.push.new.self.items now.bad some (good (λ none. grind (arith, common_steps))) (grind (arith, common_steps, map-append)))
      | in-Err w ↦
          let place = w.trimmed_place.ensures in
          let begins = placed c.split_at_byte.result.0.now _ w.trimmed_place.result.0 w.trimmed_place.result.1 place.ordered place.within place.space place.trimmed in
          let first = first_bad c.args.header.now now.left.now now.index now.elements.items now.bad now.invariant w.in-Err.part (grind (arith, common_steps)) some (grind (arith, common_steps)) (grind (arith, common_steps)) w.trimmed_place.result.0 (grind (arith, common_steps, begins)) in
          rw (w.elements-is, w.bad-is, c.split_at_byte.ensures.after) (next now.elements.items (Some _) some first (grind (arith, common_steps, append-nil)))
      | in-Err+then-is_none+else-not-is_empty_element w ↦ rw (w.elements-is, w.bad-is, c.split_at_byte.ensures.after) (next now.elements.items now.bad some (good (λ none. grind (arith, common_steps))) (grind (arith, common_steps, append-nil)))
      | in-Err+else-is_none w ↦ rw (w.elements-is, w.bad-is, c.split_at_byte.ensures.after) (next now.elements.items now.bad some (good (λ none. grind (arith, common_steps, none))) (grind (arith, common_steps, append-nil)))
    ]

pub returns-clause-elements : goal.returns-clause-elements
returns-clause-elements c = (read_all c.args.header.now c.loop-left.left.now c.loop-left.index c.loop-left.elements.items c.loop-left.bad c.loop-left.invariant (grind (arith, common_steps))).1
