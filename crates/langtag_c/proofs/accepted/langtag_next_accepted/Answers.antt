use Rattle.langtag_scan.proofs.Prelude.{nat_tests, ◌≡◌, ◌+◌, length, ap, arith}
use Rattle.langtag_match.specs.Text.{weighted_range_text}
use Rattle.langtag_c.proofs.PlaceLaws.{cut_place}
use Rattle.langtag_c.proofs.accepted.langtag_next_accepted.Goals as goal

pub returns-in-Ok-clause-element : goal.returns-in-Ok-clause-element
returns-in-Ok-clause-element c = λ _.
    let bytes = c.args.bytes.now in
    let item = c.in-Some.item in
    let found = c.in-Ok.element in
    let place = c.in-Ok.ensures.place in
    let size : length c.as_str.result.now ≡ length (weighted_range_text found.weighted) = ap length c.as_str.ensures.same_text in
    let stop = found.start + length c.as_str.result.now in
    let cut = cut_place bytes item found.start stop (omega arith) (omega (arith, size, place.within)) in
    record {
      item = item;
      taken = c.in-Some.ensures.taken;
      reading = grind (arith, nat_tests, c.in-Ok.ensures.read, cut, size, place.there);
      begins = omega arith;
      ends = omega (arith, cut.1);
      space = rw cut.2 place.space;
    }
