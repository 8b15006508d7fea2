use Rattle.std.proofs.Common.{◌≡◌, None, get_or}
use Rattle.std.proofs.lemmas.List.{get_or_read}
use Rattle.langtag_choice.specs.Candidates.{Keeps}
use Rattle.langtag_choice.proofs.PutLaws.{each_place}
use Rattle.langtag_choice.proofs.shortlist.first_of.Goals.{then-is_before, else-is_before}
use Rattle.langtag_choice.proofs.shortlist.first_of.Goals as goal

pub loop-place-preserved : goal.loop-place-preserved
loop-place-preserved c =
    let best = c.args.best.now in
    let place = c.loop-place.place in
    let first = c.loop-place.first in
    let place_is : c.index-best-place.result ≡ get_or best place None = get_or_read best place c.index-best-place.result c.loop-place-test.true c.index-best-place.is None in
    let first_is : c.index-best-first.result ≡ get_or best first None = get_or_read best first c.index-best-first.result c.loop-place.invariant.inside c.index-best-first.is None in
    elim c.if-is_before.branch [
      | then-is_before w ↦
          let next = rw (first_is, place_is) at (c.is_before.ensures.before w.if-is_before.true) in
          rw w.first-is (record {
            inside = c.loop-place-test.true;
            first = each_place (λ k. Keeps (get_or best k None) (get_or best place None)) place (λ r at. at) (λ k below r at. next r (c.loop-place.invariant.first k below r at));
          })
      | else-is_before w ↦
          let stays = rw (place_is, first_is) at (c.is_before.ensures.after w.if-is_before.false) in
          rw w.first-is (record {
            inside = c.loop-place.invariant.inside;
            first = each_place (λ k. Keeps (get_or best k None) (get_or best first None)) place stays c.loop-place.invariant.first;
          })
    ]
