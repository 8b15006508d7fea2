use Rattle.std.proofs.Common.{◌≡◌, None, get_or}
use Rattle.std.proofs.lemmas.List.{get_or_read}
use Rattle.langtag_choice.specs.Candidates.{Keeps}
use Rattle.langtag_choice.proofs.PutLaws.{each_place}
use Rattle.langtag_choice.proofs.shortlist.worst_of.Goals.{then-not-is_before, else-not-is_before}
use Rattle.langtag_choice.proofs.shortlist.worst_of.Goals as goal

pub loop-place-preserved : goal.loop-place-preserved
loop-place-preserved c =
    let best = c.args.best.now in
    let place = c.loop-place.place in
    let worst = c.loop-place.worst in
    let place_is : c.index-best-place.result ≡ get_or best place None = get_or_read best place c.index-best-place.result c.loop-place-test.true c.index-best-place.is None in
    let worst_is : c.index-best-worst.result ≡ get_or best worst None = get_or_read best worst c.index-best-worst.result c.loop-place.invariant.inside c.index-best-worst.is None in
    elim c.if-not-is_before.branch [
      | then-not-is_before w ↦
          let next = rw (place_is, worst_is) at (c.is_before.ensures.after w.if-not-is_before.true) in
          rw w.worst-is (record {
            inside = c.loop-place-test.true;
            worst = each_place (λ k. Keeps (get_or best place None) (get_or best k None)) place (λ r at. at) (λ k below r at. c.loop-place.invariant.worst k below r (next r at));
          })
      | else-not-is_before w ↦
          let stays = rw (worst_is, place_is) at (c.is_before.ensures.before w.if-not-is_before.false) in
          rw w.worst-is (record {
            inside = c.loop-place.invariant.inside;
            worst = each_place (λ k. Keeps (get_or best worst None) (get_or best k None)) place stays c.loop-place.invariant.worst;
          })
    ]
