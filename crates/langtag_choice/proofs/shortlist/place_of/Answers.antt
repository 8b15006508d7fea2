use Rattle.std.proofs.Common.{◌∙◌, None, sym}
use Rattle.std.proofs.lemmas.List.{get_or_read}
use Rattle.langtag_choice.proofs.shortlist.place_of.Goals as goal

pub returns-then-other-index : goal.returns-then-other-index
returns-then-other-index c =
    (c.loop-place-test.true, (c.in-Some.other, sym (get_or_read c.args.best.now c.loop-place.place c.index-best-place.result c.loop-place-test.true c.index-best-place.is None) ∙ c.in-Some.is, c.if-other-index.true))
