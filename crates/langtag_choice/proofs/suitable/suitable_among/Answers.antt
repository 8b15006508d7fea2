use Rattle.langtag_scan.proofs.Prelude.{length, arith, common_steps}
use Rattle.langtag_choice.proofs.SuitableTags.{none_left_out}
use Rattle.langtag_choice.proofs.suitable.suitable_among.Goals as goal

pub returns-clause-none_left : goal.returns-clause-none_left
returns-clause-none_left g c =
    let texts = g.T.TagList.texts c.args.tags.now in
    none_left_out (g.R.RangeList.elements c.args.ranges) texts (length texts) c.truncate.new.self.items (grind (arith, common_steps))
