use Rattle.langtag_parent.proofs.Texts.{shorter_last}
use Rattle.langtag_parent.proofs.parents.without_last.Goals as goal

pub returns-clause-shorter : goal.returns-clause-shorter
returns-clause-shorter c = shorter_last c.args.text.now c.split_last.result.1.now c.split_last.result.0 c.split_last.ensures.hyphen_free c.split_last.ensures.joined
