use Rattle.langtag_range.proofs.Among.{same_test, test_extended-decides}
use Rattle.langtag_registry.proofs.misplaced.matches_prefix.Goals as goal

pub returns : goal.returns
returns c = same_test _ _ _ c.matches_extended.ensures (test_extended-decides c.args.prefix.now c.args.before.now)
