use Rattle.std.proofs.Common.{◌∙◌}
use Rattle.langtag_choice.proofs.AsRead.{first_read}
use Rattle.langtag_choice.proofs.as_read.split_range.Goals as goal

pub returns-clause-first : goal.returns-clause-first
returns-clause-first c = c.split_at_either.ensures.before ∙ first_read c.args.range.now c.requires
