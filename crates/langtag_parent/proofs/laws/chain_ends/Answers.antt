use Rattle.langtag_parent.proofs.Lines.{line_ends}
use Rattle.langtag_parent.proofs.laws.chain_ends.Goals as goal

pub returns : goal.returns
returns c = record { ends = line_ends }
