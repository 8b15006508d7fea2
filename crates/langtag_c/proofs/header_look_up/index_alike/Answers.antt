use Rattle.std.proofs.Common.{◌∙◌}
use Rattle.langtag_c.proofs.LookUps.{position_spans}
use Rattle.langtag_c.proofs.header_look_up.index_alike.Goals as goal

pub returns : goal.returns
returns c = c.first_alike.ensures ∙ position_spans c.args.bytes.now c.args.text.now c.args.spans.now
