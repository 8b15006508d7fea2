use Rattle.std.proofs.Common.{[], ◌∙◌}
use Rattle.langtag_keyword.proofs.language_id.len_in_alphabet.Goals as goal

pub returns : goal.returns
returns c = c.len.ensures ∙ (c.push_in_alphabet.ensures _ [] c.new-out.ensures).counted
