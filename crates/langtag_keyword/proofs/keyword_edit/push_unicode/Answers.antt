use Rattle.std.proofs.lemmas.Grind.{common_steps}
use Rattle.std.proofs.Common.{arith}
use Rattle.langtag_keyword.proofs.KeywordBlocks.{extension-flat, some-put}
use Rattle.langtag_keyword.proofs.keyword_edit.push_unicode.Goals as goal

pub returns : goal.returns
returns c = grind (arith, common_steps, c.args.singleton, extension-flat, some-put, c.push_subtag.ensures)
