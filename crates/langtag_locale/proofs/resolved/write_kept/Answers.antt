use Rattle.std.proofs.lemmas.Bool.Decides.{nat_tests}
use Rattle.langtag_keyword.proofs.Common.{arith}
use Rattle.langtag_locale.proofs.resolved.write_kept.Goals as goal

pub returns : goal.returns
returns c = grind (arith, nat_tests, c.write_text.ensures, c.as_bytes.ensures)
