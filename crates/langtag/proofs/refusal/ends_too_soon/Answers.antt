use Rattle.langtag_scan.proofs.Prelude.{length, arith, lt-ltb, common_steps}
use Rattle.langtag.proofs.RefusalLaws.{goes_on_by_hyphen}
use Rattle.langtag.proofs.refusal.ends_too_soon.Goals as goal

pub returns-then-viable-bytes-clause-soon : goal.returns-then-viable-bytes-clause-soon
returns-then-viable-bytes-clause-soon c = grind (arith, common_steps, goes_on_by_hyphen, lt-ltb (length c.args.bytes.now) c.args.viable)
