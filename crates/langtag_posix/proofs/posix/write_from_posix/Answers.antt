use Rattle.langtag_posix.proofs.PosixLaws.{cased_written}
use Rattle.langtag_posix.proofs.posix.write_from_posix.Goals as goal

pub returns-clause-written : goal.returns-clause-written
returns-clause-written c =
    (c.in_ok-len.ensures.written.0, cased_written c.args.name.now _ _ _ _ c.in_ok-len.ensures.written.1 c.put_case.ensures.put c.put_case.ensures.kept)
