use Rattle.std.proofs.Common.{inl, refl}
use Rattle.langtag_scan.specs.Tag.{IsTag}
use Rattle.langtag_posix.proofs.PosixNameRead.{other_name}
use Rattle.langtag_c.proofs.WrittenTexts.{posix_none}
use Rattle.langtag_c.proofs.posix.langtag_to_posix.Goals as goal

pub returns-in_default-clause-no_name : goal.returns-in_default-clause-no_name
unfolding IsTag
returns-in_default-clause-no_name c = (λ _. other_name c.args.bytes.now (λ normal. c.in_default.ensures (inl normal)), λ _. refl)

pub returns-clause-no_name : goal.returns-clause-no_name
returns-clause-no_name c = posix_none _ _ _ _ c.write_to_posix.result _ c.in-Some.ensures.0 c.unwrap_or.ensures c.write_to_posix.ensures.written
