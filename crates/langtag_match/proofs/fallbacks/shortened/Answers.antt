use Rattle.langtag_scan.proofs.Prelude.{arith, IsCharBoundary-from_ascii, common_steps}
use Rattle.langtag_range.proofs.BasicForms.{IsAscii-language_range}
use Rattle.langtag_match.proofs.fallbacks.shortened.Goals as goal

pub range-requires-clause-end_boundary : goal.range-requires-clause-end_boundary
range-requires-clause-end_boundary c = grind (arith, common_steps, IsCharBoundary-from_ascii, IsAscii-language_range)
