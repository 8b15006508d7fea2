use Rattle.langtag_scan.proofs.Prelude.{arith, common_steps}
use Rattle.langtag_scan.proofs.FoundLaws.{tag_found}
use Rattle.langtag_scan.proofs.ReadingLaws.{viable_fill}
use Rattle.langtag_scan.proofs.IrregularTexts.{irregular_once, normal_no_private, normal_no_irregular, private_no_irregular}
use Rattle.langtag_scan.proofs.recogniser.recognise.Goals as goal

pub returns : goal.returns
returns g c = grind (arith, common_steps, normal_no_private, normal_no_irregular, private_no_irregular, irregular_once, viable_fill, tag_found)
