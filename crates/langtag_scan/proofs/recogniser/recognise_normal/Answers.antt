use Rattle.langtag_scan.proofs.NormalTexts.{spelled_once}
use Rattle.langtag_scan.proofs.recogniser.recognise_normal.Goals as goal

pub returns-clause-one_record : goal.returns-clause-one_record
returns-clause-one_record g c = spelled_once
