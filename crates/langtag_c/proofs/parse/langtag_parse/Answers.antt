use Rattle.langtag_scan.proofs.FoundLaws.{found_ends}
use Rattle.langtag_c.proofs.KindLaws.{spans_parts}
use Rattle.langtag_c.proofs.parse.langtag_parse.Goals as goal

pub returns-in-Some-ends-clause-parts : goal.returns-in-Some-ends-clause-parts
returns-in-Some-ends-clause-parts c =
    rw c.at.ensures.spans (spans_parts _ _ (found_ends _ _ _ c.in-Some.ensures.found c.in-Some-ends.ensures.ends))
