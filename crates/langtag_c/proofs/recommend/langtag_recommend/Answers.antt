use Rattle.langtag_scan.proofs.CaseLaw.{alike_parts}
use Rattle.langtag.proofs.KeptFound.{alike_kinds}
use Rattle.langtag_text.proofs.RecommendedLaws.{alike_of_recommended}
use Rattle.langtag_c.proofs.recommend.langtag_recommend.Goals as goal

pub returns-clause-same_kind : goal.returns-clause-same_kind
returns-clause-same_kind c = alike_kinds _ _ (alike_of_recommended _ _ c.make_recommended_case.ensures.case)

pub returns-clause-alike_parts : goal.returns-clause-alike_parts
returns-clause-alike_parts c = alike_parts _ _ (alike_of_recommended _ _ c.make_recommended_case.ensures.case)
