use Rattle.langtag_text.proofs.RecommendedLaws.{alike_of_recommended, spelled_in_case}
use Rattle.langtag.proofs.KeptFound.{alike_kinds}
use Rattle.langtag.proofs.lang_tag_buf.LangTagBuf.make_recommended_case.Goals as goal

pub returns-clause-record : goal.returns-clause-record
returns-clause-record c = spelled_in_case _ _ c.put_recommended_case.ensures.case

pub returns-clause-same_kind : goal.returns-clause-same_kind
returns-clause-same_kind c = alike_kinds _ _ (alike_of_recommended _ _ c.put_recommended_case.ensures.case)
