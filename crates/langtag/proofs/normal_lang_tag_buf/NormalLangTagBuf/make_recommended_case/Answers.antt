use Rattle.std.proofs.Common.{rules}
use Rattle.langtag_scan.proofs.CaseLaw.{alike_parts}
use Rattle.langtag_text.proofs.RecommendedLaws.{alike_of_recommended, spelled_in_case}
use Rattle.langtag.proofs.KeptFound.{ends_alike}
use Rattle.langtag.proofs.normal_lang_tag_buf.NormalLangTagBuf.make_recommended_case.Goals as goal

pub invariant_of-self : goal.invariant_of-self
invariant_of-self c = search (rules, ends_alike, alike_of_recommended)

pub returns-clause-record : goal.returns-clause-record
returns-clause-record c = spelled_in_case _ _ c.put_recommended_case.ensures.case

pub returns-clause-alike : goal.returns-clause-alike
returns-clause-alike c = alike_of_recommended _ _ c.put_recommended_case.ensures.case

pub returns-clause-alike_parts : goal.returns-clause-alike_parts
returns-clause-alike_parts c = alike_parts _ _ (alike_of_recommended _ _ c.put_recommended_case.ensures.case)
