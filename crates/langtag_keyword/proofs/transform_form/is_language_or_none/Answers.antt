use Rattle.langtag_keyword.proofs.Common.{sym, ap, ◌∙◌, segments_left, is_language_or_none}
use Rattle.langtag_keyword.proofs.KeywordLaws.{language-some}
use Rattle.langtag_keyword.proofs.transform_form.is_language_or_none.Goals as goal

pub returns-in-Some : goal.returns-in-Some
returns-in-Some c = c.is_language_id.ensures ∙ language-some c.in-Some.language.now _ (ap segments_left (sym c.in-Some.is) ∙ c.preceding.ensures)

pub returns-in-None : goal.returns-in-None
returns-in-None c = ap is_language_or_none (sym (ap segments_left c.in-None.is) ∙ c.preceding.ensures)
