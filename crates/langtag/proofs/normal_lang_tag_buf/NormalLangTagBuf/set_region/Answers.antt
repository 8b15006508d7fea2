use Rattle.langtag.specs.Edit.{with_region}
use Rattle.langtag.proofs.EditLaws.{same_text}
use Rattle.langtag.proofs.normal_lang_tag_buf.NormalLangTagBuf.set_region.Goals as goal

pub returns-clause-set_back : goal.returns-clause-set_back
returns-clause-set_back c r region t u v spells edited set = same_text r t v spells (set (with_region r region) edited)
