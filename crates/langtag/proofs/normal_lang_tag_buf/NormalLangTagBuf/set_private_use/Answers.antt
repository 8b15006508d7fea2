use Rattle.std.proofs.Common.{refl}
use Rattle.langtag.specs.Edit.{with_private_use}
use Rattle.langtag.proofs.EditLaws.{same_text}
use Rattle.langtag.proofs.normal_lang_tag_buf.NormalLangTagBuf.set_private_use.Goals as goal

pub returns-clause-set_back : goal.returns-clause-set_back
returns-clause-set_back c r part t u v spells edited set =
    same_text r t v spells (set (with_private_use r part) edited r.private_use (record { member = spells.0.private_use; joined = refl }))
