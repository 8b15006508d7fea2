use Rattle.std.proofs.Common.{refl}
use Rattle.langtag.specs.Edit.{with_variants}
use Rattle.langtag.proofs.EditLaws.{same_text}
use Rattle.langtag.proofs.normal_lang_tag_buf.NormalLangTagBuf.set_variants.Goals as goal

pub returns-clause-set_back : goal.returns-clause-set_back
returns-clause-set_back c r variants t u v spells edited set =
    same_text r t v spells (set (with_variants r variants) edited r.variants (record { members = spells.0.variants; joined = refl }))
