use Rattle.std.proofs.Common.{refl}
use Rattle.langtag.specs.Edit.{with_language}
use Rattle.langtag.proofs.EditLaws.{same_text}
use Rattle.langtag.proofs.normal_lang_tag_buf.NormalLangTagBuf.set_language.Goals as goal

pub returns-clause-set_back : goal.returns-clause-set_back
returns-clause-set_back c r m t u v spells edited set =
    let fits = spells.0 in
    same_text r t v spells (set (with_language r m.0 m.1) edited r.primary r.extended (record { first = fits.primary; others = fits.extended; few = fits.few; short = fits.short; joined = refl }))
