use Rattle.std.proofs.Common.{refl}
use Rattle.langtag.proofs.lang_tag_buf.LangTagBuf.put.Goals as goal

pub returns-clause-taken_out : goal.returns-clause-taken_out
returns-clause-taken_out c none normal = refl
