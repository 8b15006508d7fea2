use Rattle.langtag_scan.proofs.Prelude.{arith, common_steps, IsUtf8-from_ascii}
use Rattle.std.proofs.lemmas.List.{with_items_is}
use Rattle.langtag_text.proofs.RecommendedLaws.{recommended-ascii}
use Rattle.langtag.proofs.recommended_case.put_recommended_case.Goals as goal

pub from_utf8_unchecked-requires : goal.from_utf8_unchecked-requires
from_utf8_unchecked-requires c =
    grind (arith, common_steps, recommended-ascii, with_items_is c.into_bytes-bytes.result c.make_recommended_case.new.text, IsUtf8-from_ascii)
