use Rattle.std.proofs.lemmas.Grind.{common_steps}
use Rattle.langtag_keyword.proofs.Common.{arith, IsCharBoundary-after_ascii}
use Rattle.langtag_keyword.proofs.SubtagTexts.{segments-cut, segments-whole}
use Rattle.langtag_keyword.proofs.subtags.split_first.Goals as goal

pub returns-then-end-text : goal.returns-then-end-text
returns-then-end-text c = grind (arith, common_steps, segments-whole, c.segment_end-end.result, c.as_bytes.ensures.value)

pub range_from-requires : goal.range_from-requires
range_from-requires c _ =
    let inside = c.segment_end-end.ensures.hyphen (grind arith) in
    IsCharBoundary-after_ascii c.args.text.now c.segment_end-end.result c.utf8.text (grind arith) (grind arith)

pub returns : goal.returns
returns c =
    let cut = segments-cut c.args.text.now c.range.result.now c.range_from.result.now c.segment_end-end.result in
    grind (arith, common_steps, cut, c.as_bytes.ensures.value, c.segment_end-end.ensures, c.range.ensures.value, c.range_from.ensures.value)
