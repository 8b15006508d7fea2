use Rattle.langtag_scan.proofs.Prelude.{◌++◌, refl, arith, replace_range, common_steps}
use Rattle.langtag_scan.proofs.SpelledTexts.{normal_from_ends}
use Rattle.langtag.specs.Text.{normal_lang_tag_text}
use Rattle.langtag.proofs.EditLaws.{ends_of_tag, part_order, part_within, part_set, part_kept}
use Rattle.langtag.proofs.part.put_part.Goals as goal

pub returns-clause-order : goal.returns-clause-order
returns-clause-order c =
    let kept = ends_of_tag _ _ c.ends.result c.args.tag.kept_ends c.ends.ensures in
    rw (c.replacement.ensures.start, c.replacement.ensures.end) (part_order c.args.part _ c.ends.result kept)

pub returns-clause-within : goal.returns-clause-within
returns-clause-within c = grind (arith, common_steps, ends_of_tag, part_within)

pub returns-clause-set : goal.returns-clause-set
returns-clause-set c =
    let kept = ends_of_tag _ _ c.ends.result c.args.tag.kept_ends c.ends.ensures in
    part_set c.args.part _ _ c.ends.result kept (rw (c.replacement.ensures.start, c.replacement.ensures.end, c.replacement.ensures.put) refl)

pub returns-clause-normal : goal.returns-clause-normal
returns-clause-normal c =
    let kept = ends_of_tag _ _ c.ends.result c.args.tag.kept_ends c.ends.ensures in
    normal_from_ends _ _
    (part_kept c.args.part (normal_lang_tag_text c.args.tag)
    (replace_range (normal_lang_tag_text c.args.tag) c.replacement.result.start c.replacement.result.end (c.replacement.result.hyphen.now ++ c.replacement.result.part.now))
    c.ends.result _ kept (rw (c.replacement.ensures.start, c.replacement.ensures.end, c.replacement.ensures.put) refl) refl)
