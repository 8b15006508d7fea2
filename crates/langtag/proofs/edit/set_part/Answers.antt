use Rattle.langtag_scan.proofs.Prelude.{◌≡◌, ◌+◌, length, refl, ap, sym, ◌∙◌, arith, length-append, common_steps}
use Rattle.langtag_scan.proofs.SpelledTexts.{ends_had, ends_whole}
use Rattle.langtag.specs.PartPlaces.{put_text}
use Rattle.langtag.proofs.EditLaws.{part_order, part_set, part_kept}
use Rattle.langtag.proofs.edit.set_part.Goals as goal

pub replace-requires-clause-order : goal.replace-requires-clause-order
replace-requires-clause-order c = grind (arith, common_steps, part_order c.args.part, ends_had)

pub ends-requires : goal.ends-requires
ends-requires c =
    let made = rw (c.replacement-new.ensures.start, c.replacement-new.ensures.end, c.replacement-new.ensures.put) at c.in_ok-replace.ensures.replaced in
    let new = c.replacement-new.result in
    let counted : length new.hyphen.now + length new.part.now ≡ length (put_text c.args.part) =
    sym (length-append new.hyphen.now new.part.now) ∙ ap length c.replacement-new.ensures.put in
    let whole = ends_whole _ _ (part_kept c.args.part _ _ c.args.ends _ (ends_had _ _ c.requires) made counted) in
    rw (c.with.ensures, c.of.ensures) (omega (arith, whole))

pub returns-clause-set : goal.returns-clause-set
returns-clause-set c = grind (arith, common_steps, part_set c.args.part, ends_had)

pub returns-clause-kept : goal.returns-clause-kept
returns-clause-kept c = grind (arith, common_steps, length-append, part_kept c.args.part, ends_had)

pub returns-clause-taken_out : goal.returns-clause-taken_out
returns-clause-taken_out c none = refl
