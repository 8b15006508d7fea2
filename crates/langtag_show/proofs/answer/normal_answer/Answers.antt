use Rattle.std.proofs.Common.{◌∙◌, ap, refl, sym}
use Rattle.langtag_scan.proofs.SpelledTexts.{offsets_kept}
use Rattle.langtag_scan.specs.Tag.{IsNormal}
use Rattle.langtag_show.specs.ShowAnswer.{part_or_nothing}
use Rattle.langtag_show.proofs.KindAnswers.{answer_normal}
use Rattle.langtag_show.proofs.answer.normal_answer.Goals as goal
use Rattle.langtag_show.proofs.answer.normal_answer.Goals.{then-has_repeats, else-has_repeats}

pub returns : goal.returns
unfolding IsNormal
returns c =
    let (r, is) = (offsets_kept _ _ c.args.tag.now.kept_ends).normal in
    let repeats = c.has_repeats.ensures r is in
    answer_normal _ r _ _ _ _ _ _ _ is
    (c.as_str.ensures.same_text ∙ c.language.ensures.part r is)
    (c.script_or_nothing.ensures ∙ ap part_or_nothing (c.script.ensures.part r is))
    (c.region_or_nothing.ensures ∙ ap part_or_nothing (c.region.ensures.part r is))
    (c.as_str-2.ensures.same_text ∙ c.variants.ensures.part r is)
    (c.as_str-3.ensures.same_text ∙ c.extensions.ensures.part r is)
    (c.private_use_or_nothing.ensures ∙ ap part_or_nothing (c.private_use.ensures.part r is))
    (elim c.if-has_repeats.branch [
      | then-has_repeats w ↦ rw (w.result-is, sym repeats ∙ w.if-has_repeats.true) refl
      | else-has_repeats w ↦ rw (w.result-is, sym repeats ∙ w.if-has_repeats.false) refl
    ])
