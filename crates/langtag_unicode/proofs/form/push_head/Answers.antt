use Rattle.langtag_keyword.proofs.Common.{common_steps, ◌∷◌, ◌++◌, [], length, take, sym, ap, ◌∙◌, arith, length-take, pushes_joined, pushes_same, of_primary, one_flat, join, to_variants}
use Rattle.langtag_scan.specs.Tag.{IsNormal}
use Rattle.langtag_keyword.proofs.KeywordLaws.{head-cut}
use Rattle.langtag_unicode.proofs.form.push_head.Goals as goal
use Rattle.langtag_scan.proofs.PartOffsets.{ends_in_order}

pub slice_bounds-push_subtag-end : goal.slice_bounds-push_subtag-end
unfolding IsNormal
slice_bounds-push_subtag-end c = grind (arith, common_steps, length-take, ends_in_order)

pub returns : goal.returns
returns c = λ r spells.
    pushes_joined r.primary (r.extended ++ (one_flat r.script ++ (one_flat r.region ++ r.variants))) _ _ (of_primary r.primary spells.0.primary).some
    (pushes_same _ _ _ _
    (ap (λ t. t ∷ [])
    (ap (λ n. take n c.as_bytes.result.now) (ap (λ e. e.variants) (c.ends.ensures r spells))
    ∙ ap (take (length (join (to_variants r)))) (c.as_bytes.ensures.value ∙ c.as_str-text.ensures.same_text ∙ sym spells.1) ∙ head-cut r))
    c.push_subtag.ensures)
