use Rattle.langtag_keyword.proofs.Common.{◌≡◌, ◌∷◌, [], sym, ap, subst, ◌∙◌, rules, HasText, of_primary, one_flat, pushes_joined, pushes_same, unwrap_or}
use Rattle.langtag_text.proofs.Pushed.{record_pushed}
use Rattle.langtag.specs.Definitions.{capital_text}
use Rattle.langtag_cldr.specs.Definitions.{or_else}
use Rattle.langtag_text.specs.Fields.{subtag_of}
use Rattle.langtag_locale.specs.Resolved.{new_region, resolved_record, script_with}
use Rattle.langtag_locale.specs.WishTexts.{wish_texts}
use Rattle.langtag_locale.proofs.ResolvedRecords.{part_again, region_some, resolved_joined, variants_pushed}
use Rattle.langtag_locale.proofs.resolved.put_resolved.Goals as goal

pub returns : goal.returns
unfolding resolved_record
returns c = λ r spells.
    let w = wish_texts c.args.wish in
    let region = c.new_region-region.ensures.region r spells in
    let old : subtag_of c.region_field.result.now ≡ r.region = ap subtag_of (c.region_field.ensures.field ∙ ap (λ o. unwrap_or o []) (c.region.ensures.part r spells)) ∙ part_again r.region (region_some r spells.0) in
    let pushed =
    record_pushed (resolved_record w r) _ _ _ _ _ _ _
    (pushes_joined r.primary r.extended _ _ (of_primary r.primary spells.0.primary).some (pushes_same _ _ _ _ (ap (λ t. t ∷ []) (c.as_bytes.ensures ∙ c.language.ensures.part r spells)) c.push_subtag.ensures))
    (pushes_same _ _ _ _ (ap (λ t. one_flat (subtag_of t)) (c.script_with.ensures.script r spells ∙ ap (script_with r) region)) c.push_field.ensures)
    (pushes_same _ _ _ _
    (ap (λ t. one_flat (or_else (subtag_of (capital_text t)) (subtag_of c.region_field.result.now))) region ∙ ap (λ o. one_flat (or_else (subtag_of (capital_text (new_region r w.region))) o)) old)
    c.push_region.ensures)
    (variants_pushed r.variants _ _ _ spells.0.variants (c.as_bytes-2.ensures.value ∙ c.as_str.ensures.same_text ∙ c.variants.ensures.part r spells) c.push_field-2.ensures)
    (c.push_resolved_extensions.ensures r.extensions (record { members = spells.0.extensions; joined = sym (c.extensions.ensures.part r spells) }))
    (c.push_private_use.ensures r.private_use (c.private_use.ensures.part r spells)) in
    let has = subst (HasText _ c.push_private_use.new.out) (resolved_joined w r spells.0) (pushed _ [] c.new-out.ensures) in
    record { counted = c.len.ensures ∙ has.counted; written = λ fits. search (rules, has.same_buffer, has.written fits) }
