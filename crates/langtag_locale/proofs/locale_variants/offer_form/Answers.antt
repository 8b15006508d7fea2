use Rattle.std.proofs.lemmas.Grind.{common_steps}
use Rattle.std.proofs.Common.{arith}
use Rattle.langtag_keyword.proofs.Common.{sym, ap, subst, ◌∙◌, IsSubtag, of_variant, segments_left, IsOffered, order_number}
use Rattle.langtag_locale.specs.LocaleForm.{variant_form}
use Rattle.langtag_locale.proofs.KeptVariants.{kept_number}
use Rattle.langtag_locale.proofs.IdentifierForms.{variant_fits}
use Rattle.langtag_locale.proofs.locale_variants.offer_form.Goals as goal

pub order_number-number-requires : goal.order_number-number-requires
order_number-number-requires g c = subst IsSubtag (sym c.as_bytes.ensures.value) (of_variant c.args.variant.now c.requires)

pub offer_changed-requires : goal.offer_changed-requires
offer_changed-requires g c = grind (arith, common_steps, c.variant_form.ensures, variant_fits, c.args.variant.now)

pub returns-then-may_change : goal.returns-then-may_change
returns-then-may_change g c = grind (arith, common_steps, c.args.least.now, c.variant_form.ensures)

pub returns : goal.returns
returns g c =
    let v = c.args.variant.now in
    let number = c.order_number-number.ensures ∙ ap order_number c.as_bytes.ensures.value in
    let kept = c.may_change.ensures c.if-may_change.false v (sym number) c.args.language.now (segments_left c.args.variants) in
    subst (λ ns. IsOffered ns c.args.least.now c.offer.new.self)
    (kept_number v (variant_form c.args.language.now (segments_left c.args.variants) v) c.order_number-number.result (of_variant v c.requires) number kept) c.offer.ensures
