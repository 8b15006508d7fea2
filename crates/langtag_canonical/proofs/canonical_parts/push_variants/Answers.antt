use Rattle.langtag_scan.proofs.Prelude.{ap, unwrap_or, arith, ◌≡◌, common_steps}
use Rattle.langtag_place.specs.Text.{variant_text, variants_left}
use Rattle.langtag_canonical.specs.Canonical.{canonical_variants}
use Rattle.langtag_fields.specs.Fields.{preferred_variant}
use Rattle.langtag_canonical.proofs.ReplacedSubtags.{view_of}
use Rattle.langtag_text.proofs.Pushed.{pushes_same, pushes_next, pushes_ended}
use Rattle.langtag_canonical.proofs.canonical_parts.push_variants.Goals as goal

pub loop-variant-init : goal.loop-variant-init
loop-variant-init c = grind (arith, common_steps, pushes_same)

pub loop-variant-preserved : goal.loop-variant-preserved
loop-variant-preserved c =
    let v = variant_text c.in-Some.variant in
    let becomes : c.as_bytes.result.now ≡ unwrap_or (preferred_variant v) v = cc (view_of variant_text c.preferred_variant.result c.in-Some.variant) in
    record {
      can_next = tt;
      is_finite = tt;
      so_far = λ new these.
          c.loop-variant.invariant.so_far new
          (rw c.in-Some.ensures.steps (pushes_next _ (unwrap_or (preferred_variant v) v) (canonical_variants (variants_left c.next.new.self)) _ _ new becomes c.push_subtag.ensures these));
    }

pub returns : goal.returns
returns c = c.loop-variant.invariant.so_far _ (pushes_ended _ _ (ap canonical_variants c.in-None.ensures.steps.0))
