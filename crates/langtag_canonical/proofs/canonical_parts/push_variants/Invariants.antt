use Rattle.langtag_scan.specs.Subtags.{subtags}
use Rattle.langtag_place.specs.Text.{variants_text, variants_left}
use Rattle.langtag_canonical.specs.Canonical.{canonical_variants}
use Rattle.langtag_text.specs.declared.output.Output.{Output}
use Rattle.langtag_text.specs.Output.{Pushes}
use Rattle.langtag_canonical.proofs.canonical_parts.push_variants.Given as goal

-- what is put of the rest is put after what those before it became
abbrev pub invariant-loop-variant : goal.invariant-loop-variant
invariant-loop-variant l = record {
  can_next : (goal.iterator-loop-variant).can_next l.variant-iterator;
  is_finite : (goal.iterator-loop-variant).is_finite l.variant-iterator;
  so_far :
      (new : Output) → Pushes (canonical_variants (variants_left l.variant-iterator)) l.out new →
      Pushes (canonical_variants (subtags (variants_text l.fn.variants))) l.initial.out new;
}
