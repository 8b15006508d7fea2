use Rattle.langtag_scan.proofs.Prelude.{◌≡◌, list_all}
use Rattle.langtag_scan.specs.Subtags.{subtags}
use Rattle.langtag_place.specs.Text.{variants_text, variants_left}
use Rattle.langtag_canonical.proofs.ReplacedSubtags.{has_none}
use Rattle.langtag_canonical.proofs.canonical_variants.are_canonical_variants.Given as goal

-- those before the rest have no Preferred-Value
abbrev pub invariant-loop-variant : goal.invariant-loop-variant
invariant-loop-variant l = record {
  can_next : (goal.iterator-loop-variant).can_next l.variant-iterator;
  is_finite : (goal.iterator-loop-variant).is_finite l.variant-iterator;
  so_far : list_all has_none (subtags (variants_text l.fn.variants)) ≡ list_all has_none (variants_left l.variant-iterator);
}
