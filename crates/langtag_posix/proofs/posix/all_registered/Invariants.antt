use Rattle.langtag_scan.proofs.Prelude.{◌≡◌, list_all}
use Rattle.langtag_scan.specs.Subtags.{subtags}
use Rattle.langtag_place.specs.Text.{variants_text, variants_left}
use Rattle.langtag_fields.specs.Registered.{is_registered_variant}
use Rattle.langtag_posix.proofs.posix.all_registered.Given as goal

-- those before the rest are registered
abbrev pub invariant-loop-variant : goal.invariant-loop-variant
invariant-loop-variant l = record {
  can_next : (goal.iterator-loop-variant).can_next l.variant-iterator;
  is_finite : (goal.iterator-loop-variant).is_finite l.variant-iterator;
  so_far : list_all is_registered_variant (subtags (variants_text l.fn.variants)) ≡ list_all is_registered_variant (variants_left l.variant-iterator);
}
