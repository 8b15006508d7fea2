use Rattle.langtag_keyword.proofs.Common.{List, false, flat_map, SpellsExtensions, extensions_left, extensions_text, forms_after}
use Rattle.langtag_scan.specs.Record as model
use Rattle.langtag_keyword.proofs.ExtensionsPut.{AreLeft, ArePut}
use Rattle.langtag_keyword.proofs.extension_form.push_extensions.Given as goal

-- the forms of those that are left are put after the forms of those before them
abbrev pub invariant-loop-extension : goal.invariant-loop-extension
invariant-loop-extension l = record {
  can_next : (goal.iterator-loop-extension).can_next l.extension-iterator;
  is_finite : (goal.iterator-loop-extension).is_finite l.extension-iterator;
  so_far :
      (es : List model.Extension) → SpellsExtensions es (extensions_text l.fn.extensions) →
      AreLeft (ArePut (λ left. flat_map model.extension_flat (forms_after l.after_u l.after_t left)) (flat_map model.extension_flat (forms_after false false es)) l.fn.out l.out)
      (extensions_left l.extension-iterator);
}
