use Rattle.langtag_keyword.proofs.Common.{◌≡◌, List, map, AllByRecursion, flat_map, extension_spelling, extensions_left, Extension, IsWellFormedExtension, extension_flat}
use Rattle.langtag_keyword.proofs.ExtensionsPut.{AreLeft, ArePut}
use Rattle.langtag_keyword.proofs.keyword_edit.push_rest.Given as goal

-- those that are left are put after those before them
abbrev pub invariant-loop-extension : goal.invariant-loop-extension
invariant-loop-extension l = record {
  can_next : (goal.iterator-loop-extension).can_next l.extension-iterator;
  is_finite : (goal.iterator-loop-extension).is_finite l.extension-iterator;
  so_far :
      (es : List Extension) → AllByRecursion IsWellFormedExtension es → extensions_left l.fn.rest ≡ map extension_spelling es →
      AreLeft (ArePut (flat_map extension_flat) (flat_map extension_flat es) l.fn.out l.out) (extensions_left l.extension-iterator);
}
