use Rattle.std.proofs.Common.{◌≡◌, List, length, map}
use Rattle.langtag_scan.specs.Record as model
use Rattle.langtag_extension.specs.Spelling.{SpellsExtensions, extension_spelling}
use Rattle.langtag_extension.specs.Text.{extensions_text, extensions_left}
use Rattle.langtag_extension.proofs.ExtensionLookUp.{AreMarked}
use Rattle.langtag_extension.proofs.noted.singletons_of.Given as goal

-- those before the rest are marked
abbrev pub invariant-loop-extension : goal.invariant-loop-extension
invariant-loop-extension l = record {
  can_next : (goal.iterator-loop-extension).can_next l.extension-iterator;
  is_finite : (goal.iterator-loop-extension).is_finite l.extension-iterator;
  long : length l.present ≡ 256;
  so_far : (es : List model.Extension) → SpellsExtensions es (extensions_text l.fn.extensions) → AreMarked l.present (map extension_spelling es) (extensions_left l.extension-iterator);
}
