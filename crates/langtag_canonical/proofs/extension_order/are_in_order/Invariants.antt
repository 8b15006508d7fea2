use Rattle.std.proofs.Common.{◌≡◌, List}
use Rattle.langtag_scan.specs.Record as model
use Rattle.langtag.specs.Definitions.{SpellsExtensions, extensions_text, extensions_left}
use Rattle.langtag_canonical.proofs.ExtensionOrder.{spellings, keys}
use Rattle.langtag_text.proofs.Rising.{rises_from}
use Rattle.langtag_canonical.proofs.extension_order.are_in_order.Given as goal

-- all are in order where the rest is, after the last singleton
abbrev pub invariant-loop-extension : goal.invariant-loop-extension
invariant-loop-extension l = record {
  can_next : (goal.iterator-loop-extension).can_next l.extension-iterator;
  is_finite : (goal.iterator-loop-extension).is_finite l.extension-iterator;
  so_far : (es : List model.Extension) → SpellsExtensions es (extensions_text l.fn.extensions) →
      rises_from 0 (keys (spellings es)) ≡ rises_from l.last (keys (extensions_left l.extension-iterator));
}
