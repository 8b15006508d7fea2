use Rattle.std.proofs.Common.{List}
use Rattle.langtag_scan.specs.Record as model
use Rattle.langtag.specs.Definitions.{SpellsExtensions, extensions_text, extensions_left, of_singleton}
use Rattle.langtag_text.specs.declared.output.Output.{Output}
use Rattle.langtag_text.specs.Output.{Pushes}
use Rattle.langtag_canonical.proofs.ExtensionOrder.{spellings}
use Rattle.langtag_canonical.proofs.canonical_parts.push_singleton.Given as goal

-- those of the singleton in the rest are put after those before it
abbrev pub invariant-loop-extension : goal.invariant-loop-extension
invariant-loop-extension l = record {
  can_next : (goal.iterator-loop-extension).can_next l.extension-iterator;
  is_finite : (goal.iterator-loop-extension).is_finite l.extension-iterator;
  so_far :
      (es : List model.Extension) → SpellsExtensions es (extensions_text l.fn.extensions) →
      (new : Output) → Pushes (of_singleton l.fn.singleton (extensions_left l.extension-iterator)) l.out new →
      Pushes (of_singleton l.fn.singleton (spellings es)) l.initial.out new;
}
