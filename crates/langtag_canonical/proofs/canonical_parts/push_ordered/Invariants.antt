use Rattle.std.proofs.Common.{List}
use Rattle.langtag_scan.specs.Record as model
use Rattle.langtag.specs.Definitions.{SpellsExtensions, extensions_text}
use Rattle.langtag_text.specs.declared.output.Output.{Output}
use Rattle.langtag_text.specs.Output.{Pushes}
use Rattle.langtag_canonical.proofs.ExtensionOrder.{left_from, sorted, spellings}
use Rattle.langtag_canonical.proofs.canonical_parts.push_ordered.Given as goal

-- the extensions of the singletons from this one on are put after those before it
abbrev pub invariant-loop-singleton : goal.invariant-loop-singleton
invariant-loop-singleton l = (es : List model.Extension) → SpellsExtensions es (extensions_text l.fn.extensions) →
    (new : Output) → Pushes (left_from l.singleton (spellings es)) l.out new →
    Pushes (sorted (spellings es)) l.initial.out new
