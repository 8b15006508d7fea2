use Rattle.langtag_scan.proofs.Prelude.{◌≡◌, ◌+◌, ◌<◌, List, drop, take, length, map, ◌^◌}
use Rattle.langtag_scan.specs.Record.{Extension}
use Rattle.langtag.specs.Definitions.{SpellsExtensions, extension_spelling, extensions_left, extensions_text}
use Rattle.langtag_place.specs.Repeat.{repeat_index, repeat_index_after, are_alike_bytes}
use Rattle.langtag.proofs.SingletonRepeats.{AreFlagsOf, singletons}
use Rattle.langtag.proofs.repeats.first_repeated_singleton.Given as goal

-- no repeat stands among the extensions before this index, the flags say which singletons they have, and the walk has the others
abbrev pub invariant-loop-index : goal.invariant-loop-index
invariant-loop-index l =
    let spelled : List Extension → Type 0 = λ es. SpellsExtensions es (extensions_text l.fn.extensions) in
    record {
      can_next : (goal.iterator-loop-index).can_next l.extension-iterator;
      is_finite : (goal.iterator-loop-index).is_finite l.extension-iterator;
      counter : l.index + (goal.iterator-loop-index).remaining l.extension-iterator < 2 ^ 64;
      flags : length l.seen ≡ 128;
      flag : (es : List Extension) → spelled es → AreFlagsOf l.seen (take l.index (singletons es));
      so_far : (es : List Extension) → spelled es →
          repeat_index are_alike_bytes (singletons es) ≡ repeat_index_after are_alike_bytes (take l.index (singletons es)) (drop l.index (singletons es));
      left : (es : List Extension) → spelled es → map extension_spelling (drop l.index es) ≡ extensions_left l.extension-iterator;
    }
