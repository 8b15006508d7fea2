use Rattle.langtag_scan.proofs.Prelude.{◌≡◌, ◌+◌, ◌<◌, take, drop, ◌^◌}
use Rattle.langtag_scan.specs.Grammar.{are_alike, subtags}
use Rattle.langtag_place.specs.Text.{variants_text, variants_left}
use Rattle.langtag_place.specs.Repeat.{repeat_index, repeat_index_after}
use Rattle.langtag_place.proofs.repeats.first_repeated_of_few.Given as goal

-- no repeat stands among the variants before this index, and the walk has the others
abbrev pub invariant-loop-index : goal.invariant-loop-index
invariant-loop-index l =
    let all = subtags (variants_text l.fn.variants) in
    record {
      can_next : (goal.iterator-loop-index).can_next l.variant-iterator;
      is_finite : (goal.iterator-loop-index).is_finite l.variant-iterator;
      counter : l.index + (goal.iterator-loop-index).remaining l.variant-iterator < 2 ^ 64;
      so_far : repeat_index are_alike all ≡ repeat_index_after are_alike (take l.index all) (drop l.index all);
      left : drop l.index all ≡ variants_left l.variant-iterator;
    }
