use Rattle.langtag_scan.proofs.Prelude.{◌≡◌, ◌+◌, ◌<◌, ◌≤◌, length, take, drop, map, ◌^◌}
use Rattle.langtag_scan.specs.Grammar.{subtags, folded_number}
use Rattle.langtag_place.specs.Text.{variants_text, variants_left}
use Rattle.langtag_place.specs.VariantBlocks.{HasNoRepeatBefore, AreMet}
use Rattle.langtag_place.proofs.variant_blocks.first_met_again.Given as goal

-- the variants before this index were met, none of them is a repeat, and the walk has the others
abbrev pub invariant-loop-index : goal.invariant-loop-index
invariant-loop-index g l =
    let all = subtags (variants_text l.fn.variants) in
    record {
      can_next : (goal.iterator-loop-index g).can_next l.variant-iterator;
      is_finite : (goal.iterator-loop-index g).is_finite l.variant-iterator;
      counter : l.index + (goal.iterator-loop-index g).remaining l.variant-iterator < 2 ^ 64;
      within : l.index ≤ l.start + length l.block;
      flags : length l.met ≡ g.row.BLOCK;
      met : AreMet l.block l.met (map folded_number (take l.index all));
      new : HasNoRepeatBefore l.index all;
      left : drop l.index all ≡ variants_left l.variant-iterator;
    }
