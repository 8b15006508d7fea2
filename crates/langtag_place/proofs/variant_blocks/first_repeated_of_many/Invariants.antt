use Rattle.std.proofs.Common.{◌≡◌, ◌≤◌, ◌-◌, drop}
use Rattle.langtag_scan.specs.Subtags.{subtags}
use Rattle.langtag_place.specs.Text.{variants_text, variants_left}
use Rattle.langtag_place.specs.VariantBlocks.{HasNoRepeatBefore}
use Rattle.langtag_place.proofs.variant_blocks.first_repeated_of_many.Given as goal

-- no variant before the start of the block is a repeat, and the walk has the others
abbrev pub invariant-loop-start : goal.invariant-loop-start
invariant-loop-start g l =
    let all = subtags (variants_text l.fn.variants) in
    record {
      within : l.start ≤ l.count;
      new : HasNoRepeatBefore l.start all;
      left : variants_left l.rest ≡ drop l.start all;
    }

abbrev pub decreases-loop-start : goal.decreases-loop-start
decreases-loop-start g l = l.count - l.start
