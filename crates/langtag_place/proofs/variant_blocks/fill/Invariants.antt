use Rattle.std.proofs.Common.{◌≡◌, length, take, drop, map}
use Rattle.langtag_place.specs.Text.{variants_left}
use Rattle.langtag_scan.specs.Case.{folded_number}
use Rattle.langtag_place.proofs.variant_blocks.fill.Given as goal

-- so much of the block has the numbers of the variants so far, and the walk has the others
abbrev pub invariant-loop-number : goal.invariant-loop-number
invariant-loop-number l =
    let all = variants_left l.fn.rest in
    record {
      long : length l.block ≡ length l.fn.block;
      filled : take l.number-index l.block ≡ map folded_number (take l.number-index all);
      left : variants_left l.rest ≡ drop l.number-index all;
    }
