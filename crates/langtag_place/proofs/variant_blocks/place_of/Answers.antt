use Rattle.langtag_scan.proofs.Prelude.{arith, rules, ltb-true, ltb-false, ltb}
use Rattle.std.proofs.lemmas.List.Sorted.{IsPartitionPoint-from_clause, IsPartitionedBy-ltb}
use Rattle.langtag_place.proofs.variant_blocks.place_of.Goals as goal

pub returns : goal.returns
returns c =
    let block = c.args.block.now in
    let number = c.args.number in
    let parted = IsPartitionedBy-ltb (λ x. x) block number c.requires in
    let point = IsPartitionPoint-from_clause (λ other. ltb other number) block _ c.partition_point.ensures.partitioned parted (λ a r q k. search rules) in
    record {
      within = c.partition_point.ensures.bound;
      below = λ k before. ltb-true _ number (point.0 k 0 (omega arith) before);
      above = λ k after inside. ltb-false _ number (point.1 k 0 after inside);
    }
