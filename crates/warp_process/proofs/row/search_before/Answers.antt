use Rattle.std.proofs.Common.{rules, nat_lt}
use Rattle.std.proofs.lemmas.List.Sorted.{IsPartitionPoint-from_clause, IsPartitionedBy-ltb}
use Rattle.warp_process.specs.Rows.{Standing}
use Rattle.warp_process.proofs.Rising.{rising-not_falling, split-before}
use Rattle.warp_process.proofs.row.search_before.Goals as goal

pub returns-clause-split : goal.returns-clause-split
returns-clause-split c =
    split-before (λ (x : Standing). x.place) c.args.row.now c.args.place _
    (IsPartitionPoint-from_clause (λ (x : Standing). nat_lt x.place c.args.place) _ _ c.partition_point.ensures.partitioned
    (IsPartitionedBy-ltb (λ (x : Standing). x.place) c.args.row.now c.args.place (rising-not_falling (λ (x : Standing). x.place) c.args.row.now c.requires.in_order))
    (λ a r q k. search rules))
