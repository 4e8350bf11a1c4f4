use Rattle.std.proofs.Common.{rules, nat_lt}
use Rattle.std.proofs.lemmas.List.Sorted.{IsPartitionPoint-from_clause, IsPartitionedBy-ltb}
use Rattle.gate_values.specs.declared.logic.Change.{Change}
use Rattle.warp_process.proofs.Rising.{rising-not_falling, split-before}
use Rattle.warp_block.proofs.look.count_before.Goals as goal

pub returns : goal.returns
returns c =
    split-before (λ (x : Change). x.time) c.args.log.now c.args.time _
    (IsPartitionPoint-from_clause (λ (x : Change). nat_lt x.time c.args.time) _ _ c.partition_point.ensures.partitioned
    (IsPartitionedBy-ltb (λ (x : Change). x.time) c.args.log.now c.args.time (rising-not_falling (λ (x : Change). x.time) c.args.log.now c.requires.in_order))
    (λ a r q k. search rules))
