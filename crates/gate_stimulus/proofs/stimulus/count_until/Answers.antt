use Rattle.std.proofs.Common.{rules, nat_le}
use Rattle.std.proofs.lemmas.List.Sorted.{IsPartitionPoint-from_clause}
use Rattle.gate_values.specs.declared.logic.Change.{Change}
use Rattle.gate_stimulus.proofs.Latest.{rising-partitioned}
use Rattle.gate_stimulus.proofs.stimulus.count_until.Goals as goal

pub returns-clause-until : goal.returns-clause-until
returns-clause-until c =
    IsPartitionPoint-from_clause (λ (x : Change). nat_le x.time c.args.time) _ _ c.partition_point.ensures.partitioned (rising-partitioned c.args.changes.now c.args.time c.requires) (λ a r q k. search rules)
