use Rattle.std.proofs.Common.{◌+◌, sym, rules, nat_le, nat_lt, arith}
use Rattle.std.proofs.lemmas.Bool.{lt-ltb, le-ltb}
use Rattle.std.proofs.lemmas.List.Sorted.{IsPartitionPoint-from_clause, IsPartitionedBy-leb}
use Rattle.gate_values.specs.declared.logic.Change.{Change}
use Rattle.warp_process.proofs.Rising.{rising-not_falling, split-until, filter-front}
use Rattle.warp_core.proofs.gathering.told.until.Goals as goal

pub returns : goal.returns
returns c =
    let split = split-until (λ (x : Change). x.time) c.args.changes.now c.args.horizon _
    (IsPartitionPoint-from_clause (λ (x : Change). nat_le x.time c.args.horizon) _ _ c.partition_point-count.ensures.partitioned
    (IsPartitionedBy-leb (λ (x : Change). x.time) c.args.changes.now c.args.horizon (rising-not_falling (λ (x : Change). x.time) c.args.changes.now c.requires))
    (λ a r q k. search rules)) in
    sym (filter-front (λ (x : Change). nat_lt x.time (c.args.horizon + 1)) c.args.changes.now c.partition_point-count.result
    (λ k d a b. lt-ltb _ _ (let l = split.0 k d a b in omega arith), λ k d a b. le-ltb _ _ (let l = split.1 k d a b in omega arith)))
