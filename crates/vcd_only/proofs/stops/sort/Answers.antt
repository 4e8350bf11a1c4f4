use Rattle.std.proofs.Common.{rules}
use Rattle.std.proofs.lemmas.List.Sorted.{answers_always}
use Rattle.vcd_only.specs.declared.stops.Told.{Told}
use Rattle.vcd_only.proofs.Ordering.{permuted-same, sorted-told}
use Rattle.vcd_only.proofs.stops.sort.Goals as goal

pub returns-clause-same : goal.returns-clause-same
returns-clause-same c s = permuted-same c.args.stops.now c.sort_unstable_by_key.new.self c.sort_unstable_by_key.ensures.permutation s

pub returns-clause-sorted : goal.returns-clause-sorted
returns-clause-sorted c = sorted-told c.sort_unstable_by_key.new.self (c.sort_unstable_by_key.ensures.sorted (λ (x : Told). (x.time, x.net)) (answers_always _ _ _ (λ f a r g h. search rules)))
