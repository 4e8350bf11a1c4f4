use Rattle.std.proofs.Common.{◌≡◌, ℕ, take}
use Rattle.warp_part.specs.Inner.Building.{has, is_other_owner}
use Rattle.warp_part.proofs.part.readers.add_owners.Given as goal

abbrev pub invariant-loop-gate : goal.invariant-loop-gate
invariant-loop-gate l = (c : ℕ) → has l.list.items c ≡ is_other_owner l.cut l.block (take l.gate-index l.gates) c
