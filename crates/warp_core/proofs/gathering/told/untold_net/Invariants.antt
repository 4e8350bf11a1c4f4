use Rattle.std.proofs.Common.{ℕ, ◌<◌, get_or}
use Rattle.gate_netlist.specs.Circuit.{Design}
use Rattle.warp_core.specs.Matched.{IsToldAt}
use Rattle.warp_core.specs.Inner.Findings.{AreOfCut}
use Rattle.warp_core.proofs.gathering.told.untold_net.Given as goal

abbrev pub invariant-loop-slot : goal.invariant-loop-slot
invariant-loop-slot g l = (d : Design) → AreOfCut d l.cut l.horizon l.blocks → (k : ℕ) → k < l.slot → IsToldAt l.cut l.stimulus l.horizon l.blocks l.block.seen (get_or l.block.seen.part.nets k 0)
