-- Why a run answers no waves.
use Rattle.std.specs.Prelude.{◌≡◌, ℕ, ◌<◌, ◌≤◌, ◌⊎◌, List, [], length}
use Rattle.std.specs.List.{All, Any}
use Rattle.gate_netlist.specs.Circuit.{Design}
use Rattle.gate_netlist.specs.Cut.{Ownership}
use Rattle.gate_stimulus.specs.Given.{Given}
use Rattle.warp_process.specs.declared.message.Message.{Message}
use Rattle.warp_process.specs.declared.fault.BlockFault.{BlockFault}
use Rattle.warp_process.specs.declared.fault.BlockFault.TheVariants as block
use Rattle.warp_process.specs.View.{Process}
use Rattle.warp_process.specs.Lawful.{IsLawfulProcess}
use Rattle.warp_core.specs.declared.fault.GatherFault.{GatherFault}
use Rattle.warp_core.specs.declared.fault.GatherFault.TheVariants as gathering
use Rattle.warp_core.specs.Gather.{IsFault}
use Rattle.warp_rounds.specs.declared.fault.RunFault.{RunFault}
use Rattle.warp_rounds.specs.declared.fault.RunFault.TheVariants.{Block, Stalled, Gather, NoThread, Memory}
use Rattle.warp_rounds.specs.Visit.{IsVisit, IsFaultyVisit}

-- A visit at the floor told a time that isn't past it.
pub record IsStall (floor window : ℕ) : Type 0 where
  pub sent : List Message
  pub least : ℕ
  pub visit : IsVisit floor window [] sent least
  pub back : least ≤ floor

-- A visit at the floor met the fault.
pub record IsMet (floor window : ℕ) (fault : BlockFault) : Type 0 where
  pub sent : List Message
  pub visit : IsFaultyVisit floor window [] sent fault

-- A visit at the floor sent a message for a block that there isn't: it is refused as every other block would refuse it.
pub record IsAstray (blocks floor window : ℕ) (fault : BlockFault) : Type 0 where
  pub sent : List Message
  pub least : ℕ
  pub visit : IsVisit floor window [] sent least
  pub astray : Any (λ m. blocks ≤ m.block) sent
  pub cause : fault ≡ block.WrongNet

-- a fault of a block, of so many, in a round at the floor: it isn't want of memory
abbrev pub IsBlockFault : ℕ → ℕ → ℕ → BlockFault → Type 0
IsBlockFault blocks floor window block.Memory = ⊥
IsBlockFault blocks floor window fault = IsMet floor window fault ⊎ IsAstray blocks floor window fault

-- a fault of gathering lawful blocks, as many as the cut has: it isn't want of memory
abbrev pub IsGatherFault : Design → Ownership → Given → ℕ → GatherFault → Type 0
IsGatherFault d cut g horizon gathering.Memory = ⊥
IsGatherFault d cut g horizon fault = (blocks : List Process) × (length blocks ≡ cut.blocks) × All IsLawfulProcess blocks × IsFault d cut g horizon blocks fault

-- Of each fault of a run where it comes from: a block's from a visit at a floor up to the horizon, and a stall from a visit at
-- the floor that it tells; a thread that doesn't start is one of several workers'. Memory may be wanting anywhere.
abbrev pub IsRunFault : Design → Ownership → Given → ℕ → ℕ → ℕ → RunFault → Type 0
IsRunFault d cut g horizon workers window (Block fault) = (floor : ℕ) × (floor ≤ horizon) × IsBlockFault cut.blocks floor window fault
IsRunFault d cut g horizon workers window (Stalled time) = (time ≤ horizon) × IsStall time window
IsRunFault d cut g horizon workers window (Gather fault) = IsGatherFault d cut g horizon fault
IsRunFault d cut g horizon workers window NoThread = 1 < workers
IsRunFault d cut g horizon workers window Memory = Unit {0}
