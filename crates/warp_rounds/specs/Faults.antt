-- The faults of a run and of a round, and their numbers: want of memory in a block or in gathering is want of memory of the run.
use Rattle.std.specs.Prelude.{ℕ}
use Rattle.warp_process.specs.declared.fault.BlockFault.{BlockFault}
use Rattle.warp_process.specs.declared.fault.BlockFault.TheVariants as block
use Rattle.warp_core.specs.declared.fault.GatherFault.{GatherFault}
use Rattle.warp_core.specs.declared.fault.GatherFault.TheVariants as gathering
use Rattle.warp_rounds.specs.declared.fault.RunFault.{RunFault}
use Rattle.warp_rounds.specs.declared.fault.RunFault.TheVariants.{Block, Stalled, Gather, NoThread, Memory}
use Rattle.warp_rounds.specs.declared.round.EndFault.{EndFault}
use Rattle.warp_rounds.specs.declared.round.EndFault.TheVariants as ends

abbrev pub fault_of_block : BlockFault → RunFault
fault_of_block block.Memory = Memory
fault_of_block fault = Block fault

abbrev pub fault_of_gathering : GatherFault → RunFault
fault_of_gathering gathering.Memory = Memory
fault_of_gathering fault = Gather fault

abbrev pub run_fault_number : RunFault → ℕ
run_fault_number (Block f) = 1
run_fault_number (Stalled time) = 2
run_fault_number (Gather f) = 3
run_fault_number NoThread = 4
run_fault_number Memory = 5

abbrev pub end_fault_number : EndFault → ℕ
end_fault_number ends.WrongSeats = 1
end_fault_number ends.Undrawn = 2
