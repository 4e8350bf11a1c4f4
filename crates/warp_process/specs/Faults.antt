-- The numbers and names of a block's refusals.
use Rattle.std.specs.Prelude.{ℕ, List, codes}
use Rattle.warp_process.specs.declared.fault.BlockFault.{BlockFault}
use Rattle.warp_process.specs.declared.fault.BlockFault.TheVariants as causes

abbrev pub block_fault_number : BlockFault → ℕ
block_fault_number causes.WrongNet = 1
block_fault_number causes.PastHorizon = 2
block_fault_number causes.BelowFloor = 3
block_fault_number causes.CountLimit = 4
block_fault_number causes.Memory = 5
block_fault_number causes.FloorBack = 6
block_fault_number causes.Unprocessed = 7
block_fault_number (causes.Unsettled net time) = 8

abbrev pub block_fault_name : BlockFault → List ℕ
block_fault_name causes.WrongNet = codes "WrongNet"
block_fault_name causes.PastHorizon = codes "PastHorizon"
block_fault_name causes.BelowFloor = codes "BelowFloor"
block_fault_name causes.CountLimit = codes "CountLimit"
block_fault_name causes.Memory = codes "Memory"
block_fault_name causes.FloorBack = codes "FloorBack"
block_fault_name causes.Unprocessed = codes "Unprocessed"
block_fault_name (causes.Unsettled net time) = codes "Unsettled"
