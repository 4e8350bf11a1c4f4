-- The line that each fault prints, and the status that a program ends with.
use Rattle.std.specs.Prelude.{ℕ, List, ◌++◌, codes, decimal}
use Rattle.gate_vcd.specs.Faults.{stim_fault_text}
use Rattle.vcd_compare.specs.Map.{map_cause_name}
use Rattle.vcd_compare.specs.declared.fault.CompareFault.{CompareFault}
use Rattle.vcd_compare.specs.declared.fault.CompareFault.TheVariants as faults

-- the line of a fault, without its end
abbrev pub compare_fault_line : CompareFault → List ℕ
compare_fault_line (faults.Expected f) = codes "expected " ++ stim_fault_text f
compare_fault_line (faults.Actual f) = codes "actual " ++ stim_fault_text f
compare_fault_line (faults.Map f) = codes "map line " ++ decimal f.line ++ codes ": " ++ map_cause_name f.cause
compare_fault_line faults.Nothing = codes "nothing to compare"
compare_fault_line faults.Memory = codes "memory"

-- texts that aren't compared end a program with 1, and want of memory with 3
abbrev pub compare_fault_status : CompareFault → ℕ
compare_fault_status faults.Memory = 3
compare_fault_status _ = 1
