-- The numbers and names of the causes of refusal.
use Rattle.std.specs.Prelude.{◌≡◌, ℕ, List, ◌++◌, codes, decimal}
use Rattle.gate_netlist.specs.declared.fault.BenchCause.{BenchCause}
use Rattle.gate_netlist.specs.declared.fault.BenchCause.TheVariants as bench
use Rattle.gate_netlist.specs.declared.fault.BenchFault.{BenchFault}
use Rattle.gate_netlist.specs.declared.fault.SettingsFault.{SettingsFault}
use Rattle.gate_netlist.specs.declared.fault.SettingsFault.TheVariants as settings

abbrev pub bench_cause_number : BenchCause → ℕ
bench_cause_number bench.BadLine = 1
bench_cause_number bench.BadName = 2
bench_cause_number bench.UnknownGate = 3
bench_cause_number bench.InputCount = 4
bench_cause_number bench.DrivenTwice = 5
bench_cause_number bench.Undriven = 6
bench_cause_number bench.TooManyNets = 7
bench_cause_number bench.Memory = 8

abbrev pub bench_cause_name : BenchCause → List ℕ
bench_cause_name bench.BadLine = codes "BadLine"
bench_cause_name bench.BadName = codes "BadName"
bench_cause_name bench.UnknownGate = codes "UnknownGate"
bench_cause_name bench.InputCount = codes "InputCount"
bench_cause_name bench.DrivenTwice = codes "DrivenTwice"
bench_cause_name bench.Undriven = codes "Undriven"
bench_cause_name bench.TooManyNets = codes "TooManyNets"
bench_cause_name bench.Memory = codes "Memory"

-- 5 was the number of a cause that is no more
abbrev pub settings_fault_number : SettingsFault → ℕ
settings_fault_number settings.Toml = 1
settings_fault_number settings.UnknownKey = 2
settings_fault_number settings.UnknownNet = 3
settings_fault_number settings.BadDelay = 4
settings_fault_number settings.BadCut = 6
settings_fault_number settings.Memory = 7
settings_fault_number settings.BadClock = 8
settings_fault_number settings.BadInit = 9

abbrev pub settings_fault_name : SettingsFault → List ℕ
settings_fault_name settings.Toml = codes "Toml"
settings_fault_name settings.UnknownKey = codes "UnknownKey"
settings_fault_name settings.UnknownNet = codes "UnknownNet"
settings_fault_name settings.BadDelay = codes "BadDelay"
settings_fault_name settings.BadCut = codes "BadCut"
settings_fault_name settings.Memory = codes "Memory"
settings_fault_name settings.BadClock = codes "BadClock"
settings_fault_name settings.BadInit = codes "BadInit"

-- the line and the cause, for people
abbrev pub bench_fault_text : BenchFault → List ℕ
bench_fault_text fault = codes "line " ++ decimal fault.line ++ codes ": " ++ bench_cause_name fault.cause

-- want of memory, which has no line
abbrev pub out_of_memory : BenchFault
out_of_memory = record { line = 0; cause = bench.Memory }

-- want of memory is at no line
abbrev pub MemoryHasNoLine : BenchFault → Type 0
MemoryHasNoLine fault = fault.cause ≡ bench.Memory → fault ≡ out_of_memory
