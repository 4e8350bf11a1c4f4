-- What only proofs need beside `Faults`.
use Rattle.std.specs.Prelude.{ℕ}
use Rattle.gate_netlist.specs.declared.fault.BenchCause.{BenchCause}
use Rattle.gate_netlist.specs.declared.fault.BenchCause.TheVariants as bench
use Rattle.gate_netlist.specs.declared.fault.BenchFault.{BenchFault}
use Rattle.gate_netlist.specs.Faults.{out_of_memory}

-- a cause at a line; want of memory has no line
abbrev pub fault_at : ℕ → BenchCause → BenchFault
fault_at line bench.Memory = out_of_memory
fault_at line cause = record { line = line; cause = cause }
