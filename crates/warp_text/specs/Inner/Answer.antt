-- What only proofs need beside `Answer`.
use Rattle.std.specs.Prelude.{◌≡◌, ℕ, List, Result, Ok, Err, Vec, codes}
use Rattle.std.specs.declared.alloc.Global.{Global}
use Rattle.gate_netlist.specs.Circuit.{Design}
use Rattle.gate_vcd.specs.Stimulus.{Reading, reading_of, signal}
use Rattle.vcd_dumps.specs.Dump.{dump_text}
use Rattle.warp_text.specs.declared.fault.Fault.{Fault}
use Rattle.warp_text.specs.declared.fault.Fault.TheVariants as faults
use Rattle.warp_text.specs.Answer.{IsCircuitOf, IsNoCircuit, IsRunFault, circuit_value}

abbrev pub IsCircuitAnswer : (bench settings : List ℕ) → Result Design Fault → Type 0
IsCircuitAnswer bench text (Ok d) = IsCircuitOf bench text d
IsCircuitAnswer bench text (Err fault) = IsNoCircuit bench text fault

-- what is answered to a stimulus over a circuit
abbrev pub IsDumped : Design → (stimulus : List ℕ) (until : ℕ) → Result (Vec ℕ Global) Fault → Type 0
IsDumped d stimulus until (Ok dump) =
    (r : Reading) × (reading_of stimulus d ≡ Ok r)
    × (dump.items ≡ dump_text (codes "top") d.names r.timescale (circuit_value d (signal r)) until)
IsDumped d stimulus until (Err (faults.Stimulus f)) = reading_of stimulus d ≡ Err f
IsDumped d stimulus until (Err (faults.Run f)) = (r : Reading) × (reading_of stimulus d ≡ Ok r) × IsRunFault f
IsDumped d stimulus until (Err faults.Memory) = Unit {0}
IsDumped d stimulus until (Err _) = ⊥
