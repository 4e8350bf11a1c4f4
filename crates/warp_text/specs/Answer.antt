-- What the texts are answered.
use Rattle.std.specs.Prelude.{◌≡◌, ℕ, List, Result, Ok, Err, Vec, codes}
use Rattle.std.specs.declared.alloc.Global.{Global}
use Rattle.gate_values.specs.declared.logic.Logic.{Logic}
use Rattle.gate_values.specs.Behaviour.{value}
use Rattle.gate_netlist.specs.declared.counts.Counts.{Counts}
use Rattle.gate_netlist.specs.declared.fault.SettingsFault.TheVariants as settings
use Rattle.gate_netlist.specs.Netlist.{Netlist}
use Rattle.gate_netlist.specs.Bench.{bench_of}
use Rattle.gate_netlist.specs.Meaning.{IsSettled}
use Rattle.gate_netlist.specs.Circuit.{Design, nets_of, source_of}
use Rattle.gate_netlist.specs.Counts.{counts_of}
use Rattle.gate_vcd.specs.Stimulus.{Reading, reading_of, signal}
use Rattle.vcd_dumps.specs.Dump.{dump_text}
use Rattle.warp_process.specs.declared.fault.BlockFault.TheVariants as block
use Rattle.warp_core.specs.declared.fault.GatherFault.TheVariants as gathering
use Rattle.warp_rounds.specs.declared.fault.RunFault.{RunFault}
use Rattle.warp_rounds.specs.declared.fault.RunFault.TheVariants as run
use Rattle.warp_text.specs.NetLines.{net_lines}
use Rattle.warp_text.specs.declared.fault.Fault.{Fault}
use Rattle.warp_text.specs.declared.fault.Fault.TheVariants as faults

-- the circuit that a bench text and a settings text mean
abbrev pub IsCircuitOf : (bench settings : List ℕ) → Design → Type 0
IsCircuitOf bench text d = (b : Netlist) × (bench_of bench ≡ Ok b) × IsSettled b text (Ok d)

-- why they mean none: the bench text's fault, else that of the settings text; or want of memory
abbrev pub IsNoCircuit : (bench settings : List ℕ) → Fault → Type 0
IsNoCircuit bench text (faults.Bench f) = bench_of bench ≡ Err f
IsNoCircuit bench text (faults.Settings settings.Memory) = ⊥
IsNoCircuit bench text (faults.Settings f) = (b : Netlist) × (bench_of bench ≡ Ok b) × IsSettled b text (Err f)
IsNoCircuit bench text faults.Memory = Unit {0}
IsNoCircuit bench text _ = ⊥

-- the counts of the circuit
unfoldable pub IsCounted : (bench settings : List ℕ) → Result Counts Fault → Type 0
IsCounted bench text (Ok counts) = (d : Design) × IsCircuitOf bench text d × (counts ≡ counts_of d)
IsCounted bench text (Err fault) = IsNoCircuit bench text fault

-- the lines of the circuit's nets
unfoldable pub IsListed : (bench settings : List ℕ) → Result (Vec ℕ Global) Fault → Type 0
IsListed bench text (Ok lines) = (d : Design) × IsCircuitOf bench text d × (lines.items ≡ net_lines d (nets_of d))
IsListed bench text (Err fault) = IsNoCircuit bench text fault

-- the value of a net of a circuit at a time, where the inputs have these signals: by the definition of gates,
-- flip-flops and delays
abbrev pub circuit_value : Design → (ℕ → ℕ → Logic) → ℕ → ℕ → Logic
circuit_value d signals n t = value (source_of d) (λ time net. signals net time) n t

-- a fault of a run is no want of memory, whatever part of the run wanted it
abbrev pub IsRunFault : RunFault → Type 0
IsRunFault run.Memory = ⊥
IsRunFault (run.Block block.Memory) = ⊥
IsRunFault (run.Gather gathering.Memory) = ⊥
IsRunFault _ = Unit {0}

-- The dump is the one text of the values of the circuit that the first two texts mean, under the signals of the
-- third. A fault is that of the bench text, else of the settings, else of the stimulus, else of the run; or want of
-- memory.
unfoldable pub IsAnswer : (bench settings stimulus : List ℕ) (until : ℕ) → Result (Vec ℕ Global) Fault → Type 0
IsAnswer bench text stimulus until (Ok dump) =
    (d : Design) × IsCircuitOf bench text d × (r : Reading) × (reading_of stimulus d ≡ Ok r)
    × (dump.items ≡ dump_text (codes "top") d.names r.timescale (circuit_value d (signal r)) until)
IsAnswer bench text stimulus until (Err (faults.Stimulus f)) = (d : Design) × IsCircuitOf bench text d × (reading_of stimulus d ≡ Err f)
IsAnswer bench text stimulus until (Err (faults.Run f)) =
    (d : Design) × IsCircuitOf bench text d × (r : Reading) × (reading_of stimulus d ≡ Ok r) × IsRunFault f
IsAnswer bench text stimulus until (Err fault) = IsNoCircuit bench text fault
