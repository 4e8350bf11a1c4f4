-- What only proofs need beside `Replay`.
use Rattle.std.specs.Prelude.{◌≡◌, ℕ, List, Option, Result, Ok, Err, Vec, codes}
use Rattle.std.specs.declared.alloc.Global.{Global}
use Rattle.gate_netlist.specs.Circuit.{Design}
use Rattle.gate_vcd.specs.Stimulus.{Reading, reading_of, signal}
use Rattle.vcd_dumps.specs.Dump.{dump_text}
use Rattle.warp_core.specs.declared.event.Event.{Event}
use Rattle.warp_core.specs.Schedule.{schedule_of}
use Rattle.warp_text.specs.Answer.{circuit_value}
use Rattle.warp_text.specs.Replay.{PlaysOn}
use Rattle.warp_text.specs.declared.fault.Fault.{Fault}
use Rattle.warp_text.specs.declared.fault.Fault.TheVariants as faults

-- something is so of the stimulus and the events that two texts mean
abbrev pub OfBoth : Design → (stimulus schedule : List ℕ) → (Reading → List Event → Type 0) → Type 0
OfBoth d stimulus schedule P =
    (r : Reading) × (reading_of stimulus d ≡ Ok r) × (events : List Event) × (schedule_of schedule ≡ Ok events) × P r events

-- what is answered to a stimulus and a schedule over a circuit
abbrev pub IsReplayed : Design → (stimulus schedule : List ℕ) → Option ℕ → ℕ → Result (Vec ℕ Global) Fault → Type 0
IsReplayed d stimulus schedule blocks until (Ok dump) =
    OfBoth d stimulus schedule (λ r events. PlaysOn {X = Vec ℕ Global} d blocks r until events (Ok dump)
    × (dump.items ≡ dump_text (codes "top") d.names r.timescale (circuit_value d (signal r)) until))
IsReplayed d stimulus schedule blocks until (Err (faults.Event number cause)) =
    OfBoth d stimulus schedule (λ r events. PlaysOn {X = Vec ℕ Global} d blocks r until events (Err (faults.Event number cause)))
IsReplayed d stimulus schedule blocks until (Err (faults.Unfinished time)) =
    OfBoth d stimulus schedule (λ r events. PlaysOn {X = Vec ℕ Global} d blocks r until events (Err (faults.Unfinished time)))
IsReplayed d stimulus schedule blocks until (Err (faults.Schedule f)) = (r : Reading) × (reading_of stimulus d ≡ Ok r) × (schedule_of schedule ≡ Err f)
IsReplayed d stimulus schedule blocks until (Err (faults.Stimulus f)) = reading_of stimulus d ≡ Err f
IsReplayed d stimulus schedule blocks until (Err faults.Memory) = Unit {0}
IsReplayed d stimulus schedule blocks until (Err _) = ⊥
