-- What only proofs need beside `Only`.
use Rattle.std.specs.Prelude.{◌≡◌, ℕ, Bool, List, Option, Result, Ok, Err, Vec}
use Rattle.std.specs.declared.alloc.Global.{Global}
use Rattle.gate_netlist.specs.Circuit.{Design}
use Rattle.gate_vcd.specs.Stimulus.{Reading, reading_of}
use Rattle.warp_core.specs.Schedule.{schedule_of}
use Rattle.warp_text.specs.Answer.{IsRunFault}
use Rattle.warp_text.specs.Only.{told_of, told_dump}
use Rattle.warp_text.specs.Replay.{PlaysOn}
use Rattle.warp_text.specs.Inner.Replay.{OfBoth}
use Rattle.warp_text.specs.declared.fault.Fault.{Fault}
use Rattle.warp_text.specs.declared.fault.Fault.TheVariants as faults

-- the marks of the nets that are told over a circuit, or why there are none
abbrev pub AreTold : Design → Option (List ℕ) → Result (Vec Bool Global) Fault → Type 0
AreTold d only (Ok told) = told_of d only ≡ Ok told.items
AreTold d only (Err (faults.Only f)) = told_of d only ≡ Err f
AreTold d only (Err faults.Memory) = Unit {0}
AreTold d only (Err _) = ⊥

-- what is answered to a stimulus over a circuit and the nets that are told
abbrev pub IsToldDumped : Design → List Bool → (stimulus : List ℕ) (until : ℕ) → Result (Vec ℕ Global) Fault → Type 0
IsToldDumped d told stimulus until (Ok dump) = (r : Reading) × (reading_of stimulus d ≡ Ok r) × (dump.items ≡ told_dump d told r until)
IsToldDumped d told stimulus until (Err (faults.Stimulus f)) = reading_of stimulus d ≡ Err f
IsToldDumped d told stimulus until (Err (faults.Run f)) = (r : Reading) × (reading_of stimulus d ≡ Ok r) × IsRunFault f
IsToldDumped d told stimulus until (Err faults.Memory) = Unit {0}
IsToldDumped d told stimulus until (Err _) = ⊥

-- what is answered to a stimulus and a schedule over them
abbrev pub IsToldReplayed : Design → List Bool → (stimulus schedule : List ℕ) → Option ℕ → ℕ → Result (Vec ℕ Global) Fault → Type 0
IsToldReplayed d told stimulus schedule blocks until (Ok dump) =
    OfBoth d stimulus schedule (λ r events. PlaysOn {X = Vec ℕ Global} d blocks r until events (Ok dump) × (dump.items ≡ told_dump d told r until))
IsToldReplayed d told stimulus schedule blocks until (Err (faults.Event number cause)) =
    OfBoth d stimulus schedule (λ r events. PlaysOn {X = Vec ℕ Global} d blocks r until events (Err (faults.Event number cause)))
IsToldReplayed d told stimulus schedule blocks until (Err (faults.Unfinished time)) =
    OfBoth d stimulus schedule (λ r events. PlaysOn {X = Vec ℕ Global} d blocks r until events (Err (faults.Unfinished time)))
IsToldReplayed d told stimulus schedule blocks until (Err (faults.Schedule f)) = (r : Reading) × (reading_of stimulus d ≡ Ok r) × (schedule_of schedule ≡ Err f)
IsToldReplayed d told stimulus schedule blocks until (Err (faults.Stimulus f)) = reading_of stimulus d ≡ Err f
IsToldReplayed d told stimulus schedule blocks until (Err faults.Memory) = Unit {0}
IsToldReplayed d told stimulus schedule blocks until (Err _) = ⊥
