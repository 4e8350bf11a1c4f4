-- What four texts are answered, the last being a schedule that is played on the circuit's blocks.
use Rattle.std.specs.Prelude.{◌≡◌, ◌≢◌, ℕ, ◌+◌, ◌≤◌, List, take, slice_get, Option, Some, None, unwrap_or, Result, Ok, Err, Vec, codes}
use Rattle.std.specs.declared.alloc.Global.{Global}
use Rattle.gate_netlist.specs.Circuit.{Design}
use Rattle.gate_netlist.specs.Cut.{Ownership}
use Rattle.gate_netlist.specs.Even.{even_cut}
use Rattle.gate_stimulus.specs.Given.{Given}
use Rattle.gate_vcd.specs.Stimulus.{Reading, Means, reading_of, signal}
use Rattle.vcd_dumps.specs.Dump.{dump_text}
use Rattle.warp_core.specs.declared.event.Event.{Event}
use Rattle.warp_core.specs.declared.event.PlayFault.{PlayFault}
use Rattle.warp_core.specs.declared.event.PlayFault.TheVariants as play
use Rattle.warp_core.specs.World.{Scene, IsLeastTime, IsStart}
use Rattle.warp_core.specs.Play.{IsRefused}
use Rattle.warp_core.specs.Played.{ArePlayed}
use Rattle.warp_core.specs.Schedule.{schedule_of}
use Rattle.warp_text.specs.Answer.{IsCircuitOf, IsNoCircuit, circuit_value}
use Rattle.warp_text.specs.declared.fault.Fault.{Fault}
use Rattle.warp_text.specs.declared.fault.Fault.TheVariants as faults

-- the even cut into the number of blocks that is asked for, else that of the settings, else one block
abbrev pub cut_of : Design → Option ℕ → Ownership
cut_of d (Some blocks) = even_cut d blocks
cut_of d None = unwrap_or d.cut (even_cut d 1)

-- nothing is left to do after the events
pub record AreComplete (start : Scene) (events : List Event) : Type 0 where
  pub world : Scene
  pub played : ArePlayed start events world
  pub least : IsLeastTime world (world.horizon + 1)

-- at a time something is left to do after the events, and nothing before it
pub record AreUnfinished (start : Scene) (events : List Event) (time : ℕ) : Type 0 where
  pub world : Scene
  pub played : ArePlayed start events world
  pub least : IsLeastTime world time
  pub within : time ≤ world.horizon

-- the event of a number, counted from 1, is refused after those before it
pub record IsRefusedAt (start : Scene) (events : List Event) (number : ℕ) (cause : PlayFault) : Type 0 where
  pub place : ℕ
  pub event : Event
  pub world : Scene
  pub number_is : number ≡ place + 1
  pub event_is : slice_get events place ≡ Some event
  pub played : ArePlayed start (take place events) world
  pub refused : IsRefused world event cause
  pub cause_is : cause ≢ play.Memory

-- why events that are played from a world lead to no dump
abbrev pub Stops : Scene → List Event → Fault → Type 0
Stops start events (faults.Event number cause) = IsRefusedAt start events number cause
Stops start events (faults.Unfinished time) = AreUnfinished start events time
Stops start events faults.Memory = Unit {0}
Stops start events _ = ⊥

-- the events are played from the start to an end at which nothing is left, or stop before it
abbrev pub Plays : {X : Type 0} → Design → Ownership → Given → ℕ → List Event → Result X Fault → Type 0
Plays d cut g until events (Ok _) = (start : Scene) × IsStart d cut g until start × AreComplete start events
Plays d cut g until events (Err faults.Memory) = Unit {0}
Plays d cut g until events (Err fault) = (start : Scene) × IsStart d cut g until start × Stops start events fault

-- the same on a circuit in so many blocks, under what a stimulus's text gives
abbrev pub PlaysOn : {X : Type 0} → Design → Option ℕ → Reading → ℕ → List Event → Result X Fault → Type 0
PlaysOn d blocks r until events result = (g : Given) × Means d r g × Plays d (cut_of d blocks) g until events result

-- something is so of the circuit, the stimulus and the events that the texts mean
abbrev pub OfTexts : (bench settings stimulus schedule : List ℕ) → (Design → Reading → List Event → Type 0) → Type 0
OfTexts bench text stimulus schedule P =
    (d : Design) × IsCircuitOf bench text d × (r : Reading) × (reading_of stimulus d ≡ Ok r)
    × (events : List Event) × (schedule_of schedule ≡ Ok events) × P d r events

-- A dump is answered where nothing is left to do after the last event, and it is the one text of the circuit's values.
-- A fault is that of the bench text, else of the settings, else of the stimulus, else of the schedule, else of the first
-- event that is refused, else that something is left to do; or want of memory.
unfoldable pub IsReplay : (bench settings stimulus schedule : List ℕ) → Option ℕ → ℕ → Result (Vec ℕ Global) Fault → Type 0
IsReplay bench text stimulus schedule blocks until (Ok dump) =
    OfTexts bench text stimulus schedule (λ d r events. PlaysOn {X = Vec ℕ Global} d blocks r until events (Ok dump)
    × (dump.items ≡ dump_text (codes "top") d.names r.timescale (circuit_value d (signal r)) until))
IsReplay bench text stimulus schedule blocks until (Err (faults.Event number cause)) =
    OfTexts bench text stimulus schedule (λ d r events. PlaysOn {X = Vec ℕ Global} d blocks r until events (Err (faults.Event number cause)))
IsReplay bench text stimulus schedule blocks until (Err (faults.Unfinished time)) =
    OfTexts bench text stimulus schedule (λ d r events. PlaysOn {X = Vec ℕ Global} d blocks r until events (Err (faults.Unfinished time)))
IsReplay bench text stimulus schedule blocks until (Err (faults.Schedule f)) =
    (d : Design) × IsCircuitOf bench text d × (r : Reading) × (reading_of stimulus d ≡ Ok r) × (schedule_of schedule ≡ Err f)
IsReplay bench text stimulus schedule blocks until (Err (faults.Stimulus f)) = (d : Design) × IsCircuitOf bench text d × (reading_of stimulus d ≡ Err f)
IsReplay bench text stimulus schedule blocks until (Err fault) = IsNoCircuit bench text fault
