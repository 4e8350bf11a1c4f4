-- What a stimulus text gives the inputs of a circuit.
use Rattle.std.specs.Prelude.{◌≡◌, ℕ, ◌+◌, Bool, List, get_or, Option, Some, None, Result, Ok, Err}
use Rattle.std.specs.List.{list_any}
use Rattle.std.specs.Str.{bytes_eq}
use Rattle.gate_values.specs.declared.logic.Logic.{Logic}
use Rattle.gate_values.specs.declared.logic.Logic.TheVariants.{X}
use Rattle.gate_values.specs.Changes.{changes}
use Rattle.gate_netlist.specs.Circuit.{Design, nets_of}
use Rattle.gate_vcd.specs.declared.fault.StimFault.{StimFault}
use Rattle.gate_stimulus.specs.declared.timescale.Timescale.{Timescale}
use Rattle.gate_vcd.specs.Tokens.{tokens_of}
use Rattle.gate_netlist.specs.Bench.{◌>>=◌}
use Rattle.gate_vcd.specs.Reading.{Fails}
use Rattle.gate_vcd.specs.Declarations.{Variable, no_header, declaring}
use Rattle.gate_vcd.specs.Changes.{Event, Source, items, nothing, events_from, value_with}
use Rattle.gate_stimulus.specs.Given.{last_stamp, Given, Fits, value_at, changes_of}
use Rattle.gate_vcd.specs.Inputs.{sources_below}

-- A text, read: its timescale, the changes of its codes in their order, and where each net takes its values
-- from, which only an input does.
pub record Reading : Type 0 where
  pub timescale : Timescale
  pub events : List Event
  pub sources : List (Option Source)

-- some variable has the code
abbrev pub has_code : List Variable → List ℕ → Bool
has_code vs code = list_any (λ v. bytes_eq code v.code) vs

-- The reading of a text for a circuit, or the first refusal: those of the tokens in the order of the text,
-- and then those of the inputs in the order of the nets.
unfoldable pub reading_of : List ℕ → Design → Result Reading StimFault
reading_of text d =
    declaring d.scope no_header None (tokens_of text) >>= λ declared.
    (events_from (has_code declared.0.variables) 0 (items nothing declared.1) >>= λ events.
    (sources_below d declared.0.variables (nets_of d) >>= λ sources.
    Ok (record { timescale = declared.0.timescale; events = events; sources = sources })))

-- the value of a source, or x where there is none
abbrev pub value_of_source : List Event → Option Source → ℕ → Logic
value_of_source events None t = X
value_of_source events (Some source) t = value_with source events t

-- The value that a text gives a net at a time: what the last change of its code, in the order of the text,
-- that isn't later gives to it; x where there is none, and for a net that isn't an input.
abbrev pub signal : Reading → ℕ → ℕ → Logic
signal r n t = value_of_source r.events (get_or r.sources n None) t

-- a stimulus gives each net of the circuit what the text does
pub record Means (d : Design) (r : Reading) (g : Given) : Type 0 where
  pub timescale : g.timescale ≡ r.timescale
  pub fits : Fits g d
  pub values : (n t : ℕ) → value_at g n t ≡ signal r n t
  pub changes : (n : ℕ) → changes_of g n ≡ changes (signal r n) (last_stamp + 1)

-- what a reader answers to a text for a circuit; want of memory alone is no matter of the text
abbrev pub IsReadAs : List ℕ → Design → Result Given StimFault → Type 0
IsReadAs text d (Ok g) = (r : Reading) × (reading_of text d ≡ Ok r) × Means d r g
IsReadAs text d (Err e) = Fails e (reading_of text d)
