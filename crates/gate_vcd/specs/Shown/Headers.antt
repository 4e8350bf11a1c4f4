-- What a reader of declarations keeps of a header, and what it has read.
use Rattle.std.specs.Prelude.{◌≡◌, ℕ, List, Option, option_map, Result, Ok, Err}
use Rattle.std.specs.Borrow.{Bor}
use Rattle.gate_vcd.specs.declared.fault.StimFault.{StimFault}
use Rattle.gate_vcd.specs.declared.declarations.Declared.{Declared}
use Rattle.gate_vcd.specs.Reading.{Fails}
use Rattle.gate_vcd.specs.Declarations.{Header}
use Rattle.gate_vcd.specs.Shown.Scopes.{AreAlong}
use Rattle.gate_vcd.specs.Shown.Commands.{variables}

-- the scope that is asked for
abbrev pub asked_of : Declared → Option (List ℕ)
asked_of d = option_map (λ (text : Bor (List ℕ)). text.now) d.scopes.asked

-- what is kept is this header
pub record IsHeader (d : Declared) (h : Header) : Type 0 where
  pub timescale : d.timescale ≡ h.timescale
  pub scopes : AreAlong (asked_of d) d.scopes.ends.items h.scopes
  pub variables : variables d.variables.items ≡ h.variables

-- what is kept after a command is what the command makes of the header
abbrev pub Declares : Declared → Result (Unit {0}) StimFault → Result Header StimFault → Type 0
Declares new (Ok _) reading = (h : Header) × (reading ≡ Ok h) × IsHeader new h
Declares new (Err e) reading = Fails e reading
