-- What sets the nets of a circuit, for the definition of values.
use Rattle.std.proofs.Common.{ℕ, get_or, arith, inl, inr}
use Rattle.std.proofs.lemmas.Bool.{cases_lt}
use Rattle.std.proofs.lemmas.List.{get_or_past}
use Rattle.gate_values.specs.Behaviour.{IsWellFormed}
use Rattle.gate_netlist.specs.declared.driver.Driver.{Driver}
use Rattle.gate_netlist.specs.declared.driver.Driver.TheVariants.{Input, Gate, Flop}
use Rattle.gate_netlist.specs.Circuit.{Design, nets_of, source_by, source_of, IsDriven, IsCircuit}

pub source_by-IsWellFormed : (nets : ℕ) (driver : Driver) (delay : ℕ) → IsDriven nets driver delay → IsWellFormed (source_by driver delay)
source_by-IsWellFormed nets Input delay h = tt
source_by-IsWellFormed nets (Gate kind inputs) delay h = (omega (arith, h.2.0), h.0)
source_by-IsWellFormed nets (Flop d clock init) delay h = omega (arith, h.2.0)

pub source_of-IsWellFormed : (d : Design) (n : ℕ) → IsCircuit d → IsWellFormed (source_of d n)
source_of-IsWellFormed d n law =
    elim (cases_lt n (nets_of d)) [
      | inl net ↦ source_by-IsWellFormed (nets_of d) _ (get_or d.delays n 0) (law.driven n net)
      | inr past ↦ rw (get_or_past d.drivers n Input (omega (arith, law.drivers))) tt
    ]
