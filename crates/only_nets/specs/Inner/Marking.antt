-- What marking the net of a line leaves.
use Rattle.std.specs.Prelude.{◌≡◌, ℕ, Bool, List, Result, Ok, Err}
use Rattle.gate_netlist.specs.Circuit.{Design, nets_of}
use Rattle.only_nets.specs.declared.fault.OnlyCause.{OnlyCause}
use Rattle.only_nets.specs.declared.fault.OnlyFault.{OnlyFault}
use Rattle.only_nets.specs.Marks.{marks}
use Rattle.only_nets.specs.Names.{nets_from}

-- the marks are those of the nets that a line leaves, or the line is refused
abbrev pub IsMarked : ℕ → List Bool → Result (Unit {0}) OnlyCause → Result (List ℕ) OnlyCause → Type 0
IsMarked count all (Ok _) reading = (nets : List ℕ) × (reading ≡ Ok nets) × (all ≡ marks count nets)
IsMarked count all (Err cause) reading = reading ≡ Err cause

-- some nets are marked, and with what the lines that are left name they are all
pub record IsReadSoFar (d : Design) (all : List Bool) (line : ℕ) (rest : List (List ℕ)) (total : Result (List ℕ) OnlyFault) : Type 0 where
  pub nets : List ℕ
  pub marked : all ≡ marks (nets_of d) nets
  pub left : nets_from d nets line rest ≡ total
