-- What a bench text that is accepted says, apart from why another is refused.
use Rattle.std.specs.Prelude.{◌≡◌, ℕ, List, [], ◌∷◌, Ok}
use Rattle.gate_netlist.specs.Bench.{netlist_by}
use Rattle.gate_netlist.specs.Lines.{lines_of}
use Rattle.gate_netlist.specs.Netlist.{Netlist}
use Rattle.gate_netlist.specs.Statements.{Statement, meaning_of}

-- each line says its statement
abbrev pub AreSaid : List (List ℕ) → List Statement → Type 0
AreSaid [] [] = Unit {0}
AreSaid [] (s ∷ ss) = ⊥
AreSaid (l ∷ ls) [] = ⊥
AreSaid (l ∷ ls) (s ∷ ss) = (meaning_of l ≡ Ok s) × AreSaid ls ss

-- the netlist is that of what the lines of the text say
pub record Means (text : List ℕ) (netlist : Netlist) : Type 0 where
  pub statements : List Statement
  pub said : AreSaid (lines_of text) statements
  pub is : netlist ≡ netlist_by statements
