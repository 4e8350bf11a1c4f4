-- What only proofs need beside `Netlist`.
use Rattle.std.specs.Prelude.{◌≡◌, ℕ, ◌<◌, ◌≤◌, nat_eq, length, get_or}
use Rattle.std.specs.List.{All, IsDistinct}
use Rattle.gate_values.specs.Tables.{HasInputs}
use Rattle.gate_netlist.specs.declared.bench.Definition.{Definition}
use Rattle.gate_netlist.specs.declared.bench.Definition.TheVariants.{Input, Gate, Flop}
use Rattle.gate_netlist.specs.Netlist.{Netlist, NamesDiffer}

-- the definition is one among so many nets
abbrev pub IsDefinition : ℕ → Definition → Type 0
IsDefinition nets Input = Unit {0}
IsDefinition nets (Gate kind inputs) = HasInputs kind (length inputs) × All (λ i. i < nets) inputs
IsDefinition nets (Flop d) = d < nets

-- what is true of every netlist that was read
pub record IsNetlist (b : Netlist) : Type 0 where
  pub within : length b.names ≤ 999999
  pub named : NamesDiffer b.names
  pub definitions : length b.definitions ≡ length b.names
  pub defined : (n : ℕ) → n < length b.names → IsDefinition (length b.names) (get_or b.definitions n Input)
  pub outputs : All (λ n. n < length b.names) b.outputs
  pub distinct : IsDistinct nat_eq b.outputs
