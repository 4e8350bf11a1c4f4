-- What only proofs need beside `Passes`.
use Rattle.std.specs.Prelude.{◌≡◌, ℕ, ◌-◌, Bool, true, nat_lt, Option, Some, None, length, take, slice_index, ◌==◌, List, [], Result, Ok, Err, if◌then◌else◌}
use Rattle.std.specs.List.{list_all}
use Rattle.gate_netlist.specs.declared.bench.Definition.{Definition}
use Rattle.gate_netlist.specs.declared.bench.Definition.TheVariants as definition
use Rattle.gate_netlist.specs.declared.fault.BenchCause.{BenchCause}
use Rattle.gate_netlist.specs.declared.fault.BenchCause.TheVariants.{Undriven}
use Rattle.gate_netlist.specs.Statements.{Name, Statement}
use Rattle.gate_netlist.specs.Bench.{accepted, uses_other, definition_of, output_of}

-- what stands before an LF, without the CR right before it
abbrev pub without_return : List ℕ → List ℕ
without_return line = if slice_index line (length line - 1) == 13 then take (length line - 1) line else line

-- lines of some text say these
abbrev pub AreSaid : List Statement → Type 0
AreSaid ss = (ls : List (List ℕ)) × (accepted [] 1 ls ≡ Ok ss)

-- what a line makes of the net that it defines, and the net that it marks, where each net that it uses is one of these
abbrev pub made_by : List Name → Statement → Result (Option Definition × Option ℕ) BenchCause
made_by nets s = if uses_other nets s then Err Undriven else Ok (definition_of nets s, output_of nets s)

-- nets have numbers below this
abbrev pub is_linked : Option Definition → Option ℕ → ℕ → Bool
is_linked d (Some net) count = nat_lt net count
is_linked (Some (definition.Gate kind inputs)) None count = list_all (λ net. nat_lt net count) inputs
is_linked (Some (definition.Flop d)) None count = nat_lt d count
is_linked _ None count = true
