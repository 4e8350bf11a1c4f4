use Rattle.std.proofs.Common.{◌≡◌, ℕ, List, None, is_some, take}
use Rattle.std.specs.List.{list_any}
use Rattle.std.specs.Str.{bytes_eq}
use Rattle.gate_vcd.specs.Shown.Commands.{variables}
use Rattle.gate_vcd.specs.Inner.Known.{flat}
use Rattle.gate_vcd.specs.Inner.Table.{found_in}
use Rattle.gate_vcd.proofs.known.codes_of.Given as goal

-- the codes of the variables so far are known
abbrev pub invariant-loop-variable : goal.invariant-loop-variable
invariant-loop-variable l = record {
  known : (code : List ℕ) → is_some (found_in l.codes code) ≡ list_any (λ v. bytes_eq code v.code) (variables (take l.variable-index l.all));
  none : (code : List ℕ) → flat (found_in l.codes code) ≡ None;
}
