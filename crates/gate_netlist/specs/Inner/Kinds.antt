-- The delays of the kinds of nets, once for a circuit.
use Rattle.std.specs.Prelude.{ℕ, List, Option, Some, None, unwrap_or, String}
use Rattle.std.specs.Borrow.{Bor}
use Rattle.std.specs.BTreeMap.{BTreeMap}
use Rattle.std.specs.declared.alloc.Global.{Global}
use Rattle.gate_values.specs.declared.gate.Kind.{Kind}
use Rattle.gate_values.specs.declared.gate.Kind.TheVariants as kind
use Rattle.gate_values.specs.Words.{word_of}
use Rattle.toml.specs.Data.{Members, no_members}
use Rattle.toml.specs.View.{table_view}
use Rattle.toml.specs.declared.value.Value.{Value}
use Rattle.gate_netlist.specs.declared.bench.Definition.{Definition}
use Rattle.gate_netlist.specs.declared.bench.Definition.TheVariants.{Input, Gate, Flop}
use Rattle.gate_netlist.specs.declared.settings.nets.KindDelays.{KindDelays}
use Rattle.gate_netlist.specs.Settings.{delay_at, delay_of_key}
use Rattle.gate_netlist.specs.Statements.{flop_word}

-- the delay of each kind: its own, else the default
abbrev pub kind_delays : Members → KindDelays
kind_delays ms = record {
  and = delay_of_key ms (word_of kind.And);
  nand = delay_of_key ms (word_of kind.Nand);
  or = delay_of_key ms (word_of kind.Or);
  nor = delay_of_key ms (word_of kind.Nor);
  xor = delay_of_key ms (word_of kind.Xor);
  xnor = delay_of_key ms (word_of kind.Xnor);
  not = delay_of_key ms (word_of kind.Not);
  buff = delay_of_key ms (word_of kind.Buff);
  dff = delay_of_key ms flop_word;
}

-- the delay of a kind of gate
abbrev pub delay_of_kind : KindDelays → Kind → ℕ
delay_of_kind kinds kind.And = kinds.and
delay_of_kind kinds kind.Nand = kinds.nand
delay_of_kind kinds kind.Or = kinds.or
delay_of_kind kinds kind.Nor = kinds.nor
delay_of_kind kinds kind.Xor = kinds.xor
delay_of_kind kinds kind.Xnor = kinds.xnor
delay_of_kind kinds kind.Not = kinds.not
delay_of_kind kinds kind.Buff = kinds.buff

-- what stands in a table, nothing where there is none
abbrev pub members_in : Option (Bor (BTreeMap (String Global) Value)) → Members
members_in None = no_members
members_in (Some table) = table_view table.now

-- a net's delay: that of its name, else that of its kind; 0 of an input
abbrev pub delay_among : Members → KindDelays → List ℕ → Definition → ℕ
delay_among nets kinds name Input = 0
delay_among nets kinds name (Gate kind inputs) = unwrap_or (delay_at name nets) (delay_of_kind kinds kind)
delay_among nets kinds name (Flop d) = unwrap_or (delay_at name nets) kinds.dff
