-- What is true of a netlist once its flip-flops' clocks are among its nets.
use Rattle.std.specs.Prelude.{◌≡◌, ℕ, ◌<◌, ◌≤◌, nat_eq, true, [], length, get_or, IsSome}
use Rattle.std.specs.List.{All, IsDistinct}
use Rattle.toml.specs.Data.{Members}
use Rattle.gate_netlist.specs.declared.bench.Definition.TheVariants.{Input}
use Rattle.gate_netlist.specs.Netlist.{Netlist, NamesDiffer, net_named}
use Rattle.gate_netlist.specs.Inner.Netlist.{IsDefinition}
use Rattle.gate_netlist.specs.Settings.{clock_of_flop}
use Rattle.gate_netlist.specs.Causes.{is_flop_line}

-- what a netlist keeps of its law when a clock is added, and that each flip-flop's clock has the name of a net
pub record HasClocks (ms : Members) (b : Netlist) : Type 0 where
  pub within : length b.names ≤ 1000000
  pub named : NamesDiffer b.names
  pub definitions : length b.definitions ≡ length b.names
  pub defined : (n : ℕ) → n < length b.names → IsDefinition (length b.names) (get_or b.definitions n Input)
  pub outputs : All (λ n. n < length b.names) b.outputs
  pub marks : length b.outputs ≤ length b.names
  pub distinct : IsDistinct nat_eq b.outputs
  pub clocked : (n : ℕ) → n < length b.names → is_flop_line (get_or b.definitions n Input) ≡ true
      → IsSome (net_named b (clock_of_flop ms (get_or b.names n [])))
