-- The circuit that a bench and a settings text mean.
use Rattle.std.specs.Prelude.{◌≡◌, ℕ, ◌+◌, ◌&&◌, if◌then◌else◌, List, [], ◌∷◌, ◌++◌, map, codes, Option, Some, None, is_none, option_map, option_and_then, unwrap_or, Result, Ok, Err}
use Rattle.std.specs.List.{zip}
use Rattle.toml.specs.Data.{Members, get_member, as_table}
use Rattle.toml.specs.View.{table_view}
use Rattle.gate_netlist.specs.declared.document.Document.{Document}
use Rattle.gate_netlist.specs.declared.bench.Definition.{Definition}
use Rattle.gate_netlist.specs.declared.bench.Definition.TheVariants as line
use Rattle.gate_netlist.specs.declared.driver.Driver.{Driver}
use Rattle.gate_netlist.specs.declared.driver.Driver.TheVariants.{Input, Gate, Flop}
use Rattle.gate_netlist.specs.declared.fault.SettingsFault.{SettingsFault}
use Rattle.gate_netlist.specs.declared.fault.SettingsFault.TheVariants.{Toml, Memory}
use Rattle.gate_netlist.specs.Netlist.{Netlist, place_of, net_named, any_net}
use Rattle.gate_netlist.specs.Cut.{Ownership}
use Rattle.gate_netlist.specs.Circuit.{Design}
use Rattle.gate_netlist.specs.Settings.{IsDocument, net_delay, net_block, greatest_block, clock_name, clock_of_flop, takes_clock, initial_content, text_at}
use Rattle.gate_netlist.specs.Causes.{cause_of}

-- an input of this name as the last net
abbrev pub with_input : List ℕ → Netlist → Netlist
with_input name b = record { names = b.names ++ name ∷ []; definitions = b.definitions ++ line.Input ∷ []; outputs = b.outputs }

-- where a flip-flop takes the clock that `clock` names and no net has that name, an input of that name is added
abbrev pub with_clock : Members → Netlist → Netlist
with_clock ms b = if any_net (takes_clock ms) b.names b.definitions && is_none (net_named b (clock_name ms)) then with_input (clock_name ms) b else b

-- a net's definition as a driver, among nets of these names
abbrev pub driver_by : Members → List (List ℕ) → List ℕ → Definition → Driver
driver_by ms names name line.Input = Input
driver_by ms names name (line.Gate kind inputs) = Gate kind inputs
driver_by ms names name (line.Flop d) = Flop d (unwrap_or (place_of names (clock_of_flop ms name)) 0) (initial_content ms name)

-- what sets each net, by its name and definition
abbrev pub drivers_of : Members → List (List ℕ) → List Definition → List Driver
drivers_of ms names definitions = map (λ (net : List ℕ × Definition). driver_by ms names net.0 net.1) (zip names definitions)

-- the net that `clock` names, where some flip-flop takes it
abbrev pub clock_among : Members → List (List ℕ) → List Definition → Option ℕ
clock_among ms names definitions = if any_net (takes_clock ms) names definitions then place_of names (clock_name ms) else None

-- each net's delay, by its name and definition
abbrev pub delays_of : Members → List (List ℕ) → List Definition → List ℕ
delays_of ms names definitions = map (λ (net : List ℕ × Definition). net_delay ms net.0 net.1) (zip names definitions)

-- each net's block, by its name and definition
abbrev pub owners_of : Members → List (List ℕ) → List Definition → List (Option ℕ)
owners_of blocks names definitions = map (λ (net : List ℕ × Definition). net_block blocks net.0 net.1) (zip names definitions)

-- one block more than the greatest given
abbrev pub cut_of : Members → List (List ℕ) → List Definition → Ownership
cut_of blocks names definitions = record { blocks = greatest_block blocks + 1; owners = owners_of blocks names definitions }

-- the circuit of a netlist that has its flip-flops' clocks, by the settings
abbrev pub clocked_circuit : Members → Netlist → Design
clocked_circuit ms b = record {
  names = b.names;
  drivers = drivers_of ms b.names b.definitions;
  delays = delays_of ms b.names b.definitions;
  outputs = b.outputs;
  clock = clock_among ms b.names b.definitions;
  scope = text_at (codes "scope") ms;
  cut = option_map (λ blocks. cut_of blocks b.names b.definitions) (option_and_then as_table (get_member (codes "block") ms));
}

-- the circuit of a bench and a settings document
unfoldable pub circuit_of : Netlist → Members → Design
circuit_of b ms = clocked_circuit ms (with_clock ms b)

-- what may be answered to a settings text on a bench
abbrev pub IsSettled : Netlist → List ℕ → Result Design SettingsFault → Type 0
IsSettled b text (Ok d) = (ms : Members) × IsDocument text ms × (cause_of b ms ≡ None) × (d ≡ circuit_of b ms)
IsSettled b text (Err Memory) = Unit {0}
IsSettled b text (Err Toml) = (ms : Members) → IsDocument text ms → ⊥
IsSettled b text (Err e) = (ms : Members) × IsDocument text ms × (cause_of b ms ≡ Some e)

-- what a document that was read says
abbrev pub members_of : Document → Members
members_of document = table_view document.table

-- what may be answered to a settings text before it is looked at beside a bench
abbrev pub IsRead : List ℕ → Result Document SettingsFault → Type 0
IsRead text (Ok document) = IsDocument text (members_of document)
IsRead text (Err Memory) = Unit {0}
IsRead text (Err Toml) = (ms : Members) → IsDocument text ms → ⊥
IsRead text (Err _) = ⊥

-- what may be answered to a settings document on a bench
abbrev pub IsSettledBy : Netlist → Members → Result Design SettingsFault → Type 0
IsSettledBy b ms (Ok d) = (cause_of b ms ≡ None) × (d ≡ circuit_of b ms)
IsSettledBy b ms (Err Memory) = Unit {0}
IsSettledBy b ms (Err e) = cause_of b ms ≡ Some e
