-- Why a settings document is refused.
use Rattle.std.specs.Prelude.{ℕ, Bool, true, false, ◌&&◌, ◌||◌, not, ◌==◌, if◌then◌else◌, List, length, get_or, codes, Option, Some, None, is_none}
use Rattle.std.specs.List.{list_all}
use Rattle.std.specs.Option.{option_map_or}
use Rattle.std.specs.Str.{bytes_eq}
use Rattle.gate_values.specs.declared.gate.Kind.TheVariants.{And, Nand, Or, Nor, Xor, Xnor, Not, Buff}
use Rattle.gate_values.specs.Words.{word_of}
use Rattle.toml.specs.Data.{Data, Members, no_members, member, get_member, as_str, as_table}
use Rattle.gate_netlist.specs.declared.bench.Definition.{Definition}
use Rattle.gate_netlist.specs.declared.bench.Definition.TheVariants.{Input, Flop}
use Rattle.gate_netlist.specs.declared.fault.SettingsFault.{SettingsFault}
use Rattle.gate_netlist.specs.declared.fault.SettingsFault.TheVariants.{UnknownKey, UnknownNet, BadDelay, BadCut, BadClock, BadInit}
use Rattle.gate_netlist.specs.Netlist.{Netlist, net_named, any_net}
use Rattle.gate_netlist.specs.Symbols.{is_letter}
use Rattle.gate_netlist.specs.Statements.{flop_word}
use Rattle.gate_netlist.specs.Settings.{as_delay, as_block, as_content, table_at, clock_name, clock_of_flop}

-- the line of an input
abbrev pub is_input_line : Definition → Bool
is_input_line Input = true
is_input_line _ = false

-- the line of a flip-flop
abbrev pub is_flop_line : Definition → Bool
is_flop_line (Flop d) = true
is_flop_line _ = false

-- the name is that of a net which isn't an input
abbrev pub is_driven_name : Netlist → List ℕ → Bool
is_driven_name b name = option_map_or (λ n. not (is_input_line (get_or b.definitions n Input))) (net_named b name) false

-- the name is that of a flip-flop
abbrev pub is_flop_name : Netlist → List ℕ → Bool
is_flop_name b name = option_map_or (λ n. is_flop_line (get_or b.definitions n Input)) (net_named b name) false

-- some member passes the test
abbrev pub any_member : (List ℕ → Data → Bool) → Members → Bool
any_member p no_members = false
any_member p (member k d ms) = p k d || any_member p ms

-- a top key that isn't listed, or whose value isn't of its type
abbrev pub is_unknown_top : List ℕ → Data → Bool
is_unknown_top k d =
    if bytes_eq k (codes "default") then false
    else if bytes_eq k (codes "clock") || bytes_eq k (codes "scope") then is_none (as_str d)
    else if bytes_eq k (codes "gate") || bytes_eq k (codes "net") || bytes_eq k (codes "block") || bytes_eq k (codes "clocks") || bytes_eq k (codes "init") then is_none (as_table d)
    else true

-- a key that `gate` may have
abbrev pub is_gate_key : List ℕ → Bool
is_gate_key k =
    bytes_eq k (word_of And) || bytes_eq k (word_of Nand) || bytes_eq k (word_of Or)
    || bytes_eq k (word_of Nor) || bytes_eq k (word_of Xor) || bytes_eq k (word_of Xnor)
    || bytes_eq k (word_of Not) || bytes_eq k (word_of Buff) || bytes_eq k flop_word

-- a key that isn't listed, at the top or in `gate`, or a value of another type than its key takes
abbrev pub has_unknown_key : Members → Bool
has_unknown_key ms = any_member is_unknown_top ms || any_member (λ k d. not (is_gate_key k)) (table_at (codes "gate") ms)

-- a key of `net` or `block` that names no net, or names an input, or one of `clocks` or `init` that names no flip-flop
abbrev pub has_unknown_net : Netlist → Members → Bool
has_unknown_net b ms =
    any_member (λ k d. not (is_driven_name b k)) (table_at (codes "net") ms)
    || any_member (λ k d. not (is_driven_name b k)) (table_at (codes "block") ms)
    || any_member (λ k d. not (is_flop_name b k)) (table_at (codes "clocks") ms)
    || any_member (λ k d. not (is_flop_name b k)) (table_at (codes "init") ms)

-- a value that is no delay
abbrev pub is_bad_delay : List ℕ → Data → Bool
is_bad_delay k d = is_none (as_delay d)

-- a value at `default`, or in `gate` or `net`, that is no delay
abbrev pub has_bad_delay : Members → Bool
has_bad_delay ms =
    option_map_or (λ d. is_none (as_delay d)) (get_member (codes "default") ms) false
    || any_member is_bad_delay (table_at (codes "gate") ms)
    || any_member is_bad_delay (table_at (codes "net") ms)

-- what may name a net: one or more letters, other than the word `$end`
abbrev pub is_name : List ℕ → Bool
is_name bytes = not (length bytes == 0) && list_all is_letter bytes && not (bytes_eq bytes (codes "$end"))

-- a value in `block` that is no block
abbrev pub has_bad_block : Members → Bool
has_bad_block ms = any_member (λ k d. is_none (as_block d)) (table_at (codes "block") ms)

-- No net has a clock's name, and none can be added: only an input of the name that `clock` gives can, where it is a name.
abbrev pub is_missing_clock : Netlist → Members → List ℕ → Bool
is_missing_clock b ms name = is_none (net_named b name) && not (bytes_eq name (clock_name ms) && is_name name)

-- the flip-flop's clock is missing
abbrev pub lacks_clock : Netlist → Members → List ℕ → Definition → Bool
lacks_clock b ms flop (Flop d) = is_missing_clock b ms (clock_of_flop ms flop)
lacks_clock b ms net _ = false

-- a value in `clocks` that is no text, or a flip-flop whose clock is missing
abbrev pub has_bad_clock : Netlist → Members → Bool
has_bad_clock b ms = any_member (λ k d. is_none (as_str d)) (table_at (codes "clocks") ms) || any_net (lacks_clock b ms) b.names b.definitions

-- a value in `init` that is no content
abbrev pub has_bad_init : Members → Bool
has_bad_init ms = any_member (λ k d. is_none (as_content d)) (table_at (codes "init") ms)

-- the least cause that applies
unfoldable pub cause_of : Netlist → Members → Option SettingsFault
cause_of b ms =
    if has_unknown_key ms then Some UnknownKey
    else if has_unknown_net b ms then Some UnknownNet
    else if has_bad_delay ms then Some BadDelay
    else if has_bad_block ms then Some BadCut
    else if has_bad_clock b ms then Some BadClock
    else if has_bad_init ms then Some BadInit
    else None
