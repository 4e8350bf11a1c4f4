-- What a settings text says: a document, and what stands at its keys.
use Rattle.std.specs.Prelude.{◌≡◌, ℕ, max, Bool, false, ◌&&◌, nat_le, if◌then◌else◌, List, codes, Option, Some, None, option_and_then, unwrap_or, pos, IsUtf8}
use Rattle.std.specs.Str.{bytes_eq}
use Rattle.gate_values.specs.declared.logic.Logic.{Logic}
use Rattle.gate_values.specs.declared.logic.Logic.TheVariants.{Zero, One, X}
use Rattle.gate_values.specs.Words.{word_of}
use Rattle.toml.specs.Data.{Data, integer, string, Members, no_members, member, get_member, as_str, as_table}
use Rattle.toml.specs.Parse.{parse_document}
use Rattle.gate_netlist.specs.declared.bench.Definition.{Definition}
use Rattle.gate_netlist.specs.declared.bench.Definition.TheVariants.{Input, Gate, Flop}
use Rattle.gate_netlist.specs.Statements.{flop_word}

-- the bytes are text, and the text is the document
abbrev pub IsDocument : List ℕ → Members → Type 0
IsDocument bytes ms = IsUtf8 bytes × (parse_document bytes ≡ Some ms)

-- a delay: a whole number from 1 to 1,000,000
abbrev pub as_delay : Data → Option ℕ
as_delay (integer (pos n)) = if nat_le 1 n && nat_le n 1000000 then Some n else None
as_delay _ = None

-- a block: a whole number from 0 to 1023
abbrev pub as_block : Data → Option ℕ
as_block (integer (pos n)) = if nat_le n 1023 then Some n else None
as_block _ = None

-- a content: one of the texts 0, 1 and x
abbrev pub as_content : Data → Option Logic
as_content (string s) =
    if bytes_eq s (codes "0") then Some Zero
    else if bytes_eq s (codes "1") then Some One
    else if bytes_eq s (codes "x") then Some X
    else None
as_content _ = None

-- the table at a key, empty where there is none
abbrev pub table_at : List ℕ → Members → Members
table_at k ms = unwrap_or (option_and_then as_table (get_member k ms)) no_members

-- the text at a key, where it is one
abbrev pub text_at : List ℕ → Members → Option (List ℕ)
text_at k ms = option_and_then as_str (get_member k ms)

-- the delay at a key, where it is one
abbrev pub delay_at : List ℕ → Members → Option ℕ
delay_at k ms = option_and_then as_delay (get_member k ms)

-- the block at a key, where it is one
abbrev pub block_at : List ℕ → Members → Option ℕ
block_at k ms = option_and_then as_block (get_member k ms)

-- the content at a key, where it is one
abbrev pub content_at : List ℕ → Members → Option Logic
content_at k ms = option_and_then as_content (get_member k ms)

-- the delay where no key names the net or its kind: that of `default`, else 1
abbrev pub default_delay : Members → ℕ
default_delay ms = unwrap_or (delay_at (codes "default") ms) 1

-- the delay that a key of `gate` gives, else the default
abbrev pub delay_of_key : Members → List ℕ → ℕ
delay_of_key ms key = unwrap_or (delay_at key (table_at (codes "gate") ms)) (default_delay ms)

-- a net's delay: that of its name, else that of its kind; 0 of an input
abbrev pub net_delay : Members → List ℕ → Definition → ℕ
net_delay ms name Input = 0
net_delay ms name (Gate kind inputs) = unwrap_or (delay_at name (table_at (codes "net") ms)) (delay_of_key ms (word_of kind))
net_delay ms name (Flop d) = unwrap_or (delay_at name (table_at (codes "net") ms)) (delay_of_key ms flop_word)

-- a net's block: that of its name, else 0; none of an input
abbrev pub net_block : Members → List ℕ → Definition → Option ℕ
net_block blocks name Input = None
net_block blocks name _ = Some (unwrap_or (block_at name blocks) 0)

-- the greatest block given, 0 where none is
abbrev pub greatest_block : Members → ℕ
greatest_block no_members = 0
greatest_block (member k d ms) = max (unwrap_or (as_block d) 0) (greatest_block ms)

-- the name that `clock` gives, CK where it gives none
abbrev pub clock_name : Members → List ℕ
clock_name ms = unwrap_or (text_at (codes "clock") ms) (codes "CK")

-- the name of a flip-flop's clock: its own in `clocks`, else the one that `clock` gives
abbrev pub clock_of_flop : Members → List ℕ → List ℕ
clock_of_flop ms flop = unwrap_or (text_at flop (table_at (codes "clocks") ms)) (clock_name ms)

-- the flip-flop takes the clock that `clock` names
abbrev pub takes_clock : Members → List ℕ → Definition → Bool
takes_clock ms flop (Flop d) = bytes_eq (clock_of_flop ms flop) (clock_name ms)
takes_clock ms net _ = false

-- what a flip-flop begins with: its own content in `init`, else x
abbrev pub initial_content : Members → List ℕ → Logic
initial_content ms flop = unwrap_or (content_at flop (table_at (codes "init") ms)) X
