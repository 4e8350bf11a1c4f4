-- A block that has received nothing but the stimulus.
use Rattle.std.specs.Prelude.{ℕ, ◌+◌, if◌then◌else◌, List, [], ◌∷◌, map}
use Rattle.std.specs.List.{flat_map}
use Rattle.gate_values.specs.declared.logic.Logic.{Logic}
use Rattle.gate_values.specs.declared.logic.Logic.TheVariants.{X}
use Rattle.gate_values.specs.declared.logic.Change.{Change}
use Rattle.gate_values.specs.Behaviour.{initial_of}
use Rattle.gate_values.specs.Changes.{before_time, same}
use Rattle.gate_stimulus.specs.Given.{Given, changes_of}
use Rattle.warp_process.specs.Entries.{Received, one_message}
use Rattle.warp_process.specs.declared.message.Message.{Message}
use Rattle.warp_process.specs.declared.message.Sign.TheVariants.{Plus}
use Rattle.warp_part.specs.Portion.{Portion, is_input, source_of, readers_of}
use Rattle.warp_process.specs.View.{View}

-- one message of the change stands
abbrev pub message_of : Change → Received
message_of c = record { time = c.time; entry = one_message c.value }

-- the changes of an input up to the horizon, each with one message
abbrev pub opening_queue : Portion → Given → ℕ → ℕ → List Received
opening_queue p stimulus horizon n = if is_input p n then map message_of (before_time (horizon + 1) (changes_of stimulus n)) else []

-- what a new block has received, with nothing logged
abbrev pub silent_view : Portion → Given → ℕ → View
silent_view p stimulus horizon = record {
  part = p;
  horizon = horizon;
  mark = 0;
  floor = 0;
  queues = map (opening_queue p stimulus horizon) p.nets;
  logs = map (λ _. []) p.nets;
}

-- the log of a net that begins with a value: a change at 0, unless the value is unknown
abbrev pub initial_log : Logic → List Change
initial_log v = if same v X then [] else record { time = 0; value = v } ∷ []

-- a new block: of its own nets those have changed that flip-flops with a known initial content set
abbrev pub opening_view : Portion → Given → ℕ → View
opening_view p stimulus horizon = record (silent_view p stimulus horizon) {
  logs = map (λ n. initial_log (initial_of (source_of p n))) p.nets;
}

-- the messages on the first value of a net to its readers, unless the value is unknown
abbrev pub first_messages : ℕ → Logic → List ℕ → List Message
first_messages n v readers = if same v X then [] else map (λ r. record { time = 0; block = r; net = n; value = v; sign = Plus }) readers

-- what a new block sends: the known initial contents of its flip-flops, by net, then by reader
abbrev pub opening_messages : Portion → List Message
opening_messages p = flat_map (λ n. first_messages n (initial_of (source_of p n)) (readers_of p n)) p.nets
