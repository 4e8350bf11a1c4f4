-- The value of each net of a circuit at each time.
use Rattle.std.specs.Prelude.{ℕ, zero, suc, ◌<◌, List, [], ◌∷◌, map, length}
use Rattle.gate_values.specs.declared.logic.Logic.{Logic}
use Rattle.gate_values.specs.declared.logic.Logic.TheVariants.{X}
use Rattle.gate_values.specs.declared.gate.Kind.{Kind}
use Rattle.gate_values.specs.Tables.{table_of, flip_of, HasInputs}

-- What sets a net: something outside, a gate over nets, or a flip-flop with the content that it begins with. A delay is at least 1.
pub data Source : Type 0 where
  Outside : Source
  Gate : (kind : Kind) (delay : ℕ) (inputs : List ℕ) → Source
  Flop : (delay data_net clock : ℕ) (initial : Logic) → Source

-- Everything at one time: the value of each net, the content of each flip-flop.
pub record Moment : Type 0 where
  pub value : ℕ → Logic
  pub content : ℕ → Logic

-- what a source makes of a time before 0: a flip-flop its initial content
abbrev pub initial_of : Source → Logic
initial_of Outside = X
initial_of (Gate kind delay inputs) = X
initial_of (Flop delay data_net clock initial) = initial

-- each moment before time 0: every value is unknown, each flip-flop has its initial content
abbrev pub beginning : (ℕ → Source) → Moment
beginning source = record { value = λ _. X; content = λ n. initial_of (source n) }

-- the moment so many steps back, where 1 is the newest, after this beginning
abbrev pub back : Moment → List Moment → ℕ → Moment
back first past zero = first
back first [] (suc k) = first
back first (m ∷ past) (suc zero) = m
back first (m ∷ past) (suc (suc k)) = back first past (suc k)

-- what a gate makes of a moment, or a flip-flop holds in it
abbrev pub output : Source → Moment → ℕ → Logic
output Outside m n = X
output (Gate kind delay inputs) m n = table_of kind (map m.value inputs)
output (Flop delay data_net clock initial) m n = m.content n

-- The value that a net takes: from outside, or its source's output one delay ago. `ago k` is the moment k steps back.
abbrev pub next_value : Source → (ℕ → Logic) → (ℕ → Moment) → ℕ → Logic
next_value Outside given ago n = given n
next_value (Gate kind delay inputs) given ago n = output (Gate kind delay inputs) (ago delay) n
next_value (Flop delay data_net clock initial) given ago n = output (Flop delay data_net clock initial) (ago delay) n

-- The content that a flip-flop takes, by its clock just before and now, and its data just before.
abbrev pub next_content : Source → (ℕ → Logic) → Moment → ℕ → Logic
next_content Outside now last n = X
next_content (Gate kind delay inputs) now last n = X
next_content (Flop delay data_net clock initial) now last n =
    flip_of (last.content n) (last.value clock) (now clock) (last.value data_net)

abbrev pub next_moment : (ℕ → Source) → (ℕ → Logic) → (ℕ → Moment) → Moment
next_moment source given ago =
    record {
      value = λ n. next_value (source n) given ago n;
      content = λ n. next_content (source n) (λ i. next_value (source i) given ago i) (ago 1) n;
    }

abbrev pub with_next : (ℕ → Source) → (ℕ → Logic) → List Moment → List Moment
with_next source given past = next_moment source given (back (beginning source) past) ∷ past

-- The moments before time t, the newest first. `given t n` is the value at t of a net that is set from outside.
unfoldable pub history : (ℕ → Source) → (ℕ → ℕ → Logic) → ℕ → List Moment
history source given zero = []
history source given (suc t) = with_next source (given t) (history source given t)

-- the moment just before time t
abbrev pub before : (ℕ → Source) → (ℕ → ℕ → Logic) → ℕ → Moment
before source given t = back (beginning source) (history source given t) 1

-- the value of net n at time t
abbrev pub value : (ℕ → Source) → (ℕ → ℕ → Logic) → ℕ → ℕ → Logic
value source given n t = (before source given (suc t)).value n

-- how long the source takes
abbrev pub source_delay : Source → ℕ
source_delay Outside = 0
source_delay (Gate kind delay inputs) = delay
source_delay (Flop delay data_net clock initial) = delay

-- A delay is at least 1, and a gate has as many inputs as its kind takes.
abbrev pub IsWellFormed : Source → Type 0
IsWellFormed Outside = Unit {0}
IsWellFormed (Gate kind delay inputs) = (0 < delay) × HasInputs kind (length inputs)
IsWellFormed (Flop delay data_net clock initial) = 0 < delay
