-- What a journal of gates holds, and what is true of it at each moment.
use Rattle.std.specs.Prelude.{◌≡◌, ℕ, suc, ◌+◌, ◌<◌, ◌≤◌, ◌==◌, if◌then◌else◌, List, [], ◌++◌, map, length, get_or}
use Rattle.std.specs.List.{filter, flat_map, AllByRecursion}
use Rattle.gate_values.specs.declared.logic.Logic.{Logic}
use Rattle.gate_values.specs.declared.logic.Logic.TheVariants.{X}
use Rattle.gate_values.specs.Behaviour as behaviour
use Rattle.gate_values.specs.Behaviour.{Source, source_delay, initial_of}
use Rattle.warp_stores.specs.Words.{Move}
use Rattle.warp_stores.specs.Dated.{Dated, Rises, standing, at, before, since, undated}
use Rattle.warp_stores.specs.Delays.{Delayed, queue_at, true_since, with_made, due_by, read_by, made_since, cut_since, back_from, AreForgotten}
use Rattle.warp_stores.specs.Lists.{words_at}
use Rattle.warp_stores.specs.Order.{by_place}
use Rattle.warp_gates.specs.Cells.{Cell, Outside, Gate, Flop, Gates, AreGates, value_at, cell_at, gate_output, moved, unmoved, puts_at, put_of, HaveNext}
use Rattle.warp_gates.specs.declared.put.Put.{Put}
use Rattle.place_moves.specs.Moves.{move_of, moves, of_place, value_before, made_before, brought_before, first_before, Ascend}

-- A journal up to a mark, which is the first time that wasn't played: the gates, the queues of what they put out, and all
-- that came true.
pub record Journal : Type 0 where
  pub mark : ℕ
  pub gates : Gates
  pub queues : List Delayed
  pub history : List (Dated Move)

-- a place is set by a source: the same kind of thing over the same places
abbrev pub IsSetBy : Cell → Source → Type 0
IsSetBy Outside source = source ≡ behaviour.Outside
IsSetBy (Gate kind inputs) source = (delay : ℕ) × (0 < delay) × (source ≡ behaviour.Gate kind delay inputs)
IsSetBy (Flop data_place clock) source = (delay : ℕ) × (initial : Logic) × (0 < delay) × (source ≡ behaviour.Flop delay data_place clock initial)

-- the queue that a place puts its words into
abbrev pub queue_of : Gates → ℕ → ℕ
queue_of gates place = get_or gates.queues place 0

-- gates stand for sources, and each puts its words into a queue of its delay
pub record StandFor (source : ℕ → Source) (gates : Gates) (queues : List Delayed) : Type 0 where
  pub law : AreGates gates
  pub sources : (place : ℕ) → IsSetBy (cell_at gates.cells place) (source place)
  pub within : (place : ℕ) → 0 < source_delay (source place) → queue_of gates place < length queues
  pub delays : (place : ℕ) → 0 < source_delay (source place) → (queue_at queues (queue_of gates place)).delay ≡ source_delay (source place)

-- a queue was read up to a mark: what was read came true before it, what is ahead comes true at it or later
pub record IsReadTo (mark : ℕ) (queue : Delayed) : Type 0 where
  pub read : AllByRecursion (λ d. d.0 + queue.delay < mark) queue.line.read
  pub ahead : AllByRecursion (λ d. mark ≤ d.0 + queue.delay) queue.line.ahead
  pub rises : Rises (standing queue.line)

-- A queue, of this number, has of each place that puts its words into it what the place's source made before the mark, but
-- what came true before the floor, and of other places nothing.
abbrev pub HasMade : (ℕ → Source) → (ℕ → ℕ → Logic) → ℕ → ℕ → Gates → ℕ → Delayed → ℕ → Type 0
HasMade source given floor mark gates number queue place =
    of_place place (standing queue.line)
    ≡ (if number == queue_of gates place then true_since queue.delay floor (moves place (made_before source given place) mark) else [])

-- what is brought from outside at a time: to each place its move, where it moves
abbrev pub AreBrought : (ℕ → Source) → (ℕ → ℕ → Logic) → ℕ → List Move → Type 0
AreBrought source given time words = (place : ℕ) → words_at place words ≡ move_of place (brought_before source given place time) (brought_before source given place (suc time))

-- Of words that came, each place has its moves, and they are in order.
pub record HaveCome (source : ℕ → Source) (given : ℕ → ℕ → Logic) (mark : ℕ) (history : List (Dated Move)) : Type 0 where
  pub each : (place : ℕ) → of_place place history ≡ moves place (value_before source given place) mark
  pub order : Ascend history

-- gates show the moment just before a mark
pub record AreShowing (source : ℕ → Source) (given : ℕ → ℕ → Logic) (mark : ℕ) (gates : Gates) : Type 0 where
  pub values : (place : ℕ) → value_at gates.values place ≡ value_before source given place mark
  pub outputs : (place : ℕ) → value_at gates.outputs place ≡ made_before source given place mark

-- A journal has played its sources up to its mark; what came true before the floor is forgotten in queues.
pub record IsPlayed (source : ℕ → Source) (given : ℕ → ℕ → Logic) (floor : ℕ) (journal : Journal) : Type 0 where
  pub forgotten : floor ≤ journal.mark
  pub past : (place time : ℕ) → length journal.gates.cells ≤ place → given time place ≡ X
  pub gates : StandFor source journal.gates journal.queues
  pub showing : AreShowing source given journal.mark journal.gates
  pub history : HaveCome source given journal.mark journal.history
  pub queues : (number : ℕ) → IsReadTo journal.mark (queue_at journal.queues number)
  pub made : (number place : ℕ) → HasMade source given floor journal.mark journal.gates number (queue_at journal.queues number) place

-- A journal before its first step: nothing is known but what flip-flops begin with, and nothing came or was made.
pub record IsBegun (source : ℕ → Source) (journal : Journal) : Type 0 where
  pub mark : journal.mark ≡ 0
  pub history : journal.history ≡ []
  pub gates : StandFor source journal.gates journal.queues
  pub values : (place : ℕ) → value_at journal.gates.values place ≡ X
  pub outputs : (place : ℕ) → value_at journal.gates.outputs place ≡ initial_of (source place)
  pub read : (number : ℕ) → (queue_at journal.queues number).line.read ≡ []
  pub ahead : (number : ℕ) → (queue_at journal.queues number).line.ahead ≡ []

-- what is put into a queue
abbrev pub put_into : ℕ → List Put → List Move
put_into number puts = map (λ (p : Put). p.word) (filter (λ (p : Put). number == p.queue) puts)

-- A step at the mark: words come true, gates follow them, and what these put out goes into queues, from which was read what
-- came true.
pub record IsStep (old new : Journal) (words : List Move) (sent : List Put) : Type 0 where
  pub mark : new.mark ≡ suc old.mark
  pub history : new.history ≡ old.history ++ at old.mark words
  pub law : AreGates new.gates
  pub cells : new.gates.cells ≡ old.gates.cells
  pub numbers : new.gates.queues ≡ old.gates.queues
  pub values : new.gates.values ≡ moved words old.gates.values
  pub outputs : HaveNext old.gates new.gates
  pub each : (place : ℕ) → puts_at place sent ≡ put_of place (queue_of old.gates place) (value_at old.gates.outputs place) (value_at new.gates.outputs place)
  pub same : length new.queues ≡ length old.queues
  pub queues : (number : ℕ) → queue_at new.queues number ≡ with_made old.mark (put_into number sent) (read_by old.mark (queue_at old.queues number))

-- the words of a step: what is due, and what is brought from outside, in order of places
abbrev pub step_words : Journal → List Move → List Move
step_words journal outside = by_place (flat_map (due_by journal.mark) journal.queues ++ outside)

-- what a place puts out once all is taken back that came and was made from a time on, where `told` is what it put out before
-- what it made from then on, and `last` what it put out last
abbrev pub output_back : List Logic → Cell → Logic → Logic → Logic
output_back values Outside told last = last
output_back values (Gate kind inputs) told last = gate_output values kind inputs
output_back values (Flop data_place clock) told last = told

-- Back at a time: what came from then on is taken back, what was made from then on is cut off and given back, and what was
-- read and comes true from then on is ahead again.
pub record IsBack (time : ℕ) (old new : Journal) : Type 0 where
  pub mark : new.mark ≡ time
  pub history : new.history ≡ before time old.history
  pub law : AreGates new.gates
  pub cells : new.gates.cells ≡ old.gates.cells
  pub numbers : new.gates.queues ≡ old.gates.queues
  pub values : new.gates.values ≡ unmoved (undated (since time old.history)) old.gates.values
  pub outputs : (place : ℕ) → value_at new.gates.outputs place
      ≡ output_back new.gates.values (cell_at old.gates.cells place)
      (first_before (value_at old.gates.outputs place) (words_at place (flat_map (made_since time) old.queues))) (value_at old.gates.outputs place)
  pub same : length new.queues ≡ length old.queues
  pub queues : (number : ℕ) → queue_at new.queues number ≡ back_from time (cut_since time (queue_at old.queues number))

-- what came true before a time is forgotten in queues, and all else stays
pub record HasForgotten (time : ℕ) (old new : Journal) : Type 0 where
  pub mark : new.mark ≡ old.mark
  pub history : new.history ≡ old.history
  pub gates : new.gates ≡ old.gates
  pub queues : AreForgotten time old.queues new.queues

-- a journal with another mark
abbrev pub marked : ℕ → Journal → Journal
marked time journal = record journal { mark = time }
