-- Queues of words that come true a delay after the steps that made them.
use Rattle.std.specs.Prelude.{◌≡◌, ℕ, suc, ◌+◌, ◌<◌, ◌≤◌, nat_lt, nat_le, List, [], ◌++◌, length, get_or, map}
use Rattle.std.specs.List.{filter, AllByRecursion}
use Rattle.warp_stores.specs.declared.queue.TheConstants.{MOST_DEAD}
use Rattle.warp_stores.specs.Words.{Move}
use Rattle.warp_stores.specs.Dated.{Dated, Line, Rises, at, before, since, later, undated, standing}
use Rattle.warp_stores.specs.Least.{least_of}

-- a queue of words, at the times of the steps that made them, that come true a delay after
pub record Delayed : Type 0 where
  pub delay : ℕ
  pub line : Line Move

-- words of steps that come true before a time
abbrev pub true_before : ℕ → ℕ → List (Dated Move) → List (Dated Move)
true_before delay time words = filter (λ d. nat_lt (d.0 + delay) time) words

-- words of steps that come true at a time or later
abbrev pub true_since : ℕ → ℕ → List (Dated Move) → List (Dated Move)
true_since delay time words = filter (λ d. nat_le time (d.0 + delay)) words

-- a queue without a word
abbrev pub empty_after : ℕ → Delayed
empty_after delay = record { delay = delay; line = record { dead = 0; read = []; ahead = [] } }

-- one of some queues, an empty one where there is none
abbrev pub queue_at : List Delayed → ℕ → Delayed
queue_at queues place = get_or queues place (empty_after 0)

-- the least time at which a word ahead of a queue comes true, no time where none is ahead
abbrev pub due_of : Delayed → ℕ
due_of queue = least_of (map (λ d. d.0 + queue.delay) queue.line.ahead)

-- the same of some queues
abbrev pub least_due : List Delayed → ℕ
least_due queues = least_of (map due_of queues)

-- with words more, that a step made
abbrev pub with_made : ℕ → List Move → Delayed → Delayed
with_made step words queue = record { delay = queue.delay; line = record { dead = queue.line.dead; read = queue.line.read; ahead = queue.line.ahead ++ at step words } }

-- the words ahead that come true by a time
abbrev pub due_by : ℕ → Delayed → List Move
due_by time queue = undated (true_before queue.delay (suc time) queue.line.ahead)

-- when the words ahead that come true by a time were read
abbrev pub read_by : ℕ → Delayed → Delayed
read_by time queue = record {
  delay = queue.delay;
  line = record {
    dead = queue.line.dead;
    read = queue.line.read ++ true_before queue.delay (suc time) queue.line.ahead;
    ahead = true_since queue.delay (suc time) queue.line.ahead;
  };
}

-- A queue was read up to a time: what was read came true before it, what is ahead comes true at it or later.
pub record IsReadUpTo (time : ℕ) (queue : Delayed) : Type 0 where
  pub read : AllByRecursion (λ d. d.0 + queue.delay < time) queue.line.read
  pub ahead : AllByRecursion (λ d. time ≤ d.0 + queue.delay) queue.line.ahead
  pub rises : Rises (standing queue.line)

-- the same of each of some queues
abbrev pub AreReadUpTo : ℕ → List Delayed → Type 0
AreReadUpTo time queues = (place : ℕ) → IsReadUpTo time (queue_at queues place)

-- when the words that were read and come true at a time or later were put back
abbrev pub back_from : ℕ → Delayed → Delayed
back_from time queue = record {
  delay = queue.delay;
  line = record {
    dead = queue.line.dead;
    read = true_before queue.delay time queue.line.read;
    ahead = true_since queue.delay time queue.line.read ++ queue.line.ahead;
  };
}

-- the words that a step and later ones made
abbrev pub made_since : ℕ → Delayed → List Move
made_since step queue = undated (since step (standing queue.line))

-- the same at the times at which they come true, up to a last time
abbrev pub told_since : ℕ → ℕ → Delayed → List (Dated Move)
told_since step last queue = later queue.delay last (since step (standing queue.line))

-- when those were cut off
abbrev pub cut_since : ℕ → Delayed → Delayed
cut_since step queue = record {
  delay = queue.delay;
  line = record {
    dead = queue.line.dead;
    read = before step queue.line.read;
    ahead = before step queue.line.ahead;
  };
}

-- what was read and came true before a time is forgotten; of what is dead no more is left than of what stands, and a constant
pub record IsForgotten (time : ℕ) (old new : Delayed) : Type 0 where
  pub delay : new.delay ≡ old.delay
  pub read : new.line.read ≡ true_since old.delay time old.line.read
  pub ahead : new.line.ahead ≡ old.line.ahead
  pub dead : new.line.dead ≤ length (standing new.line) + MOST_DEAD

-- the same of each of some queues
pub record AreForgotten (time : ℕ) (old new : List Delayed) : Type 0 where
  pub same : length new ≡ length old
  pub each : (place : ℕ) → place < length old → IsForgotten time (queue_at old place) (queue_at new place)
