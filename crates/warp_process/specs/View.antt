-- What contracts see of a block.
use Rattle.std.specs.Prelude.{ℕ, ◌-◌, ◌≤◌, Bool, ◌&&◌, Option, Some, None, is_some, IsTrue, if◌then◌else◌, List, []}
use Rattle.std.specs.List.{list_any, count_by, range_with_len}
use Rattle.gate_values.specs.declared.logic.Logic.{Logic}
use Rattle.gate_values.specs.declared.logic.Change.{Change}
use Rattle.gate_values.specs.Behaviour.{Moment, value, before}
use Rattle.gate_values.specs.Changes.{held, pair_at}
use Rattle.warp_process.specs.declared.entry.Entry.{Entry}
use Rattle.warp_process.specs.Entries.{Received, entry_in, effective_of}
use Rattle.warp_part.specs.Portion.{Portion, of_net, source_of, owns, is_used}

-- Everything below the mark is processed, everything below the floor is committed. There is a queue for each net
-- of the part, which is empty for an own net, and a log, which is empty for a net of which it owns none.
pub record View : Type 0 where
  pub part : Portion
  pub horizon : ℕ
  pub mark : ℕ
  pub floor : ℕ
  pub queues : List (List Received)
  pub logs : List (List Change)

-- the values of the nets and the contents of the flip-flops, just before a mark, in the order of the nets
pub record Saved : Type 0 where
  pub mark : ℕ
  pub values : List Logic
  pub contents : List Logic

-- a logical process: what it shows, and the states that it saved, the oldest first
pub record Process : Type 0 where
  pub seen : View
  pub saved : List Saved

abbrev pub queue_of : View → ℕ → List Received
queue_of v n = of_net v.part.nets v.queues [] n

-- the entry of a net at a time
abbrev pub entry_of : View → ℕ → ℕ → Entry
entry_of v n t = entry_in (queue_of v n) t

-- the effective value of a net at a time
abbrev pub effective_at : View → ℕ → ℕ → Option Logic
effective_at v n t = effective_of (entry_of v n t)

-- the changes of an own net: the initial content of a flip-flop, and what the block has computed
abbrev pub log_of : View → ℕ → List Change
log_of v n = of_net v.part.nets v.logs [] n

-- what the entries give: the effective value of the latest time that has one
abbrev pub given_by : View → ℕ → ℕ → Logic
given_by v t n = held (effective_at v n) t

-- the block's value of a net at a time: by its own gates, from what it has received
abbrev pub block_value : View → ℕ → ℕ → Logic
block_value v n t = value (source_of v.part) (given_by v) n t

-- the block's values and contents just before a time
abbrev pub moment_before : View → ℕ → Moment
moment_before v t = before (source_of v.part) (given_by v) t

-- what happens to a net at a time: a change in the log of an own net, else an effective value
abbrev pub news_of : View → ℕ → ℕ → Option Logic
news_of v n t = if owns v.part n then pair_at (log_of v n) t else effective_at v n t

-- something happens at a time to a net that a gate of the block reads
abbrev pub is_busy : View → ℕ → Bool
is_busy v t = list_any (λ n. is_used v.part n && is_some (news_of v n t)) v.part.nets

-- how many times from a first one on, and below an end, are busy
abbrev pub busy_times : View → ℕ → ℕ → ℕ
busy_times v from end = count_by (is_busy v) (range_with_len from (end - from))

-- an event time: a busy one that isn't processed yet, up to the horizon
abbrev pub IsEventTime : View → ℕ → Type 0
IsEventTime v t = (v.mark ≤ t) × (t ≤ v.horizon) × IsTrue (is_busy v t)

-- the least number of some, if there is one
abbrev pub IsLeast : (ℕ → Type 0) → Option ℕ → Type 0
IsLeast P None = (t : ℕ) → P t → ⊥
IsLeast P (Some t) = P t × ((u : ℕ) → P u → t ≤ u)

-- no event time is left
abbrev pub IsDone : View → Type 0
IsDone v = (t : ℕ) → IsEventTime v t → ⊥
