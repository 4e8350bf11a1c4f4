-- What a world keeps so that its least time is near.
use Rattle.std.specs.Prelude.{◌≡◌, ℕ, ◌+◌, ◌<◌, ◌≤◌, ◌==◌, ◌⊎◌, nat_lt, if◌then◌else◌, List, length, get_or}
use Rattle.std.specs.List.{All, count_by}
use Rattle.warp_process.specs.declared.message.Message.{Message}
use Rattle.warp_process.specs.View.{View, Process, IsEventTime}
use Rattle.warp_core.specs.declared.flight.Soonest.{Soonest}
use Rattle.warp_core.specs.Matched.{seen_at}

-- the least time in flight, or an end that is past all, and how many messages have it
pub record IsSoonest (flight : List Message) (end : ℕ) (s : Soonest) : Type 0 where
  pub least : All (λ m. s.time ≤ m.time) flight
  pub count : s.count ≡ count_by (λ m. m.time == s.time) flight
  pub none : s.count ≡ 0 → s.time ≡ end
  pub within : s.time ≤ end

-- the least time in flight, with one more message
abbrev pub with_time : Soonest → ℕ → Soonest
with_time s t =
    if nat_lt t s.time then record { time = t; count = 1 }
    else if t == s.time then record { time = s.time; count = s.count + 1 }
    else s

-- the least of some times and another one
pub record IsLeastOf (times : List ℕ) (other least : ℕ) : Type 0 where
  pub below : (k : ℕ) → k < length times → least ≤ get_or times k 0
  pub within : least ≤ other
  pub met : (least ≡ other) ⊎ ((k : ℕ) × (k < length times) × (get_or times k 0 ≡ least))

-- the least event time of a block, or an end that is past all
pub record IsNextTime (v : View) (end t : ℕ) : Type 0 where
  pub least : (u : ℕ) → IsEventTime v u → t ≤ u
  pub event : IsEventTime v t ⊎ (t ≡ end)

-- so for each of some blocks
pub record AreNextTimes (blocks : List Process) (end : ℕ) (next : List ℕ) : Type 0 where
  pub count : length next ≡ length blocks
  pub times : (b : ℕ) → b < length blocks → IsNextTime (seen_at blocks b) end (get_or next b 0)
