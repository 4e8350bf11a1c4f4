-- What finishing event times does to a block.
use Rattle.std.specs.Prelude.{◌≡◌, ℕ, ◌+◌, ◌-◌, ◌<◌, ◌≤◌, IsTrue}
use Rattle.warp_process.specs.View.{View, is_busy, busy_times, IsEventTime}

-- So many event times were finished: those from the old mark to the new one, by the new log.
pub record IsAdvanced (old new : View) (count : ℕ) : Type 0 where
  pub part : new.part ≡ old.part
  pub horizon : new.horizon ≡ old.horizon
  pub floor : new.floor ≡ old.floor
  pub queues : new.queues ≡ old.queues
  pub finished : count ≡ busy_times new old.mark new.mark
  pub stays : count ≡ 0 → new.mark ≡ old.mark
  pub moves : 0 < count → (old.mark < new.mark) × (new.mark ≤ new.horizon + 1) × IsTrue (is_busy new (new.mark - 1))

-- later than an event time, and so than the least one
abbrev pub IsAfterEvent : View → ℕ → Type 0
IsAfterEvent v t = (u : ℕ) × IsEventTime v u × (u < t)
