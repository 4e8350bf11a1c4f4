-- What is true of a block at every moment: its log and its saved states are those of running what it has
-- received, in order of time, from the start.
use Rattle.std.specs.Prelude.{◌≡◌, ℕ, ◌+◌, ◌-◌, ◌<◌, ◌≤◌, IsTrue, if◌then◌else◌, List, [], ◌∷◌, map, length, get_or}
use Rattle.std.specs.List.{All}
use Rattle.gate_values.specs.declared.logic.Change.{Change}
use Rattle.gate_values.specs.Behaviour.{source_delay}
use Rattle.gate_values.specs.Changes.{changes, before_time}
use Rattle.warp_process.specs.Entries.{no_messages, is_settled, IsQueue}
use Rattle.warp_process.specs.Limits.{most_horizon}
use Rattle.warp_part.specs.Portion.{IsPortion, source_of, owns}
use Rattle.warp_process.specs.View.{View, Saved, Process, entry_of, block_value, moment_before, busy_times, is_busy}

-- The log of an own net: of the changes of its value up to the horizon, those less than one delay past the mark.
abbrev pub lawful_log : View → ℕ → List Change
lawful_log v n =
    if owns v.part n then before_time (v.mark + source_delay (source_of v.part n)) (changes (block_value v n) (v.horizon + 1)) else []

-- Entries and mark determine the logs. Everything below the floor is processed, and settled; there is nothing past the
-- horizon.
pub record IsLawful (v : View) : Type 0 where
  pub part : IsPortion v.part
  pub horizon : v.horizon ≤ most_horizon
  pub queues : length v.queues ≡ length v.part.nets
  pub ordered : All IsQueue v.queues
  pub own : (i : ℕ) → i < length v.part.nets → IsTrue (owns v.part (get_or v.part.nets i 0)) → get_or v.queues i [] ≡ []
  pub logs : v.logs ≡ map (lawful_log v) v.part.nets
  pub floor : v.floor ≤ v.mark
  pub settled : (n t : ℕ) → t < v.floor → IsTrue (is_settled (entry_of v n t))
  pub within : (n t : ℕ) → v.horizon < t → entry_of v n t ≡ no_messages

-- a saved state holds the block's values and contents just before its mark
pub record IsSaved (v : View) (s : Saved) : Type 0 where
  pub values : s.values ≡ map (moment_before v s.mark).value v.part.nets
  pub contents : s.contents ≡ map (moment_before v s.mark).content v.part.nets

-- after so many event times a state is saved
abbrev pub save_every : ℕ
save_every = 8

-- A state is saved right after each so many busy times since the one before; since the newest there were fewer.
abbrev pub AreSpaced : View → ℕ → List Saved → Type 0
AreSpaced v mark [] = (mark ≤ v.mark) × (busy_times v mark v.mark < save_every)
AreSpaced v mark (s ∷ later) = (mark < s.mark) × (busy_times v mark s.mark ≡ save_every) × IsTrue (is_busy v (s.mark - 1)) × AreSpaced v s.mark later

-- the oldest saved state isn't past the floor
abbrev pub AreSaved : View → List Saved → Type 0
AreSaved v [] = ⊥
AreSaved v (s ∷ later) = (s.mark ≤ v.floor) × AreSpaced v s.mark later

-- what is true of every block
pub record IsLawfulProcess (p : Process) : Type 0 where
  pub seen : IsLawful p.seen
  pub states : All (IsSaved p.seen) p.saved
  pub saved : AreSaved p.seen p.saved
