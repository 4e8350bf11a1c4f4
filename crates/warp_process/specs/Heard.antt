-- What is true of what a block has received.
use Rattle.std.specs.Prelude.{◌≡◌, ◌<◌, ◌≤◌, ℕ, IsTrue, IsSome, List, [], length, get_or}
use Rattle.std.specs.List.{All, AllPairs}
use Rattle.gate_values.specs.declared.logic.Change.{Change}
use Rattle.gate_values.specs.Changes.{pair_at}
use Rattle.warp_part.specs.Portion.{IsPortion, owns}
use Rattle.warp_process.specs.Entries.{no_messages, is_settled, IsQueue}
use Rattle.warp_process.specs.Limits.{most_horizon}
use Rattle.warp_process.specs.View.{View, entry_of, effective_at}

-- A queue for each net, which is empty for an own net; everything below the floor is settled, and there is nothing past the
-- horizon.
pub record IsReceived (v : View) : Type 0 where
  pub part : IsPortion v.part
  pub horizon : v.horizon ≤ most_horizon
  pub queues : length v.queues ≡ length v.part.nets
  pub ordered : All IsQueue v.queues
  pub own : (i : ℕ) → i < length v.part.nets → IsTrue (owns v.part (get_or v.part.nets i 0)) → get_or v.queues i [] ≡ []
  pub settled : (n t : ℕ) → t < v.floor → IsTrue (is_settled (entry_of v n t))
  pub within : (n t : ℕ) → v.horizon < t → entry_of v n t ≡ no_messages

-- at a time from one on the entry of some net has an effective value
abbrev pub IsHeardFrom : View → ℕ → ℕ → Type 0
IsHeardFrom v from t = (from ≤ t) × ((i : ℕ) × (i < length v.part.nets) × IsSome (effective_at v (get_or v.part.nets i 0) t))

-- the changes, in order of time, are what a net takes at each time by what the messages tell which stand
abbrev pub IsToldOf : View → ℕ → List Change → Type 0
IsToldOf v n cs = AllPairs (λ a b. a.time < b.time) cs × ((t : ℕ) → effective_at v n t ≡ pair_at cs t)
