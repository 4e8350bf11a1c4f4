-- What only proofs need beside `Turn`.
use Rattle.std.specs.Prelude.{◌≡◌, ℕ, ◌-◌, ◌<◌, ◌≤◌, Option, IfSome, List}
use Rattle.warp_process.specs.declared.message.Message.{Message}
use Rattle.warp_process.specs.View.{View, IsEventTime}
use Rattle.warp_process.specs.Lawful.{IsLawful}
use Rattle.warp_process.specs.Sends.{Sends}
use Rattle.warp_rounds.specs.Turn.{AreReceived, IsPending, IsAfterPending}

-- by how much the messages, received one after another, take the mark back, and with it finished event times
abbrev pub AreFelt : View → List Message → ℕ → Type 0
AreFelt old ms fallen = (heard : View) × AreReceived old heard ms × (fallen ≡ old.mark - heard.mark)

-- a time at or after one at which something is left
abbrev pub IsFromPending : View → List Message → ℕ → Type 0
IsFromPending v ms t = (u : ℕ) × IsPending v ms u × (u ≤ t)

-- Some messages of a list were received, and what has come of it: when something is left to do, and what was sent.
pub record HasReceived (old new : View) (all some : List Message) (before out : List Message) : Type 0 where
  pub received : AreReceived old new some
  pub lawful : IsLawful new
  pub pending : (t : ℕ) → IsEventTime new t → IsFromPending old all t
  pub sends : Sends old new (IsAfterPending old all) before out

-- the first of some times, if there is one, is past a floor
abbrev pub IsFirstPast : Option ℕ → ℕ → Type 0
IsFirstPast first floor = IfSome first (λ t. floor < t)
