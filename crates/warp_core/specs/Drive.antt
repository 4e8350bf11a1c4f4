-- What a round plays, when a driver refuses, and how many rounds it plays.
use Rattle.std.specs.Prelude.{◌≡◌, ℕ, zero, suc, ◌+◌, ◌<◌, ◌≤◌, ◌==◌, ◌⊎◌, List, length, get_or, codes}
use Rattle.std.specs.List.{All, count_by}
use Rattle.gate_netlist.specs.Circuit.{Design}
use Rattle.gate_netlist.specs.Cut.{Ownership}
use Rattle.gate_stimulus.specs.Given.{Given}
use Rattle.warp_process.specs.declared.message.Message.{Message}
use Rattle.warp_core.specs.declared.driver.DriveFault.{DriveFault}
use Rattle.warp_core.specs.declared.driver.DriveFault.TheVariants.{Memory, BadOrder}
use Rattle.warp_core.specs.declared.event.Event.TheVariants.{Deliver, Advance, Commit}
use Rattle.warp_core.specs.declared.event.PlayFault.TheVariants as play
use Rattle.warp_core.specs.Play.{IsAfterRefusal}
use Rattle.warp_core.specs.Played.{IsStep}
use Rattle.warp_core.specs.World.{Scene, IsLeastTime, IsStart}

-- a permutation of the blocks: each number below their count stands in it once, and no other number
pub record IsOrder (count : ℕ) (order : List ℕ) : Type 0 where
  pub within : All (λ b. b < count) order
  pub once : (b : ℕ) → b < count → count_by (λ x. x == b) order ≡ 1

-- the least time is higher, or was past the horizon and is there
abbrev pub IsRaised : Scene → Scene → Type 0
IsRaised old new = (s t : ℕ) → IsLeastTime old s → IsLeastTime new t → (s < t) ⊎ ((s ≡ old.horizon + 1) × (t ≡ s))

-- how many messages are in flight for a block
abbrev pub flying_to : ℕ → List Message → ℕ
flying_to b flight = count_by (λ m. m.block == b) flight

-- a message in flight for a block reaches it
pub record IsReached (b : ℕ) (old new : Scene) : Type 0 where
  pub place : ℕ
  pub step : IsStep (Deliver place) old new
  pub here : step.played.message.block ≡ b

-- so many messages in flight for a block reach it, one after the other
unfoldable pub AreReached : ℕ → ℕ → Scene → Scene → Type 0
AreReached b zero old new = new ≡ old
AreReached b (suc count) old new = (middle : Scene) × AreReached b count old middle × IsReached b middle new

-- A turn of a block: each message in flight for it reaches it, and it finishes one event time, if it has one.
pub record IsTurn (b : ℕ) (old new : Scene) : Type 0 where
  pub heard : Scene
  pub reached : AreReached b (flying_to b old.flight) old heard
  pub step : IsStep (Advance b 1) heard new

-- so many blocks have their turns, in an order
unfoldable pub AreTurns : List ℕ → ℕ → Scene → Scene → Type 0
AreTurns order zero old new = new ≡ old
AreTurns order (suc count) old new = (middle : Scene) × AreTurns order count old middle × IsTurn (get_or order count 0) middle new

-- A round: all blocks commit, and then each has its turn, in the order.
pub record IsRound (order : List ℕ) (old new : Scene) : Type 0 where
  pub committed : Scene
  pub step : IsStep Commit old committed
  pub turns : AreTurns order (length order) committed new

-- A turn that ends early: not every message in flight for the block reaches it; or each does, and a growth is refused
-- to the block before it has finished its event time.
abbrev pub IsTurnBegun : ℕ → Scene → Scene → Type 0
IsTurnBegun b old new =
    ((count : ℕ) × (count < flying_to b old.flight) × AreReached b count old new)
    ⊎ ((heard : Scene) × AreReached b (flying_to b old.flight) old heard × IsAfterRefusal heard new (Advance b 1) play.Memory)

-- A round that ends early: all blocks commit, some have their turns, and the turn of the next one ends early.
pub record IsRoundBegun (order : List ℕ) (old new : Scene) : Type 0 where
  pub committed : Scene
  pub step : IsStep Commit old committed
  pub count : ℕ
  pub within : count < length order
  pub turned : Scene
  pub turns : AreTurns order count committed turned
  pub begun : IsTurnBegun (get_or order count 0) turned new

-- What stands after a refusal: all is as it was, or a beginning of the round is played.
abbrev pub IsAfterRound : List ℕ → Scene → Scene → DriveFault → Type 0
IsAfterRound order old new BadOrder = new ≡ old
IsAfterRound order old new Memory = IsRoundBegun order old new

-- something is left to do up to the horizon
abbrev pub IsUnfinished : Scene → Type 0
IsUnfinished w = (time : ℕ) × IsLeastTime w time × (time ≤ w.horizon)

-- so many rounds are played, each where something is left to do
unfoldable pub AreRounds : List ℕ → ℕ → Scene → Scene → Type 0
AreRounds order zero old new = new ≡ old
AreRounds order (suc count) old new = (middle : Scene) × AreRounds order count old middle × IsUnfinished middle × IsRound order middle new

-- From a new world so many rounds are played, until nothing is left to do.
pub record IsDriven (d : Design) (cut : Ownership) (g : Given) (horizon : ℕ) (order : List ℕ) (count : ℕ) : Type 0 where
  pub start : Scene
  pub is_start : IsStart d cut g horizon start
  pub end : Scene
  pub rounds : AreRounds order count start end
  pub least : IsLeastTime end (end.horizon + 1)

-- The order is no permutation, which is tested first, or a growth was refused.
abbrev pub IsDriveRefusal : ℕ → List ℕ → DriveFault → Type 0
IsDriveRefusal count order BadOrder = ¬ IsOrder count order
IsDriveRefusal count order Memory = IsOrder count order

abbrev pub drive_fault_number : DriveFault → ℕ
drive_fault_number Memory = 1
drive_fault_number BadOrder = 2

abbrev pub drive_fault_name : DriveFault → List ℕ
drive_fault_name Memory = codes "Memory"
drive_fault_name BadOrder = codes "BadOrder"
