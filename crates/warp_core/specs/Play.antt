-- What an event does to a world, and when it is refused.
use Rattle.std.specs.Prelude.{◌≡◌, ◌≢◌, ℕ, ◌<◌, ◌≤◌, ◌⊎◌, List, length, get_or, codes}
use Rattle.std.specs.List.{remove}
use Rattle.warp_process.specs.declared.message.Message.{Message}
use Rattle.warp_process.specs.declared.message.Sign.TheVariants.{Plus, Minus}
use Rattle.warp_process.specs.Advance.{IsAdvanced, IsAfterEvent}
use Rattle.warp_process.specs.Commit.{IsCommitted}
use Rattle.warp_process.specs.Receive.{IsTaken}
use Rattle.warp_process.specs.Sends.{SendsOnce}
use Rattle.warp_process.specs.View.{Process, IsDone}
use Rattle.warp_core.specs.declared.event.Event.{Event}
use Rattle.warp_core.specs.declared.event.Event.TheVariants.{Deliver, Advance, Commit}
use Rattle.warp_core.specs.declared.event.PlayFault.{PlayFault}
use Rattle.warp_core.specs.declared.event.PlayFault.TheVariants.{NoSuchBlock, NoSuchMessage, Memory}
use Rattle.warp_core.specs.Matched.{no_process, seen_at}
use Rattle.warp_core.specs.World.{Scene, IsLeastTime}

-- what no event changes
pub record IsSameCourse (old new : Scene) : Type 0 where
  pub circuit : new.circuit ≡ old.circuit
  pub cut : new.cut ≡ old.cut
  pub stimulus : new.stimulus ≡ old.stimulus
  pub horizon : new.horizon ≡ old.horizon

-- no block but one has changed
pub record IsOtherwiseSame (old new : List Process) (b : ℕ) : Type 0 where
  pub count : length new ≡ length old
  pub others : (c : ℕ) → c ≢ b → get_or new c no_process ≡ get_or old c no_process

-- The message at a place has left the list and reached its block; what the block takes back stands at the end.
pub record IsDelivered (old new : Scene) (place : ℕ) : Type 0 where
  pub course : IsSameCourse old new
  pub within : place < length old.flight
  pub message : Message
  pub at : message ≡ get_or old.flight place message
  pub others : IsOtherwiseSame old.blocks new.blocks message.block
  pub taken : IsTaken (seen_at old.blocks message.block) (seen_at new.blocks message.block) message
  pub sends : SendsOnce (seen_at old.blocks message.block) (seen_at new.blocks message.block) Minus (λ t. message.time < t) (remove old.flight place) new.flight

-- A block has finished so many event times; what it sends stands at the end.
pub record IsRun (old new : Scene) (b count : ℕ) : Type 0 where
  pub course : IsSameCourse old new
  pub within : b < old.cut.blocks
  pub others : IsOtherwiseSame old.blocks new.blocks b
  pub advanced : IsAdvanced (seen_at old.blocks b) (seen_at new.blocks b) count
  pub sends : SendsOnce (seen_at old.blocks b) (seen_at new.blocks b) Plus (IsAfterEvent (seen_at old.blocks b)) old.flight new.flight

-- Each block has committed what is below the least time.
pub record IsCommittedAll (old new : Scene) : Type 0 where
  pub course : IsSameCourse old new
  pub time : ℕ
  pub least : IsLeastTime old time
  pub count : length new.blocks ≡ length old.blocks
  pub blocks : (b : ℕ) → b < old.cut.blocks → IsCommitted (get_or old.blocks b no_process) (get_or new.blocks b no_process) time
  pub flight : new.flight ≡ old.flight

-- the event has done what it says; a block that finished fewer event times than asked has none left
abbrev pub IsPlayed : Scene → Scene → Event → Type 0
IsPlayed old new (Deliver place) = IsDelivered old new place
IsPlayed old new (Advance b steps) = (count : ℕ) × IsRun old new b count × ((count ≡ steps) ⊎ ((count < steps) × IsDone (seen_at new.blocks b)))
IsPlayed old new Commit = IsCommittedAll old new

-- The refusals: there is no such block, there is no such place in the list, or a growth was refused.
abbrev pub IsRefused : Scene → Event → PlayFault → Type 0
IsRefused w (Deliver place) NoSuchMessage = length w.flight ≤ place
IsRefused w (Deliver place) Memory = place < length w.flight
IsRefused w (Advance b steps) NoSuchBlock = w.cut.blocks ≤ b
IsRefused w (Advance b steps) Memory = b < w.cut.blocks
IsRefused w event fault = ⊥

-- What stands after a refusal: all is as it was, except that a block may have finished fewer event times than asked
-- where a growth was refused.
abbrev pub IsAfterRefusal : Scene → Scene → Event → PlayFault → Type 0
IsAfterRefusal old new (Advance b steps) Memory = (count : ℕ) × (count < steps) × IsRun old new b count
IsAfterRefusal old new event fault = new ≡ old

abbrev pub play_fault_number : PlayFault → ℕ
play_fault_number NoSuchBlock = 1
play_fault_number NoSuchMessage = 2
play_fault_number Memory = 3

abbrev pub play_fault_name : PlayFault → List ℕ
play_fault_name NoSuchBlock = codes "NoSuchBlock"
play_fault_name NoSuchMessage = codes "NoSuchMessage"
play_fault_name Memory = codes "Memory"
