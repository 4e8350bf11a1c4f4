-- What taking a message does to a block, and which messages it refuses.
use Rattle.std.specs.Prelude.{◌≡◌, ◌≢◌, ℕ, ◌<◌, pos, ◌+ℤ◌, Bool, not, ◌&&◌, ◌==◌, nat_lt, if◌then◌else◌, Option, Some, None, is_none}
use Rattle.gate_values.specs.declared.logic.Logic.{Logic}
use Rattle.gate_values.specs.Changes.{same}
use Rattle.warp_process.specs.declared.message.Message.{Message}
use Rattle.warp_process.specs.declared.fault.BlockFault.{BlockFault}
use Rattle.warp_process.specs.declared.fault.BlockFault.TheVariants.{WrongNet, PastHorizon, BelowFloor, CountLimit, Memory, FloorBack, Unprocessed, Unsettled}
use Rattle.warp_process.specs.Entries.{number_of, bump_of, weight_of}
use Rattle.warp_part.specs.Portion.{Portion, hears}
use Rattle.warp_process.specs.View.{View, entry_of, effective_at}

-- the message is for the block, and names a net of another block that it reads
abbrev pub is_for : Portion → Message → Bool
is_for p m = (m.block == p.block) && hears p m.net

-- the first cause for which a message is refused, if there is one
abbrev pub refusal_of : View → Message → Option BlockFault
refusal_of v m =
    if not (is_for v.part m) then Some WrongNet
    else if nat_lt v.horizon m.time then Some PastHorizon
    else if nat_lt m.time v.floor then Some BelowFloor
    else if is_none (bump_of (entry_of v m.net m.time) m.value m.sign) then Some CountLimit
    else None

-- a refusal that is answered; want of memory alone is no matter of the message, and the rest are causes of a commit
abbrev pub IsRefusal : Option BlockFault → BlockFault → Type 0
IsRefusal refusal Memory = refusal ≡ None
IsRefusal refusal FloorBack = ⊥
IsRefusal refusal Unprocessed = ⊥
IsRefusal refusal (Unsettled net time) = ⊥
IsRefusal refusal fault = refusal ≡ Some fault

-- the message tells the value at this time of this net
abbrev pub does_tell : Message → ℕ → ℕ → Logic → Bool
does_tell m n t x = (m.net == n) && ((m.time == t) && same m.value x)

-- the message changes the effective value at a time that is processed
abbrev pub IsStraggler : View → View → Message → Type 0
IsStraggler old new m = (m.time < old.mark) × (effective_at new m.net m.time ≢ effective_at old m.net m.time)

-- The one number that the message names changes by the message, and no other number. A straggler moves the mark back
-- to its time.
pub record IsTaken (old new : View) (m : Message) : Type 0 where
  pub part : new.part ≡ old.part
  pub horizon : new.horizon ≡ old.horizon
  pub floor : new.floor ≡ old.floor
  pub numbers : (n t : ℕ) (x : Logic) → number_of (entry_of new n t) x ≡ number_of (entry_of old n t) x +ℤ (if does_tell m n t x then weight_of m.sign else pos 0)
  pub straggler : IsStraggler old new m → new.mark ≡ m.time
  pub in_time : ¬ IsStraggler old new m → new.mark ≡ old.mark
