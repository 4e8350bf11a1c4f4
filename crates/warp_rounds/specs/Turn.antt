-- What a turn does to a block: it receives messages one after another, commits at a floor, and finishes event times.
use Rattle.std.specs.Prelude.{◌≡◌, ℕ, ◌+◌, ◌<◌, ◌⊎◌, ℤ, pos, ◌+ℤ◌, if◌then◌else◌, Option, None, unwrap_or, List, [], ◌∷◌, ◌++◌, drop, length}
use Rattle.std.specs.List.{Any}
use Rattle.gate_values.specs.declared.logic.Logic.{Logic}
use Rattle.warp_process.specs.declared.message.Message.{Message}
use Rattle.warp_process.specs.declared.fault.BlockFault.{BlockFault}
use Rattle.warp_process.specs.declared.fault.BlockFault.TheVariants.{Memory}
use Rattle.warp_process.specs.Entries.{number_of, weight_of}
use Rattle.warp_process.specs.View.{View, Process, entry_of, IsEventTime, IsLeast, IsDone}
use Rattle.warp_process.specs.Lawful.{IsLawful}
use Rattle.warp_process.specs.Receive.{does_tell, refusal_of, IsRefusal, IsTaken}
use Rattle.warp_process.specs.Advance.{IsAdvanced}
use Rattle.warp_process.specs.Commit.{IsCommittable, IsCommitted, IsCommitRefusal}

-- ---- messages, one after another

-- A message was received: there was no cause to refuse it, and the block, lawful as ever, has taken it.
pub record IsReceived (old new : View) (m : Message) : Type 0 where
  pub accepted : refusal_of old m ≡ None
  pub taken : IsTaken old new m
  pub lawful : IsLawful new

-- the messages were received, one after another
abbrev pub AreReceived : View → View → List Message → Type 0
AreReceived old new [] = new ≡ old
AreReceived old new (m ∷ ms) = (next : View) × IsReceived old next m × AreReceived next new ms

-- what a message counts for a value at a time of a net
abbrev pub weight_at : Message → ℕ → ℕ → Logic → ℤ
weight_at m n t x = if does_tell m n t x then weight_of m.sign else pos 0

-- the messages less the antimessages of a list, for a value at a time of a net
abbrev pub weight_of_all : List Message → ℕ → ℕ → Logic → ℤ
weight_of_all [] n t x = pos 0
weight_of_all (m ∷ ms) n t x = weight_at m n t x +ℤ weight_of_all ms n t x

-- each number changes by the messages less the antimessages of a list
abbrev pub AddsUp : View → View → List Message → Type 0
AddsUp old new ms = (n t : ℕ) (x : Logic) → number_of (entry_of new n t) x ≡ number_of (entry_of old n t) x +ℤ weight_of_all ms n t x

-- ---- times at which something is left

-- something is left to do at a time: it is an event time of a block, or a message tells of it
abbrev pub IsPending : View → List Message → ℕ → Type 0
IsPending v ms t = IsEventTime v t ⊎ Any (λ m. m.time ≡ t) ms

-- a time after one at which something is left, and so after the least one
abbrev pub IsAfterPending : View → List Message → ℕ → Type 0
IsAfterPending v ms t = (u : ℕ) × IsPending v ms u × (u < t)

-- The least time at which something is left; the horizon and one, where nothing is.
pub record IsLeastPending (v : View) (ms : List Message) (least : ℕ) : Type 0 where
  pub found : Option ℕ
  pub first : IsLeast (IsPending v ms) found
  pub reported : least ≡ unwrap_or found (v.horizon + 1)

-- what stands in a list behind what stood there before
abbrev pub put_behind : List Message → List Message → List Message
put_behind before out = drop (length before) out

-- what stood in a list stays in front of what is put behind it
abbrev pub StaysInFront : List Message → List Message → Type 0
StaysInFront before out = (sent : List Message) × (out ≡ before ++ sent)

-- ---- a turn

-- The messages were received, and then what is below the floor was committed.
pub record IsCaughtUp (old settled : Process) (messages : List Message) (floor : ℕ) : Type 0 where
  pub heard : Process
  pub received : AreReceived old.seen heard.seen messages
  pub possible : IsCommittable heard.seen floor
  pub committed : IsCommitted heard settled floor
  pub lawful : IsLawful settled.seen

-- A turn: after the commit so many event times were finished, fewer only where none is left.
pub record IsTurn (old new : Process) (messages : List Message) (floor window : ℕ) : Type 0 where
  pub settled : Process
  pub before : IsCaughtUp old settled messages floor
  pub count : ℕ
  pub advanced : IsAdvanced settled.seen new.seen count
  pub all : (count ≡ window) ⊎ ((count < window) × IsDone new.seen)

-- ---- a turn that met a fault

-- One of the messages was refused, for this cause. Those before it were received, and no more.
pub record IsRefusedAt (old new : View) (messages : List Message) (fault : BlockFault) : Type 0 where
  pub before : List Message
  pub refused : Message
  pub rest : List Message
  pub order : messages ≡ before ++ (refused ∷ rest)
  pub received : AreReceived old new before
  pub cause : IsRefusal (refusal_of new refused) fault

-- The messages were received, and the floor was refused, for this cause.
pub record IsHeldBack (old new : View) (messages : List Message) (floor : ℕ) (fault : BlockFault) : Type 0 where
  pub received : AreReceived old new messages
  pub cause : IsCommitRefusal new floor fault

-- Memory was wanting after the commit, when fewer event times than asked for were finished.
pub record IsCutShort (old new : Process) (messages : List Message) (floor window : ℕ) (fault : BlockFault) : Type 0 where
  pub settled : Process
  pub before : IsCaughtUp old settled messages floor
  pub count : ℕ
  pub fewer : count < window
  pub advanced : IsAdvanced settled.seen new.seen count
  pub cause : fault ≡ Memory

-- what a turn has done that met a fault
abbrev pub IsFaultyTurn : Process → Process → List Message → ℕ → ℕ → BlockFault → Type 0
IsFaultyTurn old new messages floor window fault =
    IsRefusedAt old.seen new.seen messages fault
    ⊎ (IsHeldBack old.seen new.seen messages floor fault ⊎ IsCutShort old new messages floor window fault)
