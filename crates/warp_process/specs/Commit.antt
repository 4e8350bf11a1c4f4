-- What committing does to a block, and when it is refused.
use Rattle.std.specs.Prelude.{◌≡◌, ℕ, max, ◌<◌, ◌≤◌, ◌⊎◌, ◌↔◌, nat_le, IsTrue}
use Rattle.std.specs.List.{count_by}
use Rattle.warp_process.specs.declared.fault.BlockFault.{BlockFault}
use Rattle.warp_process.specs.declared.fault.BlockFault.TheVariants.{FloorBack, Unprocessed, Unsettled}
use Rattle.warp_process.specs.Entries.{is_settled}
use Rattle.warp_process.specs.View.{View, Process, entry_of, log_of, IsEventTime}

-- an entry below a floor that isn't settled
abbrev pub IsUnsettledBelow : View → ℕ → ℕ → ℕ → Type 0
IsUnsettledBelow v floor n t = (t < floor) × ¬ IsTrue (is_settled (entry_of v n t))

-- an event time below a floor
abbrev pub IsEventBelow : View → ℕ → ℕ → Type 0
IsEventBelow v floor t = (t < floor) × IsEventTime v t

-- A block can commit what is below a floor: the floor isn't below its own, below it everything is processed, and each
-- entry is settled.
pub record IsCommittable (v : View) (floor : ℕ) : Type 0 where
  pub forward : v.floor ≤ floor
  pub processed : (t : ℕ) → IsEventBelow v floor t → ⊥
  pub settled : (n t : ℕ) → IsUnsettledBelow v floor n t → ⊥

-- Everything below a time is committed: it is the floor, and no mark is below it. Nothing is forgotten but saved states,
-- of which at most one at a mark up to the floor is left.
pub record IsCommitted (old new : Process) (time : ℕ) : Type 0 where
  pub part : new.seen.part ≡ old.seen.part
  pub horizon : new.seen.horizon ≡ old.seen.horizon
  pub floor : new.seen.floor ≡ time
  pub mark : new.seen.mark ≡ max old.seen.mark time
  pub entries : (n t : ℕ) → entry_of new.seen n t ≡ entry_of old.seen n t
  pub logs : (n : ℕ) → log_of new.seen n ≡ log_of old.seen n
  pub events : (t : ℕ) → IsEventTime new.seen t ↔ IsEventTime old.seen t
  pub few : count_by (λ s. nat_le s.mark time) new.saved ≤ 1

-- the first unsettled entry below a floor, by net, then time
abbrev pub IsFirstUnsettled : View → ℕ → ℕ → ℕ → Type 0
IsFirstUnsettled v floor net time =
    IsUnsettledBelow v floor net time × ((n t : ℕ) → IsUnsettledBelow v floor n t → (net < n) ⊎ ((net ≡ n) × (time ≤ t)))

-- why a block can't commit what is below a floor: the first cause that applies
abbrev pub IsCommitRefusal : View → ℕ → BlockFault → Type 0
IsCommitRefusal v floor FloorBack = floor < v.floor
IsCommitRefusal v floor Unprocessed = (v.floor ≤ floor) × ((t : ℕ) × IsEventBelow v floor t)
IsCommitRefusal v floor (Unsettled net time) = (v.floor ≤ floor) × ((t : ℕ) → IsEventBelow v floor t → ⊥) × IsFirstUnsettled v floor net time
IsCommitRefusal v floor fault = ⊥
