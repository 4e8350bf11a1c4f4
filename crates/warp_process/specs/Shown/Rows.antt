-- What contracts see of an entry and its place, of rows of them by time, and of lists.
use Rattle.std.specs.Prelude.{ℕ, if◌then◌else◌, List, [], ◌∷◌, map, Vec}
use Rattle.std.specs.declared.alloc.Global.{Global}
use Rattle.smallvec.specs.SmallVec.{SmallVec}
use Rattle.warp_process.specs.declared.entry.Entry.{Entry}
use Rattle.warp_process.specs.Entries.{Received, no_messages, same_entry}
use Rattle.warp_process.specs.Rows.{Standing, entry_on}
use Rattle.warp_process.specs.declared.placed.Numbers.{Numbers}
use Rattle.warp_process.specs.declared.placed.Numbers.TheVariants as numbers

abbrev pub standing_of : Numbers → Standing
standing_of (numbers.Small zero one x z place) = record { place = place; entry = record { zero = zero; one = one; x = x; z = z } }
standing_of (numbers.Large large) = record { place = large.value.place; entry = large.value.entry }

-- an entry at a time, unless it is empty, and then others
abbrev pub with_entry : ℕ → Entry → List Received → List Received
with_entry t e es = if same_entry e no_messages then es else record { time = t; entry = e } ∷ es

-- what the rows of some times have of a place, in their order
abbrev pub queue_in : List (ℕ × SmallVec Standing) → ℕ → List Received
queue_in [] i = []
queue_in (p ∷ ps) i = with_entry p.0 (entry_on p.1.items i) (queue_in ps i)

-- the lists that some vectors hold
abbrev pub lists_in : {T : Type 0} → List (Vec T Global) → List (List T)
lists_in vs = map (λ v. v.items) vs
