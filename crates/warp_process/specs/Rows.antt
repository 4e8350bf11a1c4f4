-- What a block has received at a time, by place.
use Rattle.std.specs.Prelude.{◌≢◌, ℕ, ◌<◌, ◌==◌, if◌then◌else◌, List, [], ◌∷◌, length, slice_index_or}
use Rattle.std.specs.List.{All}
use Rattle.warp_process.specs.declared.entry.Entry.{Entry}
use Rattle.warp_process.specs.Entries.{no_messages}

-- an entry, and the place of its net
pub record Standing : Type 0 where
  pub place : ℕ
  pub entry : Entry

-- the entry of a row at a place
abbrev pub entry_on : List Standing → ℕ → Entry
entry_on [] i = no_messages
entry_on (s ∷ ss) i = if s.place == i then s.entry else entry_on ss i

-- A row is in order of places, with one entry a place; where nothing stands and nothing waits, it holds none.
pub record IsRow (ss : List Standing) : Type 0 where
  pub in_order : (i j : ℕ) (d : Standing) → i < j → j < length ss → (slice_index_or ss i d).place < (slice_index_or ss j d).place
  pub kept : All (λ s. s.entry ≢ no_messages) ss
