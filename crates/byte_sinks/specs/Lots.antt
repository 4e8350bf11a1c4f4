-- Bytes on their way into a sink, which takes them in lots.
use Rattle.std.specs.Prelude.{◌≡◌, ℕ, ◌≤◌, List, ◌++◌, take}
use Rattle.byte_sinks.specs.Sink.{Held}
use Rattle.byte_sinks.specs.Sink.{Writes}
use Rattle.byte_sinks.specs.declared.lot.Lot.TheInside.{Inside}

-- the bytes that wait, and how many the sink has taken
pub record Lot : Type 0 where
  pub waiting : List ℕ
  pub written : ℕ

abbrev pub lot_of : Inside → Lot
lot_of l = record { waiting = take l.count l.bytes; written = l.written }

-- no more wait than there is room for
abbrev pub IsRoomy : Inside → Type 0
IsRoomy l = l.count ≤ 4096

-- The text went on its way: of what waited and the text a first part went into the sink, and the rest waits.
pub record Passes (old new : Held) (before : Lot) (text : List ℕ) (after : Lot) : Type 0 where
  pub sent : List ℕ
  pub went : Writes old new before.written sent after.written
  pub whole : sent ++ after.waiting ≡ before.waiting ++ text
