-- How a time and a count lie in the bits of a stop.
use Rattle.std.specs.Prelude.{ℕ, ◌/◌, ◌%◌}

-- so many words at a time
pub record Tally : Type 0 where
  pub time : ℕ
  pub count : ℕ

-- the time and the count in some bits
abbrev pub tally_of : ℕ → Tally
tally_of bits = record { time = bits / 16777216; count = bits % 16777216 }
