-- Which vector each bit of a base is taken from, kept at the bits where that changes.
use Rattle.std.specs.Prelude.{ℕ, zero, suc, Bool, ◌&&◌, nat_le, nat_eq, Option, None, unwrap_or}
use Rattle.std.specs.BTreeMap.{BTreeMap, get}
use Rattle.gate_vcd.specs.declared.runs.Kept.{Kept}
use Rattle.net_waves.specs.Inner.Pairs.{by_pair as in_order}

-- by the numbers of bases and their bits, the vectors from there on
abbrev pub Starts : Type 0
Starts = BTreeMap (ℕ × ℕ) (Option Kept)

-- the vector of a bit: what stands at the last start up to it
unfoldable pub kept_at : Starts → ℕ → ℕ → Option Kept
kept_at starts base zero = unwrap_or (get in_order starts (base, zero)) None
kept_at starts base (suc bit) = unwrap_or (get in_order starts (base, suc bit)) (kept_at starts base bit)

-- a bit from the lowest to the highest one of a base
abbrev pub is_in : ℕ → ℕ → ℕ → ℕ → ℕ → Bool
is_in base low high other bit = nat_eq base other && (nat_le low bit && nat_le bit high)
