-- How a time and a count lie in the bits of a stop.
use Rattle.std.specs.Prelude.{◌≡◌, ℕ, ◌+◌, ◌*◌}
use Rattle.std.proofs.Common.{arith, ap}
use Rattle.warp_stores.specs.declared.stop.Stop.TheInside.{Inside}
use Rattle.warp_stores.specs.Shown.StopBits.{Tally, tally_of}

-- the bits of a time and a count
abbrev pub bits_of : Tally → ℕ
bits_of tally = tally.time * 16777216 + tally.count

-- the bits of what is in some bits are these
bits_back : (bits : ℕ) → bits_of (tally_of bits) ≡ bits
bits_back bits = omega arith

pub bits_of-tally_of : (stop : Inside) → ◌≡◌ {A = Inside} (record { bits = bits_of (tally_of stop.bits) }) stop
bits_of-tally_of stop = ap (λ (bits : ℕ). let inside : Inside = record { bits = bits } in inside) (bits_back stop.bits)
