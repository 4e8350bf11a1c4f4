-- How a name is hashed under a seed.
use Rattle.std.specs.Prelude.{ℕ, zero, suc, ◌+◌, ◌-◌, ◌*◌, ◌/◌, ◌%◌, ◌^◌, ◌==◌, ◌&&◌, if◌then◌else◌, Bool, true, false, not, Option, None, Some, List, [], ◌∷◌, length, take, drop}
use Rattle.std.specs.Option.{option_map_or, unwrap_or}
use Rattle.std.specs.Hash.FoldHasher.{write, finish}
use Rattle.gate_netlist.specs.declared.seed.TextHasher.{TextHasher}

module _ {H : Type 0} (write : H → List ℕ → H) where
  -- so many times at most eight bytes are written
  unfoldable pub parted : ℕ → H → List ℕ → H
  parted zero h bytes = h
  parted (suc n) h bytes = parted n (write h (take 8 bytes)) (drop 8 bytes)

  -- the bytes are read eight by eight
  abbrev pub stepped : H → List ℕ → H
  stepped h bytes = parted ((length bytes + 7) / 8) h bytes

  -- a last byte that was held back is read, and what ends a name
  abbrev pub held : H → Option ℕ → Bool → H
  held h last ended =
      let stepped = option_map_or (λ (byte : ℕ). write h (byte ∷ [])) last h in
      if ended then write stepped (255 ∷ []) else stepped

-- what a name's hash input ends with, where none has come
abbrev pub is_end : TextHasher → List ℕ → ℕ → Bool
is_end h most last = length most == 0 && last == 255 && not h.is_ended

-- bytes are read, and one behind them is held back
abbrev pub joined : TextHasher → List ℕ → ℕ → TextHasher
joined h most last =
    if is_end h most last then record h { is_ended = true }
    else record { words = stepped write (held write h.words h.last h.is_ended) most; last = Some last; is_ended = false }

unfoldable pub joined_all : TextHasher → List ℕ → List ℕ → TextHasher
joined_all h most [] = h
joined_all h most (last ∷ _) = joined h most last

-- the last byte is held back
abbrev pub written : TextHasher → List ℕ → TextHasher
written h bytes = joined_all h (take (length bytes - 1) bytes) (drop (length bytes - 1) bytes)

-- the byte that is held back counts in the highest bits alone
abbrev pub finished : TextHasher → ℕ
finished h = (finish h.words + unwrap_or h.last 0 * 2 ^ 56 % 2 ^ 64) % 2 ^ 64
