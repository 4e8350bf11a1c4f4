-- A table of bytes is held against a test of bytes at each of the 256, by computing.
use Rattle.std.proofs.Common.{◌≡◌, ℕ, zero, suc, ◌<◌, Bool, true, false, ◌&&◌, not, nat_eq, get_or, List, refl, arith, inl, inr}
use Rattle.std.specs.Bool.{beq}
use Rattle.std.proofs.lemmas.Bool.{cases_eq}

-- the byte at a place isn't `#`
abbrev pub is_in : List ℕ → ℕ → Bool
is_in table b = not (nat_eq (get_or table b 0) 35)

-- the table has just the bytes below this one that pass the test
unfoldable pub tells_below : List ℕ → (ℕ → Bool) → ℕ → Bool
tells_below table test zero = true
tells_below table test (suc n) = beq (is_in table n) (test n) && tells_below table test n

parts : (x y rest : Bool) → (beq x y && rest) ≡ true → (x ≡ y) × (rest ≡ true)
parts true true rest h = (refl, h)
parts true false rest h = cc
parts false true rest h = cc
parts false false rest h = (refl, h)

pub tells-at : (table : List ℕ) (test : ℕ → Bool) (n b : ℕ) → b < n → tells_below table test n ≡ true → is_in table b ≡ test b
unfolding tells_below
tells-at table test zero b lt h = absurd (omega arith)
tells-at table test (suc n) b lt h =
    let both = parts (is_in table n) (test n) (tells_below table test n) h in
    elim (cases_eq b n) [ inl same ↦ rw same both.0 | inr other ↦ tells-at table test n b (omega arith) both.1 ]
