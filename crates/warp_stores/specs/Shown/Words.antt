-- How a change lies in the bits of a word.
use Rattle.std.specs.Prelude.{◌≡◌, ℕ, zero, suc, ◌+◌, ◌*◌, ◌/◌, ◌%◌, ◌<◌, ◌==◌, if◌then◌else◌, refl}
use Rattle.std.proofs.Common.{arith, ap}
use Rattle.gate_values.specs.declared.logic.Logic.{Logic}
use Rattle.gate_values.specs.declared.logic.Logic.TheVariants.{Zero, One, X, Z}
use Rattle.warp_stores.specs.declared.word.Word.TheInside.{Inside}
use Rattle.warp_stores.specs.Words.{Move}

-- a value in two bits
abbrev pub code_of : Logic → ℕ
code_of Zero = 0
code_of One = 1
code_of X = 2
code_of Z = 3

-- the value of two bits
abbrev pub value_of : ℕ → Logic
value_of code = if code == 0 then Zero else if code == 1 then One else if code == 2 then X else Z

-- the change in some bits
abbrev pub move_of : ℕ → Move
move_of bits = record { place = bits / 16; before = value_of (bits / 4 % 4); after = value_of (bits % 4) }

-- the bits of a change
abbrev pub bits_of : Move → ℕ
bits_of move = (move.place * 4 + code_of move.before) * 4 + code_of move.after

code_of-value_of : (code : ℕ) → code < 4 → code_of (value_of code) ≡ code
code_of-value_of zero h = refl
code_of-value_of (suc zero) h = refl
code_of-value_of (suc (suc zero)) h = refl
code_of-value_of (suc (suc (suc zero))) h = refl
code_of-value_of (suc (suc (suc (suc n)))) h = absurd (omega arith)

-- the bits of the change in some bits are these
bits_back : (bits : ℕ) → bits_of (move_of bits) ≡ bits
bits_back bits =
    let before : code_of (value_of (bits / 4 % 4)) ≡ bits / 4 % 4 = code_of-value_of (bits / 4 % 4) (omega arith) in
    let after : code_of (value_of (bits % 4)) ≡ bits % 4 = code_of-value_of (bits % 4) (omega arith) in
    omega arith

pub bits_of-move_of : (word : Inside) → ◌≡◌ {A = Inside} (record { bits = bits_of (move_of word.bits) }) word
bits_of-move_of word = ap (λ (bits : ℕ). let inside : Inside = record { bits = bits } in inside) (bits_back word.bits)
