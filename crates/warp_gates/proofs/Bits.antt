-- Values in a byte.
use Rattle.std.proofs.Common.{◌≡◌, ℕ, zero, suc, ◌+◌, ◌-◌, ◌*◌, ◌/◌, ◌%◌, ◌^◌, ◌<◌, List, [], ◌∷◌, set, refl, arith}
use Rattle.gate_values.specs.declared.logic.Logic.{Logic}
use Rattle.gate_values.specs.declared.logic.Logic.TheVariants.{Zero, One, X, Z}
use Rattle.warp_stores.specs.Shown.Words.{code_of, value_of}

-- a byte with another two bits
abbrev pub put : ℕ → ℕ → ℕ → ℕ
put bits pin code = bits - bits / 2 ^ (2 * pin) % 4 * 2 ^ (2 * pin) % 256 + code * 2 ^ (2 * pin) % 256

pub put-small : (bits pin code : ℕ) → bits < 256 → pin < 4 → code < 4 → put bits pin code < 256
put-small bits zero code h p k = omega arith
put-small bits (suc zero) code h p k = omega arith
put-small bits (suc (suc zero)) code h p k = omega arith
put-small bits (suc (suc (suc zero))) code h p k = omega arith
put-small bits (suc (suc (suc (suc n)))) code h p k = absurd (omega arith)

pub value_of-code_of : (v : Logic) → value_of (code_of v) ≡ v
value_of-code_of Zero = refl
value_of-code_of One = refl
value_of-code_of X = refl
value_of-code_of Z = refl

pub code_of-small : (v : Logic) → code_of v < 4
code_of-small Zero = omega arith
code_of-small One = omega arith
code_of-small X = omega arith
code_of-small Z = omega arith

four : (a b c d a' b' c' d' : ℕ) → a ≡ a' → b ≡ b' → c ≡ c' → d ≡ d' → ◌≡◌ {A = List ℕ} (a ∷ b ∷ c ∷ d ∷ []) (a' ∷ b' ∷ c' ∷ d' ∷ [])
four a b c d a' b' c' d' p q r s = cc

-- the codes in a byte
abbrev pub codes_in : ℕ → List ℕ
codes_in bits = (bits % 4) ∷ (bits / 4 % 4) ∷ (bits / 16 % 4) ∷ (bits / 64 % 4) ∷ []

pub codes_in-put : (bits pin code : ℕ) → bits < 256 → pin < 4 → code < 4 → codes_in (put bits pin code) ≡ set (codes_in bits) pin code
codes_in-put bits zero code h p k = four _ _ _ _ _ _ _ _ (omega arith) (omega arith) (omega arith) (omega arith)
codes_in-put bits (suc zero) code h p k = four _ _ _ _ _ _ _ _ (omega arith) (omega arith) (omega arith) (omega arith)
codes_in-put bits (suc (suc zero)) code h p k = four _ _ _ _ _ _ _ _ (omega arith) (omega arith) (omega arith) (omega arith)
codes_in-put bits (suc (suc (suc zero))) code h p k = four _ _ _ _ _ _ _ _ (omega arith) (omega arith) (omega arith) (omega arith)
codes_in-put bits (suc (suc (suc (suc n)))) code h p k = absurd (omega arith)
