-- The bits of a dump, one after another.
use Rattle.std.proofs.Common.{◌≡◌, ℕ, zero, suc, ◌+◌, ◌<◌, List, [], ◌∷◌, ◌++◌, length, take, get_or, refl, ap, sym, ◌∙◌, min, arith, add-one}
use Rattle.std.proofs.lemmas.List.{append_assoc}
use Rattle.std.proofs.lemmas.Grind.{common_steps}
use Rattle.gate_vcd.specs.Declarations.{Variable}
use Rattle.vcd_bits.specs.Names.{Bit, all_bits, bits_below, with_bit, with_bits}

pub bits-nil : (bits : List Bit) → bits ++ [] ≡ bits
bits-nil bits = grind (arith, common_steps)

pub with_bits-append : (known bits more : List Bit) → with_bits known (bits ++ more) ≡ with_bits (with_bits known bits) more
with_bits-append known [] more = refl
with_bits-append known (b ∷ bits) more = with_bits-append (with_bit known b) bits more

-- one bit more
pub with_bits-more : (known bits : List Bit) (b : Bit) → with_bits known (bits ++ b ∷ []) ≡ with_bit (with_bits known bits) b
with_bits-more known bits b = with_bits-append known bits (b ∷ [])

-- the bits of one variable more
all_bits-suc : (scope : List ℕ) (paths : List (List ℕ)) (vs : List Variable) (i : ℕ) (p : List ℕ) (v : Variable) → i < length paths → i < length vs
    → all_bits scope (take (suc i) paths) (take (suc i) vs) ≡ all_bits scope (take i paths) (take i vs) ++ bits_below scope (get_or paths i p) (get_or vs i v)
all_bits-suc scope [] vs i p v lp lv = absurd (omega arith)
all_bits-suc scope (q ∷ paths) [] i p v lp lv = absurd (omega arith)
all_bits-suc scope (q ∷ paths) (w ∷ vs) zero p v lp lv = bits-nil (bits_below scope q w)
all_bits-suc scope (q ∷ paths) (w ∷ vs) (suc i) p v lp lv = ap (λ bits. bits_below scope q w ++ bits) (all_bits-suc scope paths vs i p v (omega arith) (omega arith)) ∙ sym (append_assoc (bits_below scope q w) (all_bits scope (take i paths) (take i vs)) (bits_below scope (get_or paths i p) (get_or vs i v)))

pub all_bits-more : (scope : List ℕ) (known : List Bit) (paths : List (List ℕ)) (vs : List Variable) (i : ℕ) (p : List ℕ) (v : Variable) → i < length paths → i < length vs
    → with_bits known (all_bits scope (take (i + 1) paths) (take (i + 1) vs)) ≡ with_bits (with_bits known (all_bits scope (take i paths) (take i vs))) (bits_below scope (get_or paths i p) (get_or vs i v))
all_bits-more scope known paths vs i p v lp lv =
    ap (λ n. with_bits known (all_bits scope (take n paths) (take n vs))) (add-one i) ∙ ap (with_bits known) (all_bits-suc scope paths vs i p v lp lv) ∙ with_bits-append known (all_bits scope (take i paths) (take i vs)) (bits_below scope (get_or paths i p) (get_or vs i v))

-- the bits of all, up to the end of the shorter list
pub all_bits-whole : (scope : List ℕ) (paths : List (List ℕ)) (vs : List Variable) (n : ℕ) → n ≡ min (length vs) (length paths) → all_bits scope (take n paths) (take n vs) ≡ all_bits scope paths vs
all_bits-whole scope [] vs n e = let none : n ≡ 0 = omega arith in rw none refl
all_bits-whole scope (q ∷ paths) [] n e = let none : n ≡ 0 = omega arith in rw none refl
all_bits-whole scope (q ∷ paths) (w ∷ vs) zero e = absurd (omega arith)
all_bits-whole scope (q ∷ paths) (w ∷ vs) (suc n) e = ap (λ bits. bits_below scope q w ++ bits) (all_bits-whole scope paths vs n (omega arith))
