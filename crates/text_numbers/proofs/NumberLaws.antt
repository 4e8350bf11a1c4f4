-- Numbers, digit by digit.
use Rattle.std.proofs.Common.{◌≡◌, ℕ, zero, suc, ◌+◌, ◌-◌, ◌*◌, ◌<◌, ◌≤◌, true, false, nat_le, List, [], ◌∷◌, length, map, drop, get_or, Option, Some, None, refl, ◌∙◌, arith, add-one}
use Rattle.std.proofs.lemmas.Bool.Decides.{nat_tests}
use Rattle.std.specs.Int.Digits.{number_from_digits_after}
use Rattle.text_numbers.specs.Numbers.{number, number_up_to}

-- the number that these digits make after one that was read
abbrev pub number_after : ℕ → List ℕ → ℕ
number_after n digits = number_from_digits_after 10 n (map (λ b. b - 48) digits)

pub number-drop : (n : ℕ) (ds : List ℕ) (i : ℕ) → i < length ds → number_after n (drop i ds) ≡ number_after (n * 10 + (get_or ds i 0 - 48)) (drop (i + 1) ds)
number-drop n [] i h = absurd (omega arith)
number-drop n (d ∷ ds) zero h = refl
number-drop n (d ∷ ds) (suc i) h = rw (add-one (suc i)) (number-drop n ds i (omega arith) ∙ rw (add-one i) refl)

grows : (n : ℕ) (ds : List ℕ) → n ≤ number_after n ds
grows n [] = omega arith
grows n (d ∷ ds) = omega (arith, grows (n * 10 + (d - 48)) ds)

-- a number that passes the limit stays above it
pub too_large : (most next : ℕ) (rest digits : List ℕ) → number_after next rest ≡ number digits → most < next → ◌≡◌ {A = Option ℕ} None (number_up_to most digits)
too_large most next rest digits e h =
    let above : next ≤ number digits = rw (← e) (grows next rest) in
    let no : nat_le (number digits) most ≡ false = grind (arith, nat_tests) in
    rw no refl

pub all_read : (most next : ℕ) (digits : List ℕ) → number_after next [] ≡ number digits → next ≤ most → Some next ≡ number_up_to most digits
all_read most next digits e h =
    let yes : nat_le next most ≡ true = grind (arith, nat_tests) in
    rw (← e, yes) refl
