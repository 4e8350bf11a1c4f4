-- Numbers in decimal digits.
use Rattle.std.specs.Prelude.{ℕ, ◌-◌, Bool, not, ◌&&◌, nat_le, nat_eq, length, map, if◌then◌else◌, List, Option, Some, None}
use Rattle.std.specs.Int.Digits.{number_from_digits}
use Rattle.std.specs.List.{list_all}

abbrev pub is_digit : ℕ → Bool
is_digit b = nat_le 48 b && nat_le b 57

-- one or more decimal digits
abbrev pub is_numeral : List ℕ → Bool
is_numeral text = not (nat_eq (length text) 0) && list_all is_digit text

-- the number that decimal digits write
abbrev pub number : List ℕ → ℕ
number digits = number_from_digits 10 (map (λ b. b - 48) digits)

-- the number, where it is at most so much
abbrev pub number_up_to : ℕ → List ℕ → Option ℕ
number_up_to most digits = if nat_le (number digits) most then Some (number digits) else None
