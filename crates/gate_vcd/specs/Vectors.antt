-- Which variables are vectors, and which nets are bits of them.
use Rattle.std.specs.Prelude.{ℕ, ◌+◌, ◌-◌, Bool, not, ◌&&◌, ◌||◌, nat_le, nat_eq, if◌then◌else◌, List, length, take, drop, codes, Option, Some, None, option_map, option_and_then, position}
use Rattle.std.specs.Int.{abs_diff}
use Rattle.std.specs.List.{ends_with, starts_with}
use Rattle.std.specs.Path.{rfind_below}
use Rattle.std.specs.Str.{bytes_eq}
use Rattle.text_numbers.specs.Numbers.{is_numeral, number_up_to}
use Rattle.gate_vcd.specs.Declarations.{Variable}

-- the greatest number of a bit
abbrev pub last_bit : ℕ
last_bit = 4294967295

-- the number that a text of decimal digits writes, where it can be that of a bit
abbrev pub number_in : List ℕ → Option ℕ
number_in text = if is_numeral text then number_up_to last_bit text else None

-- what stands before a place, which isn't empty, and after it
abbrev pub parted_at : List ℕ → ℕ → Option (List ℕ × List ℕ)
parted_at text at = if nat_eq at 0 then None else Some (take at text, drop (at + 1) text)

-- the same at the last `[`
abbrev pub parted : List ℕ → Option (List ℕ × List ℕ)
parted text = option_and_then (parted_at text) (rfind_below 91 text (length text))

-- A text that ends with something in brackets: what stands before the last `[`, which isn't empty, and what
-- stands from there to the `]` at the end.
abbrev pub bracketed : List ℕ → Option (List ℕ × List ℕ)
bracketed text = if ends_with nat_eq text (codes "]") then parted (take (length text - 1) text) else None

-- A vector: its base, and the numbers of its leftmost bit and of its rightmost one.
pub record Vector : Type 0 where
  pub base : List ℕ
  pub left : ℕ
  pub right : ℕ

-- one after the other, where there are both
abbrev pub both : Option ℕ → Option ℕ → Option (ℕ × ℕ)
both (Some m) (Some l) = Some (m, l)
both _ _ = None

-- the numbers of a range, parted by a colon
abbrev pub range_in : List ℕ → Option (ℕ × ℕ)
range_in text = option_and_then (λ at. both (number_in (take at text)) (number_in (drop (at + 1) text))) (position (λ b. nat_eq b 58) text)

-- the vector that a reference text with a range names, `B[m:l]`
abbrev pub ranged : List ℕ → Option Vector
ranged text = option_and_then (λ x. option_map (λ r. record { base = x.0; left = r.0; right = r.1 }) (range_in x.1)) (bracketed text)

-- With a range the size must be that of the range. Without one the size gives it, from 2 on.
abbrev pub of_size : ℕ → List ℕ → Option Vector → Option Vector
of_size size text (Some v) = if nat_eq size (abs_diff v.left v.right + 1) then Some v else None
of_size size text None = if nat_le 2 size && nat_le size last_bit then Some (record { base = text; left = size - 1; right = 0 }) else None

-- the vector that a variable is
abbrev pub vector_of : Variable → Option Vector
vector_of v = if v.counted && v.valued then of_size v.size v.reference (ranged v.reference) else None

-- A bit: the base of the vectors that have it, and its number.
pub record Bit : Type 0 where
  pub base : List ℕ
  pub index : ℕ

-- digits without leading zeros
abbrev pub is_plain : List ℕ → Bool
is_plain digits = not (starts_with nat_eq digits (codes "0")) || nat_eq (length digits) 1

abbrev pub index_in : List ℕ → Option ℕ
index_in text = if is_plain text then number_in text else None

-- the bit that the name of a net tells, `B[i]`
abbrev pub bit_of : List ℕ → Option Bit
bit_of name = option_and_then (λ x. option_map (λ i. record { base = x.0; index = i }) (index_in x.1)) (bracketed name)

abbrev pub is_between : ℕ → ℕ → ℕ → Bool
is_between m l i = nat_le m i && nat_le i l || nat_le l i && nat_le i m

-- where the digit of a bit stands in those of a vector that has it, counted from the right and from 0
abbrev pub place_in : Bit → Vector → Option ℕ
place_in bit v = if bytes_eq bit.base v.base && is_between v.left v.right bit.index then Some (abs_diff bit.index v.right) else None
