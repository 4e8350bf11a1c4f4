-- How many bits are alone, one after another.
use Rattle.std.proofs.Common.{◌≡◌, ℕ, ◌+◌, ◌<◌, Bool, true, false, List, [], length, take, get_or, count_by, ap, sym, ◌∙◌}
use Rattle.std.proofs.lemmas.List.Sums.{count_by_more_no, count_by_more_yes}
use Rattle.vcd_bits.specs.Names.{Bit}

abbrev pub no_bit : Bit
no_bit = record { name = []; source = record { code = []; place = 0 } }

pub alone-yes : (p : Bit → Bool) (bits : List Bit) (n count : ℕ) → n < length bits → p (get_or bits n no_bit) ≡ true → count ≡ count_by p (take n bits) → count + 1 ≡ count_by p (take (n + 1) bits)
alone-yes p bits n count l e h = ap (λ k. k + 1) h ∙ sym (count_by_more_yes p bits n no_bit l e)

pub alone-no : (p : Bit → Bool) (bits : List Bit) (n count : ℕ) → n < length bits → p (get_or bits n no_bit) ≡ false → count ≡ count_by p (take n bits) → count ≡ count_by p (take (n + 1) bits)
alone-no p bits n count l e h = h ∙ sym (count_by_more_no p bits n no_bit l e)
