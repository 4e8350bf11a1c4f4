-- Names are text.
use Rattle.std.proofs.Common.{◌≡◌, ℕ, suc, ◌+◌, Bool, true, false, cond, ◌&&◌, List, [], ◌∷◌, take, refl, ap, subst, arith}
use Rattle.std.specs.List.{list_all, prefix_len}
use Rattle.std.specs.Str.{IsUtf8}
use Rattle.gate_netlist.specs.Symbols.{is_letter}
use Rattle.gate_netlist.proofs.Words.{word-utf8}

one_more : (n : ℕ) → 1 + n ≡ suc n
one_more n = omega arith

-- where all bytes are letters, the word in front is all of the text
all-word : (bs : List ℕ) → list_all is_letter bs ≡ true → take (prefix_len is_letter bs) bs ≡ bs
all-word [] e = refl
all-word (b ∷ bs) e = go (is_letter b) e (all-word bs)
  where
    go : (t : Bool) → (t && list_all is_letter bs) ≡ true → (list_all is_letter bs ≡ true → take (prefix_len is_letter bs) bs ≡ bs) → take (cond t (1 + prefix_len is_letter bs) 0) (b ∷ bs) ≡ b ∷ bs
    go true e rest = rw (one_more (prefix_len is_letter bs)) (ap (λ l. b ∷ l) (rest e))
    go false e rest = cc

pub letters-utf8 : (bs : List ℕ) → list_all is_letter bs ≡ true → IsUtf8 bs
letters-utf8 bs e = subst IsUtf8 (all-word bs e) (word-utf8 bs)
