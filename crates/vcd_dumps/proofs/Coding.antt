-- Laws of codes.
use Rattle.std.proofs.Common.{◌≡◌, ℕ, zero, suc, ◌+◌, ◌-◌, ◌*◌, ◌/◌, ◌%◌, ◌<◌, ◌≤◌, inl, inr, Bool, true, false, cond, nat_lt, List, [], ◌∷◌, length, refl, ap, sym, ◌∙◌, arith}
use Rattle.vcd_dumps.specs.Codes.{code_within, code_of}
use Rattle.net_waves.proofs.Compared.{lt_true, lt_false, cases_lt}

-- how many nets have a code of at most so many bytes
abbrev room : ℕ → ℕ
room zero = 0
room (suc k) = 94 * (room k + 1)

code_within-short : (k n : ℕ) → n < 94 → code_within (suc k) n ≡ (33 + n) ∷ []
code_within-short k n h = rw (lt_true n 94 h) refl

code_within-long : (k n : ℕ) → 94 ≤ n → code_within (suc k) n ≡ (33 + n % 94) ∷ code_within k (n / 94 - 1)
code_within-long k n h = rw (lt_false n 94 h) refl

fewer : (k n : ℕ) → n < room (suc k) → 94 ≤ n → n / 94 - 1 < room k
fewer k n h long = omega arith

-- a byte more changes nothing
code_within-more : (k n : ℕ) → n < room k → code_within (suc k) n ≡ code_within k n
code_within-more zero n h = absurd (omega arith)
code_within-more (suc k) n h = elim (cases_lt n 94) [
  | inl short ↦ code_within-short (suc k) n short ∙ sym (code_within-short k n short)
  | inr long ↦ code_within-long (suc k) n long ∙ ap (λ rest. (33 + n % 94) ∷ rest) (code_within-more k (n / 94 - 1) (fewer k n h long)) ∙ sym (code_within-long k n long)
]

code_within-some : (k n : ℕ) → n < room k → code_within k n ≡ [] → ⊥
code_within-some zero n h e = omega arith
code_within-some (suc k) n h e = elim (cases_lt n 94) [
  | inl short ↦ (let bad : (33 + n) ∷ [] ≡ [] = sym (code_within-short k n short) ∙ e in cc)
  | inr long ↦ (let bad : (33 + n % 94) ∷ code_within k (n / 94 - 1) ≡ [] = sym (code_within-long k n long) ∙ e in cc)
]

same_head : (a b : ℕ) (x y : List ℕ) → a ∷ x ≡ b ∷ y → a ≡ b
same_head a b x y e = cc

same_tail : (a b : ℕ) (x y : List ℕ) → a ∷ x ≡ b ∷ y → x ≡ y
same_tail a b x y e = cc

-- a short code and a long one differ
short_or_long : (k m n : ℕ) → m < 94 → 94 ≤ n → n < room (suc k) → code_within (suc k) m ≡ code_within (suc k) n → ⊥
short_or_long k m n short long h e =
    let both = sym (code_within-short k m short) ∙ e ∙ code_within-long k n long in
    code_within-some k (n / 94 - 1) (fewer k n h long) (sym (same_tail _ _ _ _ both))

code_within-differ : (k m n : ℕ) → m < room k → n < room k → code_within k m ≡ code_within k n → m ≡ n
code_within-differ zero m n a b e = absurd (omega arith)
code_within-differ (suc k) m n a b e = elim (cases_lt m 94) [
  | inl s ↦ elim (cases_lt n 94) [
    | inl t ↦ (let both = sym (code_within-short k m s) ∙ e ∙ code_within-short k n t in let heads = same_head _ _ _ _ both in omega arith)
    | inr l ↦ absurd (short_or_long k m n s l b e)
  ]
  | inr l ↦ elim (cases_lt n 94) [
    | inl t ↦ absurd (short_or_long k n m t l a (sym e))
    | inr r ↦ (let both = sym (code_within-long k m l) ∙ e ∙ code_within-long k n r in
        let heads : 33 + m % 94 ≡ 33 + n % 94 = same_head _ _ _ _ both in
        let rests : m / 94 - 1 ≡ n / 94 - 1 = code_within-differ k (m / 94 - 1) (n / 94 - 1) (fewer k m a l) (fewer k n b r) (same_tail _ _ _ _ both) in
        omega arith)
  ]
]

pub code_of-differ : (m n : ℕ) → m < 1000000 → n < 1000000 → code_of m ≡ code_of n → m ≡ n
unfolding code_of
code_of-differ m n a b e = code_within-differ 4 m n (omega arith) (omega arith) e

pub code_of-long : (n : ℕ) → 94 ≤ n → n < 1000000 → code_of n ≡ (33 + n % 94) ∷ code_of (n / 94 - 1)
unfolding code_of
code_of-long n long h = code_within-long 3 n long ∙ ap (λ rest. (33 + n % 94) ∷ rest) (sym (code_within-more 3 (n / 94 - 1) (omega arith)))

pub code_of-short : (n : ℕ) → n < 94 → code_of n ≡ (33 + n) ∷ []
unfolding code_of
code_of-short n h = code_within-short 3 n h

length-code_within : (k n : ℕ) → length (code_within k n) ≤ k
length-code_within zero n = omega arith
length-code_within (suc k) n = go (nat_lt n 94) (length-code_within k (n / 94 - 1))
  where
    go : (b : Bool) → length (code_within k (n / 94 - 1)) ≤ k → length (cond b ((33 + n) ∷ []) ((33 + n % 94) ∷ code_within k (n / 94 - 1))) ≤ suc k
    go true h = omega arith
    go false h = omega arith

pub length-code_of : (n : ℕ) → length (code_of n) ≤ 4
unfolding code_of
length-code_of n = length-code_within 4 n
