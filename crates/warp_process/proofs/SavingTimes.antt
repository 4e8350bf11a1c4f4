-- How many of some times pass a test.
use Rattle.std.proofs.Common.{◌≡◌, ℕ, zero, suc, Bool, true, false, cond, ◌+◌, ◌-◌, ◌<◌, ◌≤◌, refl, ap, sym, ◌∙◌, arith, zero-add}
use Rattle.std.specs.List.{count_by, range_with_len}
use Rattle.std.proofs.lemmas.Bool.{false_from_ne_true}
use Rattle.std.proofs.lemmas.List.Sums.{sum_by-cons}

-- so many times from a first one on
abbrev run : (ℕ → Bool) → ℕ → ℕ → ℕ
run f a n = count_by f (range_with_len a n)

run-more : (f : ℕ → Bool) (a n : ℕ) → run f a (suc n) ≡ cond (f a) 1 0 + run f (a + 1) n
run-more f a n = sum_by-cons (λ t. cond (f t) 1 0) a (range_with_len (a + 1) n)

run-split : (f : ℕ → Bool) (a n m : ℕ) → run f a (n + m) ≡ run f a n + run f (a + n) m
run-split f a zero m =
    let e : a + 0 ≡ a = omega arith in
    let l : 0 + m ≡ m = omega arith in
    ap (λ k. run f a k) l ∙ (ap (λ b. run f b m) (sym e) ∙ (let z : run f (a + 0) m ≡ 0 + run f (a + 0) m = omega arith in z))
run-split f a (suc n) m =
    let more : run f a (suc (n + m)) ≡ cond (f a) 1 0 + run f (a + 1) (n + m) = run-more f a (n + m) in
    let first : run f a (suc n) ≡ cond (f a) 1 0 + run f (a + 1) n = run-more f a n in
    let rest : run f (a + 1) (n + m) ≡ run f (a + 1) n + run f (a + 1 + n) m = run-split f (a + 1) n m in
    let same_start : a + 1 + n ≡ a + suc n = omega arith in
    let moved : run f (a + 1 + n) m ≡ run f (a + suc n) m = ap (λ b. run f b m) same_start in
    let sum : suc n + m ≡ suc (n + m) = omega arith in
    ap (λ k. run f a k) sum ∙ omega (arith, more, first, rest, moved)

run-agree : (f g : ℕ → Bool) (a n : ℕ) → ((t : ℕ) → a ≤ t → t < a + n → f t ≡ g t) → run f a n ≡ run g a n
run-agree f g a zero h = refl
run-agree f g a (suc n) h =
    let here : f a ≡ g a = h a (omega arith) (omega arith) in
    let rest : run f (a + 1) n ≡ run g (a + 1) n = run-agree f g (a + 1) n (λ t l k. h t (omega (arith, l)) (omega (arith, k))) in
    run-more f a n ∙ (ap (λ b. cond b 1 0 + run f (a + 1) n) here ∙ (ap (λ k. cond (g a) 1 0 + k) rest ∙ sym (run-more g a n)))

run-none : (f : ℕ → Bool) (a n : ℕ) → ((t : ℕ) → a ≤ t → t < a + n → f t ≡ false) → run f a n ≡ 0
run-none f a zero h = refl
run-none f a (suc n) h =
    let here : f a ≡ false = h a (omega arith) (omega arith) in
    run-more f a n ∙ (ap (λ b. cond b 1 0 + run f (a + 1) n) here ∙ (zero-add (run f (a + 1) n) ∙ run-none f (a + 1) n (λ t l k. h t (omega (arith, l)) (omega (arith, k)))))

-- how many times from a first one on, and below an end, pass the test
abbrev pub times : (ℕ → Bool) → ℕ → ℕ → ℕ
times f from end = count_by f (range_with_len from (end - from))

pub times-split : (f : ℕ → Bool) (a b c : ℕ) → a ≤ b → b ≤ c → times f a c ≡ times f a b + times f b c
times-split f a b c l k =
    let all : c - a ≡ (b - a) + (c - b) = omega arith in
    let start : a + (b - a) ≡ b = omega arith in
    ap (λ n. run f a n) all ∙ (run-split f a (b - a) (c - b) ∙ ap (λ s. run f a (b - a) + run f s (c - b)) start)

pub times-agree : (f g : ℕ → Bool) (a b : ℕ) → ((t : ℕ) → a ≤ t → t < b → f t ≡ g t) → times f a b ≡ times g a b
times-agree f g a b h = run-agree f g a (b - a) (λ t l k. h t l (omega (arith, l, k)))

pub times-none : (f : ℕ → Bool) (a b : ℕ) → ((t : ℕ) → a ≤ t → t < b → ¬ (f t ≡ true)) → times f a b ≡ 0
times-none f a b h = run-none f a (b - a) (λ t l k. false_from_ne_true (f t) (h t l (omega (arith, l, k))))

pub times-one : (f : ℕ → Bool) (a b : ℕ) → b ≡ a + 1 → f a ≡ true → times f a b ≡ 1
times-one f a b next h =
    let one : b - a ≡ suc 0 = omega (arith, next) in
    ap (λ n. run f a n) one ∙ (run-more f a 0 ∙ ap (λ t. cond t 1 0 + 0) h)
