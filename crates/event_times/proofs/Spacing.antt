-- How marks are spaced.
use Rattle.std.proofs.Common.{◌≡◌, ◌∙◌, ℕ, zero, suc, Bool, true, false, cond, ◌+◌, ◌-◌, ◌<◌, ◌≤◌, List, [], ◌∷◌, refl, ap, sym, arith, zero-add}
use Rattle.std.specs.List.{count_by, range_with_len}
use Rattle.std.proofs.lemmas.List.Sums.{sum_by-cons}
use Rattle.event_times.specs.declared.times.TheConstants.{SAVE_EVERY}
use Rattle.event_times.specs.Marks.{later_marks, counted, AreTimes, AreSpaced}

-- so many times from a first one on
abbrev run : (ℕ → Bool) → ℕ → ℕ → ℕ
run f a n = count_by f (range_with_len a n)

run-more : (f : ℕ → Bool) (a n : ℕ) → run f a (suc n) ≡ cond (f a) 1 0 + run f (a + 1) n
run-more f a n = sum_by-cons (λ t. cond (f t) 1 0) a (range_with_len (a + 1) n)

run-split : (f : ℕ → Bool) (a n m : ℕ) → run f a (n + m) ≡ run f a n + run f (a + n) m
run-split f a zero m =
    let e : a + 0 ≡ a = omega arith in
    let l : 0 + m ≡ m = omega arith in
    ap (λ k. run f a k) l ∙ (ap (λ b. run f b m) (sym e) ∙ (let z : run f (a + 0) m ≡ 0 + run f (a + 0) m = omega arith in z))
run-split f a (suc n) m =
    let more : run f a (suc (n + m)) ≡ cond (f a) 1 0 + run f (a + 1) (n + m) = run-more f a (n + m) in
    let first : run f a (suc n) ≡ cond (f a) 1 0 + run f (a + 1) n = run-more f a n in
    let rest : run f (a + 1) (n + m) ≡ run f (a + 1) n + run f (a + 1 + n) m = run-split f (a + 1) n m in
    let same_start : a + 1 + n ≡ a + suc n = omega arith in
    let moved : run f (a + 1 + n) m ≡ run f (a + suc n) m = ap (λ b. run f b m) same_start in
    let sum : suc n + m ≡ suc (n + m) = omega arith in
    ap (λ k. run f a k) sum ∙ omega (arith, more, first, rest, moved)

run-none : (f : ℕ → Bool) (a n : ℕ) → ((t : ℕ) → a ≤ t → t < a + n → f t ≡ false) → run f a n ≡ 0
run-none f a zero h = refl
run-none f a (suc n) h =
    let here : f a ≡ false = h a (omega arith) (omega arith) in
    run-more f a n ∙ (ap (λ b. cond b 1 0 + run f (a + 1) n) here ∙ (zero-add (run f (a + 1) n) ∙ run-none f (a + 1) n (λ t l k. h t (omega (arith, l)) (omega (arith, k)))))

counted-split : (f : ℕ → Bool) (a b c : ℕ) → a ≤ b → b ≤ c → counted f a c ≡ counted f a b + counted f b c
counted-split f a b c l k =
    let all : c - a ≡ (b - a) + (c - b) = omega arith in
    let start : a + (b - a) ≡ b = omega arith in
    ap (λ n. run f a n) all ∙ (run-split f a (b - a) (c - b) ∙ ap (λ s. run f a (b - a) + run f s (c - b)) start)

counted-none : (f : ℕ → Bool) (a b : ℕ) → ((t : ℕ) → a ≤ t → t < b → f t ≡ false) → counted f a b ≡ 0
counted-none f a b h = run-none f a (b - a) (λ t l k. h t l (omega (arith, l, k)))

counted-one : (f : ℕ → Bool) (a : ℕ) → f a ≡ true → counted f a (suc a) ≡ 1
counted-one f a h =
    let one : suc a - a ≡ suc 0 = omega arith in
    ap (λ n. run f a n) one ∙ (run-more f a 0 ∙ ap (λ t. cond t 1 0 + 0) h)

-- up to the next of some times there is one more
counted-next : (f : ℕ → Bool) (mark from t : ℕ) → mark ≤ from → from ≤ t → ((s : ℕ) → from ≤ s → s < t → f s ≡ false) → f t ≡ true → counted f mark (suc t) ≡ suc (counted f mark from)
counted-next f mark from t l k quiet busy =
    let first : counted f mark (suc t) ≡ counted f mark t + counted f t (suc t) = counted-split f mark t (suc t) (omega arith) (omega arith) in
    let second : counted f mark t ≡ counted f mark from + counted f from t = counted-split f mark from t l k in
    let none : counted f from t ≡ 0 = counted-none f from t quiet in
    let one : counted f t (suc t) ≡ 1 = counted-one f t busy in
    omega (arith, first, second, none, one)

-- From a mark on, where so many are left until the next one.
spaced_from : (busy : ℕ → Bool) (end mark from left : ℕ) (times : List ℕ) → mark ≤ from → counted busy mark from + left + 1 ≡ SAVE_EVERY → AreTimes busy from end times → AreSpaced busy end mark (later_marks left times)
spaced_from busy end mark from left [] l count are =
    let all : counted busy mark end ≡ counted busy mark from + counted busy from end = counted-split busy mark from end l are.0 in
    let none : counted busy from end ≡ 0 = counted-none busy from end are.1 in
    (omega (arith, are.0), omega (arith, all, none))
spaced_from busy end mark from zero (t ∷ ts) l count are =
    let next : counted busy mark (suc t) ≡ suc (counted busy mark from) = counted-next busy mark from t l are.0 are.2 are.1 in
    let here : suc t - 1 ≡ t = omega arith in
    let none : counted busy (suc t) (suc t) ≡ 0 = counted-none busy (suc t) (suc t) (λ s a b. absurd (omega arith)) in
    (omega (arith, are.0), omega (arith, next), ap busy here ∙ are.1, spaced_from busy end (suc t) (suc t) (SAVE_EVERY - 1) ts (omega arith) (omega (arith, none)) are.3)
spaced_from busy end mark from (suc left) (t ∷ ts) l count are =
    let next : counted busy mark (suc t) ≡ suc (counted busy mark from) = counted-next busy mark from t l are.0 are.2 are.1 in
    spaced_from busy end mark (suc t) left ts (omega (arith, are.0)) (omega (arith, next)) are.3

pub spaced : (busy : ℕ → Bool) (first end : ℕ) (times : List ℕ) → AreTimes busy first end times → AreSpaced busy end first (later_marks (SAVE_EVERY - 1) times)
spaced busy first end times are =
    let none : counted busy first first ≡ 0 = counted-none busy first first (λ s a b. absurd (omega arith)) in
    spaced_from busy end first first (SAVE_EVERY - 1) times (omega arith) (omega (arith, none)) are
