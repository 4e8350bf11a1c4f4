-- Word 0 as hands change.
use Rattle.std.proofs.Common.{◌≡◌, ℕ, ◌+◌, ◌<◌, ◌≤◌, cond, eqb, min, List, [], ◌∷◌, ◌++◌, length, set, sum_by, refl, ap, ◌∙◌, arith, length-append}
use Rattle.std.proofs.lemmas.List.Sums.{sum_by_push, sum_by-append, sum_by-cons}
use Rattle.std.proofs.lemmas.Bool.Decides.{nat_tests}
use mathlib.Core.Option.{some}
use lib.ListN.{get_elem?}
use Rattle.warp_rounds.specs.declared.hand.Hand.{Hand}
use Rattle.warp_rounds.specs.Words.{times_in, once_below}
use Rattle.warp_rounds.specs.Inner.Rule.{hand_of, both_hands, spent_hand, IsCount}
use Rattle.warp_rounds.proofs.Sums.{sum_set, sum_set_same}

abbrev draws_in : Hand → ℕ
draws_in h = length h.draws

abbrev marks_in : Hand → ℕ
marks_in h = h.marks

abbrev times : ℕ → Hand → ℕ
times x h = times_in x h.draws

-- the hands together have the same draws and marks
record IsSame (hands after : List Hand) : Type 0 where
  draws : sum_by draws_in after ≡ sum_by draws_in hands
  marks : sum_by marks_in after ≡ sum_by marks_in hands
  each : (x : ℕ) → sum_by (times x) after ≡ sum_by (times x) hands

count_same : (blocks n : ℕ) (hands after : List Hand) → IsSame hands after → IsCount blocks n hands → IsCount blocks n after
count_same blocks n hands after same count = record {
  counted = omega (arith, same.draws, same.marks, count.counted);
  drawn = same.draws ∙ count.drawn;
  once = λ x. same.each x ∙ count.once x;
}

pub count_set : (blocks n : ℕ) (hands : List Hand) (i : ℕ) (v w : Hand) → get_elem? hands i ≡ some v → w.draws ≡ v.draws → w.marks ≡ v.marks → IsCount blocks n hands → IsCount blocks n (set hands i w)
count_set blocks n hands i v w at draws marks = count_same blocks n hands (set hands i w) (record {
  draws = sum_set_same draws_in hands i v w at (ap (length {A = ℕ}) draws);
  marks = sum_set_same marks_in hands i v w at marks;
  each = λ x. sum_set_same (times x) hands i v w at (ap (times_in x) draws);
})

pub count_push : (blocks n : ℕ) (hands : List Hand) (w : Hand) → w.draws ≡ [] → w.marks ≡ 0 → IsCount blocks n hands → IsCount blocks n (hands ++ w ∷ [])
count_push blocks n hands w draws marks = count_same blocks n hands (hands ++ w ∷ []) (record {
  draws = omega (arith, sum_by_push draws_in hands w, ap (length {A = ℕ}) draws);
  marks = omega (arith, sum_by_push marks_in hands w);
  each = λ x. omega (arith, sum_by_push (times x) hands w, ap (times_in x) draws);
})

-- what two hands have moves to one of them
moves : (f : Hand → ℕ) (hands : List Hand) (i j : ℕ) (v w : Hand) → get_elem? hands i ≡ some v → get_elem? (set hands i (both_hands v w)) j ≡ some w
    → f (both_hands v w) ≡ f v + f w → f spent_hand ≡ 0 → sum_by f (set (set hands i (both_hands v w)) j spent_hand) ≡ sum_by f hands
moves f hands i j v w at there adds none = omega (arith, sum_set f hands i v (both_hands v w) at, sum_set f (set hands i (both_hands v w)) j w spent_hand there)

pub count_collect : (blocks n : ℕ) (hands : List Hand) (i j : ℕ) (v w : Hand) → get_elem? hands i ≡ some v → get_elem? (set hands i (both_hands v w)) j ≡ some w
    → IsCount blocks n hands → IsCount blocks n (set (set hands i (both_hands v w)) j spent_hand)
count_collect blocks n hands i j v w at there = count_same blocks n hands (set (set hands i (both_hands v w)) j spent_hand) (record {
  draws = moves draws_in hands i j v w at there (length-append v.draws w.draws) refl;
  marks = moves marks_in hands i j v w at there refl refl;
  each = λ x. moves (times x) hands i j v w at there (sum_by-append (λ y. cond (eqb y x) 1 0) v.draws w.draws) refl;
})

once_more : (x n : ℕ) → once_below x (n + 1) ≡ once_below x n + cond (eqb n x) 1 0
once_more x n = grind (arith, nat_tests)

one_more : (x n : ℕ) (draws : List ℕ) → times_in x (draws ++ n ∷ []) ≡ times_in x draws + cond (eqb n x) 1 0
one_more x n draws = sum_by_push (λ y. cond (eqb y x) 1 0) draws n

-- a block is drawn
pub count_draw : (blocks n : ℕ) (hands : List Hand) (i : ℕ) (v : Hand) → get_elem? hands i ≡ some v → n < blocks → IsCount blocks n hands
    → IsCount blocks (n + 1) (set hands i (hand_of v.blocks v.shares v.marks (v.draws ++ n ∷ []) v.least))
count_draw blocks n hands i v at low count =
    let w : Hand = hand_of v.blocks v.shares v.marks (v.draws ++ n ∷ []) v.least in
    let before : min n blocks ≡ n = omega arith in let after : min (n + 1) blocks ≡ n + 1 = omega arith in
    let draws = sum_set draws_in hands i v w at in let marks = sum_set marks_in hands i v w at in
    record {
      counted = omega (arith, count.counted, draws, marks, length-append v.draws (n ∷ []));
      drawn = omega (arith, count.drawn, draws, length-append v.draws (n ∷ []));
      once = λ x. omega (arith, count.once x, ap (once_below x) before, ap (once_below x) after, once_more x n, sum_set (times x) hands i v w at, one_more x n v.draws);
    }

-- no block is left
pub count_mark : (blocks n : ℕ) (hands : List Hand) (i : ℕ) (v : Hand) → get_elem? hands i ≡ some v → blocks ≤ n → IsCount blocks n hands
    → IsCount blocks (n + 1) (set hands i (hand_of v.blocks v.shares (v.marks + 1) v.draws v.least))
count_mark blocks n hands i v at high count =
    let w : Hand = hand_of v.blocks v.shares (v.marks + 1) v.draws v.least in
    let before : min n blocks ≡ blocks = omega arith in let after : min (n + 1) blocks ≡ blocks = omega arith in
    let draws = sum_set draws_in hands i v w at in let marks = sum_set marks_in hands i v w at in
    record {
      counted = omega (arith, count.counted, draws, marks);
      drawn = omega (arith, count.drawn, draws);
      once = λ x. omega (arith, count.once x, ap (once_below x) before, ap (once_below x) after, sum_set (times x) hands i v w at);
    }

none_below : (x : ℕ) → once_below x 0 ≡ 0
none_below x = grind (arith, nat_tests)

pub count_opening : (blocks : ℕ) (h : Hand) → h.draws ≡ [] → h.marks ≡ 0 → IsCount blocks 0 (h ∷ [])
count_opening blocks h draws marks = let none : min 0 blocks ≡ 0 = omega arith in record {
  counted = omega (arith, sum_by-cons draws_in h [], sum_by-cons marks_in h [], ap (length {A = ℕ}) draws);
  drawn = omega (arith, sum_by-cons draws_in h [], ap (length {A = ℕ}) draws);
  once = λ x. omega (arith, sum_by-cons (times x) h [], ap (times_in x) draws, ap (once_below x) none, none_below x);
}
