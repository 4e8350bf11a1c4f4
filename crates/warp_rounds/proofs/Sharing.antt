-- The shares as hands change.
use Rattle.std.proofs.Common.{◌≡◌, ℕ, ◌+◌, ◌<◌, ◌≤◌, List, [], ◌∷◌, ◌++◌, set, refl, arith}
use Rattle.std.proofs.lemmas.List.Sums.{sum_by_push, sum_by-cons}
use mathlib.Core.Option.{some}
use lib.ListN.{get_elem?}
use Rattle.warp_rounds.specs.declared.hand.Hand.{Hand}
use Rattle.warp_rounds.specs.Words.{never}
use Rattle.warp_rounds.specs.Inner.Rule.{empty_hand, spent_hand, after_deal, both_hands, IsFair, IsCount, AreShared}
use Rattle.warp_rounds.proofs.Sums.{sum_set, sum_le, each_set, each_push, each_one}

abbrev shares_in : Hand → ℕ
shares_in h = h.shares

fair_spent : (blocks : ℕ) → IsFair blocks spent_hand
fair_spent blocks = record { same = λ some. absurd (omega arith); marked = omega arith; empty = λ _. (refl, refl) }

pub shares_set : (blocks seats : ℕ) (hands : List Hand) (i : ℕ) (v w : Hand) → get_elem? hands i ≡ some v → w.shares ≡ v.shares → IsFair blocks w
    → AreShared blocks seats hands → AreShared blocks seats (set hands i w)
shares_set blocks seats hands i v w at same fair shares = record {
  all = omega (arith, shares.all, sum_set shares_in hands i v w at);
  fair = each_set (IsFair blocks) hands i w fair shares.fair;
}

pub shares_open : (blocks seats : ℕ) (hands : List Hand) → AreShared blocks seats hands → AreShared blocks seats (hands ++ spent_hand ∷ [])
shares_open blocks seats hands shares = record {
  all = omega (arith, shares.all, sum_by_push shares_in hands spent_hand);
  fair = each_push (IsFair blocks) hands spent_hand (fair_spent blocks) shares.fair;
}

pub shares_deal : (blocks seats : ℕ) (hands : List Hand) (i : ℕ) (v : Hand) → get_elem? hands i ≡ some v → 0 < v.shares → v.marks ≡ 0 → v.draws ≡ [] → v.least ≡ never
    → AreShared blocks seats hands → AreShared blocks seats (set hands i (after_deal v) ++ empty_hand v.blocks 1 ∷ [])
shares_deal blocks seats hands i v at some_share no_mark no_draw no_time shares =
    let left : Hand = after_deal v in let right : Hand = empty_hand v.blocks 1 in
    let same : v.blocks ≡ blocks = (shares.fair i v at).same some_share in
    record {
      all = omega (arith, shares.all, sum_set shares_in hands i v left at, sum_by_push shares_in (set hands i left) right);
      fair = each_push (IsFair blocks) (set hands i left) right record { same = λ _. same; marked = omega arith; empty = λ none. absurd (omega arith) }
          (each_set (IsFair blocks) hands i left record { same = λ _. same; marked = omega arith; empty = λ _. (no_draw, no_time) } shares.fair);
    }

pub shares_collect : (blocks seats : ℕ) (hands : List Hand) (i j : ℕ) (v w : Hand) → get_elem? hands i ≡ some v → get_elem? hands j ≡ some w
    → get_elem? (set hands i (both_hands v w)) j ≡ some w → 0 < w.shares → AreShared blocks seats hands → AreShared blocks seats (set (set hands i (both_hands v w)) j spent_hand)
shares_collect blocks seats hands i j v w at there still some_share shares =
    let both : Hand = both_hands v w in let joined : List Hand = set hands i both in
    let mine = shares.fair i v at in let theirs = shares.fair j w there in
    let same : w.blocks ≡ blocks = theirs.same some_share in
    record {
      all = omega (arith, shares.all, sum_set shares_in hands i v both at, sum_set shares_in joined j w spent_hand still);
      fair = each_set (IsFair blocks) joined j spent_hand (fair_spent blocks)
          (each_set (IsFair blocks) hands i both record { same = λ _. same; marked = omega (arith, mine.marked, theirs.marked); empty = λ none. absurd (omega arith) } shares.fair);
    }

pub shares_opening : (blocks seats : ℕ) → AreShared blocks seats (empty_hand blocks seats ∷ [])
shares_opening blocks seats = record {
  all = omega (arith, sum_by-cons shares_in (empty_hand blocks seats) []);
  fair = each_one (IsFair blocks) (empty_hand blocks seats) record { same = λ _. refl; marked = omega arith; empty = λ _. (refl, refl) };
}

-- there are no more draws and marks than blocks and seats
pub few_draws : (blocks seats n : ℕ) (hands : List Hand) → IsCount blocks n hands → AreShared blocks seats hands → n ≤ blocks + seats
few_draws blocks seats n hands count shares =
    omega (arith, count.counted, count.drawn, shares.all, sum_le (λ (h : Hand). h.marks) shares_in hands (λ i h at. (shares.fair i h at).marked))
