-- At the end one seat takes in all the others, and with every share it knows the words.
use Rattle.std.proofs.Common.{◌≡◌, ℕ, ◌+◌, ◌<◌, ◌≤◌, Bool, true, false, cond, eqb, min, List, [], ◌∷◌, length, All, Ok, Err, set, fold, sum_by, refl, sym, ap, ◌∙◌, arith, ⊎_elim}
use Rattle.std.proofs.lemmas.List.Elements.{All-nil, All-cons}
use Rattle.std.proofs.lemmas.List.Sums.{sum_by-append, sum_by-cons}
use Rattle.std.proofs.lemmas.Bool.Decides.{nat_tests}
use mathlib.Core.Option.{some, some-injective}
use mathlib.Core.Logic.{dite}
use native.Mathlib.Decide.{ℕ_discrete}
use lib.ListN.{get_elem?}
use Rattle.atomic_table.proofs.Lists.{set_else}
use Rattle.warp_rounds.specs.declared.hand.Hand.{Hand}
use Rattle.warp_rounds.specs.declared.round.EndFault.TheVariants.{Undrawn}
use Rattle.warp_rounds.specs.Words.{never, times_in, once_below}
use Rattle.warp_rounds.specs.Inner.Rule.{spent_hand, both_hands, IsLast}
use Rattle.warp_rounds.specs.Seats.{RoundView, SeatView, drawn_times, IsUnmarked, IsEnd}
use Rattle.warp_rounds.specs.Inner.Inside.{marks_of, IsTakenIn}
use Rattle.warp_rounds.proofs.Sums.{sum_set, part_le, sum_alone}

pub takes_none : (h : Hand) (all : List SeatView) → h ≡ spent_hand → IsTakenIn h all all
takes_none h all is = record {
  shares = omega (arith, ap (λ (v : Hand). v.shares) is);
  marks = omega (arith, ap (λ (v : Hand). v.marks) is);
  draws = λ x. omega (arith, ap (λ (v : Hand). times_in x v.draws) is);
  least = ap (λ (v : Hand). fold (λ time (s : SeatView). min time s.least) v.least all) is;
  timed = omega (arith, ap (λ (v : Hand). v.least) is);
}

-- the other hand is what the seat shows
pub record IsHandOf (other : Hand) (s : SeatView) : Type 0 where
  pub one : other.shares ≡ 1
  pub marks : other.marks ≡ cond s.marked 1 0
  pub draws : other.draws ≡ s.draws
  pub least : other.least ≡ s.least

pub takes_one : (h after other : Hand) (s : SeatView) (rest all : List SeatView) → IsTakenIn h (s ∷ rest) all → IsHandOf other s → after ≡ both_hands h other → IsTakenIn after rest all
takes_one h after other s rest all taken shown is = record {
  shares = omega (arith, ap (λ (v : Hand). v.shares) is, shown.one, taken.shares);
  marks = omega (arith, ap (λ (v : Hand). v.marks) is, shown.marks, taken.marks, sum_by-cons (λ (s : SeatView). cond s.marked 1 0) s rest);
  draws = λ x. omega (
    arith,
    ap (λ (v : Hand). times_in x v.draws) is,
    sum_by-append (λ y. cond (eqb y x) 1 0) h.draws other.draws,
    ap (times_in x) shown.draws,
    taken.draws x,
    sum_by-cons (λ (s : SeatView). times_in x s.draws) s rest,
  );
  least = ap (λ time. fold (λ time (s : SeatView). min time s.least) time rest) (ap (λ (v : Hand). v.least) is ∙ ap (min h.least) shown.least) ∙ taken.least;
  timed = omega (arith, ap (λ (v : Hand). v.least) is, taken.timed);
}

-- what a hand with every share knows of the words
record IsWhole (blocks : ℕ) (h : Hand) (number least : ℕ) : Type 0 where
  once : (x : ℕ) → times_in x h.draws ≡ once_below x (min number blocks)
  drawn : length h.draws ≡ min number blocks
  counted : length h.draws + h.marks ≡ number
  least_is : h.least ≤ never → least ≡ h.least

none_at_itself : (n : ℕ) → once_below n n ≡ 0
none_at_itself n = grind (arith, nat_tests)

unmarked_by : (s : SeatView) (b : Bool) → s.marked ≡ b → ◌≡◌ {A = ℕ} (cond b 1 0) 0 → IsUnmarked s
unmarked_by s false is none = is
unmarked_by s true is none = absurd (omega arith)

all_unmarked : (all : List SeatView) → marks_of all ≡ 0 → All IsUnmarked all
all_unmarked [] none = All-nil IsUnmarked
all_unmarked (s ∷ rest) none = let e = sum_by-cons (λ (s : SeatView). cond s.marked 1 0) s rest in
    All-cons IsUnmarked s rest (unmarked_by s s.marked refl (omega arith)) (all_unmarked rest (omega arith))

module _ (blocks seats id : ℕ) (h : Hand) (n m : ℕ) (last : IsLast blocks seats id h n m) where
  no_more : h.shares ≤ seats
  no_more = omega (arith, last.kept.shares.all, part_le (λ (v : Hand). v.shares) last.state.views id h last.there)

  -- a sum over all hands is that of the one with every share
  alone : h.shares ≡ seats → (f : Hand → ℕ) → ((v : Hand) → v.draws ≡ [] → v.marks ≡ 0 → f v ≡ 0) → sum_by f last.state.views ≡ f h
  alone every f none = sum_alone (λ (v : Hand). v.shares) f last.state.views id h last.there (last.kept.shares.all ∙ sym every)
      (λ j v at no_share. let fair = last.kept.shares.fair j v at in none v (fair.empty no_share).0 (omega (arith, fair.marked)))

  -- another hand has no share, and so no time
  never_else : h.shares ≡ seats → (i : ℕ) (v : Hand) → ¬ (i ≡ id) → get_elem? last.state.views i ≡ some v → v.least ≡ never
  never_else every i v else at =
      let others = sum_set (λ (v : Hand). v.shares) last.state.views id h spent_hand last.there in
      let part = part_le (λ (v : Hand). v.shares) (set last.state.views id spent_hand) i v (set_else last.state.views id i spent_hand else ∙ at) in
      ((last.kept.shares.fair i v at).empty (omega (arith, others, part, last.kept.shares.all))).1

  least_here : h.shares ≡ seats → h.least ≤ never → last.kept.least ≡ h.least
  least_here every timed = let low = last.kept.earliest.below id h last.there in let top = last.kept.earliest.top in ⊎_elim (λ (none : last.kept.least ≡ never). omega arith)
      (λ (t : (i : ℕ) × (v : Hand) × (get_elem? last.state.views i ≡ some v) × (v.least ≡ last.kept.least)).
      dite (ℕ_discrete t.0 id)
      (λ here. sym t.3 ∙ ap (λ (v : Hand). v.least) (some-injective t.1 h (sym t.2 ∙ (ap (get_elem? last.state.views) here ∙ last.there))))
      (λ else. omega (arith, never_else every t.0 t.1 else t.2, t.3))) last.kept.earliest.reached

  whole : h.shares ≡ seats → IsWhole blocks h n m
  whole every =
      let lengths = alone every (λ (v : Hand). length v.draws) (λ v none no_mark. ap (length {A = ℕ}) none) in
      record {
        once = λ x. sym (alone every (λ (v : Hand). times_in x v.draws) (λ v none no_mark. ap (times_in x) none)) ∙ (last.kept.count.once x ∙ ap (λ k. once_below x (min k blocks)) last.number_is);
        drawn = sym lengths ∙ (last.kept.count.drawn ∙ ap (λ k. min k blocks) last.number_is);
        counted = omega (arith, lengths, alone every (λ (v : Hand). v.marks) (λ v none no_mark. no_mark), last.kept.count.counted, last.number_is);
        least_is = λ timed. sym last.least_is ∙ least_here every timed;
      }

module _ (r : RoundView) (all : List SeatView) (blocks seats id : ℕ) (h : Hand) (n m : ℕ) where
  -- all the seats came back, and one hand has taken them in
  pub record IsOver : Type 0 where
    pub same : blocks ≡ r.round.blocks
    pub as_many : seats ≡ r.seats
    pub enough : r.seats ≤ length all
    pub taken : IsTakenIn h [] all
    pub last : IsLast blocks seats id h n m

  module _ (over : IsOver) where
    every : h.shares ≡ seats
    every = omega (arith, no_more blocks seats id h n m over.last, over.taken.shares, over.enough, over.as_many)

    all_back : length all ≡ r.seats
    all_back = omega (arith, every, over.taken.shares, over.as_many)

    at_end : IsWhole blocks h n m
    at_end = whole blocks seats id h n m over.last every

    drawn_by_all : (x : ℕ) → drawn_times x all ≡ once_below x (min n blocks)
    drawn_by_all x = omega (arith, over.taken.draws x, at_end.once x)

    pub ends_with_all_drawn : r.round.blocks ≤ n → IsEnd r all (Ok m)
    ends_with_all_drawn many = let cut : min n blocks ≡ r.round.blocks = omega (arith, over.same) in
        (all_back, (λ x. drawn_by_all x ∙ ap (once_below x) cut), at_end.least_is over.taken.timed ∙ over.taken.least)

    pub ends_with_one_undrawn : n < r.round.blocks → IsEnd r all (Err Undrawn)
    ends_with_one_undrawn few = let cut : min n blocks ≡ n = omega (arith, over.same) in
        (all_back, (n, few, drawn_by_all n ∙ (ap (once_below n) cut ∙ none_at_itself n)), all_unmarked all (omega (arith, over.taken.marks, at_end.counted, at_end.drawn)))
