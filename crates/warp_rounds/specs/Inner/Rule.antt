-- The rule of a round's two shared words, and what each step does to what a seat has in hand.
use Rattle.std.specs.Prelude.{◌≡◌, ℕ, ◌+◌, ◌-◌, ◌<◌, ◌≤◌, ◌^◌, min, ltb, cond, ◌⊎◌, List, [], ◌∷◌, ◌++◌, length, sum_by}
use mathlib.Core.Option.{some}
use lib.ListN.{get_elem?}
use Rattle.atomic_table.specs.Table.{State}
use Rattle.warp_rounds.specs.declared.hand.Hand.{Hand}
use Rattle.warp_rounds.specs.Words.{never, times_in, once_below}

abbrev pub hand_of : ℕ → ℕ → ℕ → List ℕ → ℕ → Hand
hand_of blocks shares marks draws least = record { blocks = blocks; shares = shares; marks = marks; draws = draws; least = least }

-- nothing was drawn or reported
abbrev pub empty_hand : ℕ → ℕ → Hand
empty_hand blocks shares = hand_of blocks shares 0 [] never

-- it stands for no seat any more, or not yet
abbrev pub spent_hand : Hand
spent_hand = empty_hand 0 0

-- a draw that found the number n in word 0: the block n if there is one, else a mark
abbrev pub after_draw : ℕ → Hand → Hand
after_draw n h = cond (ltb n h.blocks)
    (hand_of h.blocks h.shares h.marks (h.draws ++ n ∷ []) h.least)
    (hand_of h.blocks h.shares (h.marks + 1) h.draws h.least)

abbrev pub after_report : ℕ → Hand → Hand
after_report time h = hand_of h.blocks h.shares h.marks h.draws (min h.least time)

-- one share is given away
abbrev pub after_deal : Hand → Hand
after_deal h = hand_of h.blocks (h.shares - 1) h.marks h.draws h.least

-- the second hand is taken in by the first
abbrev pub both_hands : Hand → Hand → Hand
both_hands h other = hand_of other.blocks (h.shares + other.shares) (h.marks + other.marks) (h.draws ++ other.draws) (min h.least other.least)

-- A hand knows the number of blocks, and has no more marks than shares; without a share it is empty, and nothing is asked
-- of its number of blocks.
pub record IsFair (blocks : ℕ) (h : Hand) : Type 0 where
  pub same : 0 < h.shares → h.blocks ≡ blocks
  pub marked : h.marks ≤ h.shares
  pub empty : h.shares ≡ 0 → (h.draws ≡ []) × (h.least ≡ never)

abbrev pub EachHand : List Hand → (Hand → Type 0) → Type 0
EachHand hands P = (i : ℕ) (h : Hand) → get_elem? hands i ≡ some h → P h

-- Word 0 is the number of draws and marks in all hands. The draws are the blocks below it, each once.
pub record IsCount (blocks number : ℕ) (hands : List Hand) : Type 0 where
  pub counted : sum_by (λ h. length h.draws) hands + sum_by (λ h. h.marks) hands ≡ number
  pub drawn : sum_by (λ h. length h.draws) hands ≡ min number blocks
  pub once : (x : ℕ) → sum_by (λ h. times_in x h.draws) hands ≡ once_below x (min number blocks)

-- no time was reported, or some hand has this one
abbrev pub IsReached : ℕ → List Hand → Type 0
IsReached least hands = (least ≡ never) ⊎ ((i : ℕ) × (h : Hand) × (get_elem? hands i ≡ some h) × (h.least ≡ least))

-- Word 1 is the least time in a hand.
pub record IsLeastTime (least : ℕ) (hands : List Hand) : Type 0 where
  pub top : least ≤ never
  pub below : EachHand hands (λ h. least ≤ h.least)
  pub reached : IsReached least hands

-- There are as many shares as seats, in fair hands.
pub record AreShared (blocks seats : ℕ) (hands : List Hand) : Type 0 where
  pub all : sum_by (λ h. h.shares) hands ≡ seats
  pub fair : EachHand hands (IsFair blocks)

-- The rule of the two words, which holds between any two steps. Word 0 can't wrap: there are few blocks and seats.
pub record HoldsRule (blocks seats : ℕ) (s : State (Unit {0}) Hand) : Type 0 where
  pub number : ℕ
  pub least : ℕ
  pub words : s.words ≡ number ∷ least ∷ []
  pub count : IsCount blocks number s.views
  pub earliest : IsLeastTime least s.views
  pub shares : AreShared blocks seats s.views
  pub room : blocks + seats < 2 ^ 63

-- the two words at the end, where the seat of that number has the hand h
pub record IsLast (blocks seats id : ℕ) (h : Hand) (number least : ℕ) : Type 0 where
  pub state : State (Unit {0}) Hand
  pub kept : HoldsRule blocks seats state
  pub there : get_elem? state.views id ≡ some h
  pub number_is : kept.number ≡ number
  pub least_is : kept.least ≡ least
