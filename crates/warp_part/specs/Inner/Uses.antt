-- What the gates of a block use, as it is noted, and two ascending lists that are put into one.
use Rattle.std.specs.Prelude.{◌≡◌, ℕ, ◌<◌, ◌≤◌, Bool, true, false, ◌||◌, List, map, take, length, get_or}
use Rattle.std.specs.List.{All}
use Rattle.std.specs.List.Sorted.{IsStrictlyIncreasing}
use Rattle.gate_netlist.specs.Cut.{Ownership}
use Rattle.warp_part.specs.Portion.{of_net}
use Rattle.warp_part.specs.PartOf.{is_own}
use Rattle.warp_part.specs.Inner.Building.{has}

-- the net is noted: it is marked among the own nets, or it stands among the others
abbrev pub noted : List ℕ → List Bool → List ℕ → ℕ → Bool
noted own marks others n = of_net own marks false n || has others n

-- there is a mark for each own net, and the others are none of these
pub record AreNotes (cut : Ownership) (b : ℕ) (own : List ℕ) (marks : List Bool) (others : List ℕ) : Type 0 where
  pub many : length marks ≡ length own
  pub apart : (n : ℕ) → has others n ≡ true → is_own cut b n ≡ false

-- The first so many of two ascending lists, in one that ascends.
pub record AreJoined (first second : List ℕ) (i j : ℕ) (nets : List ℕ) : Type 0 where
  pub rising : IsStrictlyIncreasing nets
  pub same : (n : ℕ) → has nets n ≡ (has (take i first) n || has (take j second) n)
  pub below_first : i < length first → All (λ n. n < get_or first i 0) nets
  pub below_second : j < length second → All (λ n. n < get_or second j 0) nets

-- The first so many own nets and others in one list, each with whether it is noted.
pub record AreMerged (own : List ℕ) (marks : List Bool) (others : List ℕ) (i j : ℕ) (nets : List ℕ) (used : List Bool) : Type 0 where
  pub within_own : i ≤ length own
  pub within_others : j ≤ length others
  pub joined : AreJoined own others i j nets
  pub told : used ≡ map (noted own marks others) nets

-- two ascending lists without a common number, and a mark for each number of the first
pub record AreApart (own : List ℕ) (marks : List Bool) (others : List ℕ) : Type 0 where
  pub own_rises : IsStrictlyIncreasing own
  pub others_rise : IsStrictlyIncreasing others
  pub many : length marks ≡ length own
  pub apart : (n : ℕ) → has others n ≡ true → has own n ≡ false
