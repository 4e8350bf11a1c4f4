-- How times lie in a tournament.
use Rattle.std.specs.Prelude.{◌≡◌, ◌≢◌, ℕ, ◌+◌, ◌*◌, ◌/◌, ◌^◌, ◌<◌, ◌≤◌, List, length, get_or, slice_index, min}
use Rattle.std.specs.Int.{IsPowerOfTwo}
use Rattle.warp_stores.specs.declared.least.TheConstants.{NEVER}
use Rattle.warp_stores.specs.declared.least.Seat.{Seat}
use Rattle.warp_stores.specs.Shown.Least.{leaves}

-- a node has the lesser of two others
abbrev pub IsWon : List ℕ → ℕ → Type 0
IsWon nodes i = get_or nodes i 0 ≡ min (get_or nodes (2 * i) 0) (get_or nodes (2 * i + 1) 0)

-- each node of the first half, but for the first, has the lesser of the two that it stands for
pub record IsTournament (nodes : List ℕ) : Type 0 where
  pub halves : length nodes ≡ 2 * (length nodes / 2)
  pub won : (i : ℕ) → 0 < i → i < length nodes / 2 → IsWon nodes i

-- the same but for one of them
pub record IsTournamentBut (hole : ℕ) (nodes : List ℕ) : Type 0 where
  pub halves : length nodes ≡ 2 * (length nodes / 2)
  pub won : (i : ℕ) → 0 < i → i ≢ hole → i < length nodes / 2 → IsWon nodes i

-- so many places, and the first power of two that isn't less has room for them; those that are over have no time
pub record HasPlaces (count : ℕ) (nodes : List ℕ) : Type 0 where
  pub tournament : IsTournament nodes
  pub power : IsPowerOfTwo (length nodes / 2)
  pub within : count ≤ length nodes / 2
  pub over : (k : ℕ) → count ≤ k → k < length nodes / 2 → get_or (leaves nodes) k 0 ≡ NEVER

-- a node stands for two to a power of the last nodes, from one of them on
pub record Covers (nodes : List ℕ) (level left node leaf : ℕ) : Type 0 where
  pub many : length nodes ≡ 2 ^ left * 2 ^ level
  pub some : 0 < node
  pub within : node < 2 ^ left
  pub first : leaf ≡ node * 2 ^ level

-- a node, and which last nodes it stands for
pub record IsSeat (nodes : List ℕ) (seat : Seat) : Type 0 where
  pub level : ℕ
  pub left : ℕ
  pub width : seat.width ≡ 2 ^ level
  pub covers : Covers nodes level left seat.node seat.leaf

-- no node between two has a time that is no later than one
abbrev pub AreLater : ℕ → List ℕ → ℕ → ℕ → Type 0
AreLater time nodes from to = (k : ℕ) → from ≤ k → k < to → time < slice_index nodes k

-- the part of a seat in which the first time stands that is no later than one
pub record IsPart (time : ℕ) (nodes : List ℕ) (seat part : Seat) : Type 0 where
  pub is : IsSeat nodes part
  pub width : part.width < seat.width
  pub from : seat.leaf ≤ part.leaf
  pub to : part.leaf + part.width ≤ seat.leaf + seat.width
  pub found : slice_index nodes part.node ≤ time
  pub passed : AreLater time nodes seat.leaf part.leaf
