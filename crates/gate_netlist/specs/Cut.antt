-- A cut of a circuit into blocks.
use Rattle.std.specs.Prelude.{ℕ, ◌<◌, ◌≤◌, Bool, false, nat_eq, List, length, get_or, Option, Some, None, IfSome}
use Rattle.std.specs.List.{filter, range_with_len}

-- how many blocks there are, and for each net its owner, which an input hasn't
pub record Ownership : Type 0 where
  pub blocks : ℕ
  pub owners : List (Option ℕ)

-- the owner of a net; none past the nets
abbrev pub owner_of : Ownership → ℕ → Option ℕ
owner_of cut n = get_or cut.owners n None

-- the owner is this block
abbrev pub is_owner : ℕ → Option ℕ → Bool
is_owner b None = false
is_owner b (Some owner) = nat_eq owner b

-- of the first so many nets those that the block owns, ascending
abbrev pub own_among : List (Option ℕ) → ℕ → ℕ → List ℕ
own_among owners count b = filter (λ n. is_owner b (get_or owners n None)) (range_with_len 0 count)

-- a block's own nets, ascending
abbrev pub own_nets : Ownership → ℕ → List ℕ
own_nets cut b = own_among cut.owners (length cut.owners) b

-- there are 1 to 1024 blocks, and each owner is one of them
pub record IsOwnership (cut : Ownership) : Type 0 where
  pub some : 1 ≤ cut.blocks
  pub within : cut.blocks ≤ 1024
  pub owned : (n : ℕ) → IfSome (owner_of cut n) (λ block. block < cut.blocks)
