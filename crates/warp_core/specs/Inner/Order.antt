-- Which numbers of an order are met.
use Rattle.std.specs.Prelude.{◌≡◌, ℕ, ◌<◌, ◌==◌, Bool, false, if◌then◌else◌, List, get_or}
use Rattle.std.specs.List.{All, count_by}

-- each number of the order is below a count, and stands in it once where it is marked, and else not at all
pub record IsMet (count : ℕ) (order : List ℕ) (met : List Bool) : Type 0 where
  pub within : All (λ b. b < count) order
  pub counts : (b : ℕ) → count_by (λ x. x == b) order ≡ (if get_or met b false then 1 else 0)
