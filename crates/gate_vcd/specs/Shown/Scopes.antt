-- How far the text of a scope is along the one that is asked for.
use Rattle.std.specs.Prelude.{◌≡◌, ℕ, nat_eq, List, [], map, length, if◌then◌else◌, Option, Some, None, unwrap_or}
use Rattle.std.specs.List.{starts_with}

-- where a text ends in the one that is asked for, which begins with it
abbrev pub along : List ℕ → List ℕ → Option ℕ
along asked path = if starts_with nat_eq asked path then Some (length path) else None

-- these are the ends of the open scopes
abbrev pub AreAlong : Option (List ℕ) → List (Option ℕ) → List (List ℕ) → Type 0
AreAlong asked ends scopes = ends ≡ map (along (unwrap_or asked [])) scopes
