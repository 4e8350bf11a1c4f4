-- How far the text of a scope is along the one that is asked for.
use Rattle.std.specs.Prelude.{ℕ, ◌+◌, Bool, false, ◌&&◌, nat_lt, nat_eq, List, length, drop, get_or, if◌then◌else◌, Option, Some, None}
use Rattle.std.specs.List.{starts_with}

-- where a name ends in a text from a place on, if it stands there
abbrev pub end_in : List ℕ → ℕ → List ℕ → Option ℕ
end_in asked from name = if starts_with nat_eq (drop from asked) name then Some (from + length name) else None

-- where the path of a new scope ends: in the scope with this end, or in none
abbrev pub next_end : List ℕ → Option (Option ℕ) → List ℕ → Option ℕ
next_end asked None name = end_in asked 0 name
next_end asked (Some None) name = None
next_end asked (Some (Some at)) name = if nat_lt at (length asked) && nat_eq (get_or asked at 0) 46 then end_in asked (at + 1) name else None

-- whether the innermost scope ends where the one that is asked for does
abbrev pub is_asked : List ℕ → Option (Option ℕ) → Bool
is_asked asked None = nat_eq (length asked) 0
is_asked asked (Some None) = false
is_asked asked (Some (Some at)) = nat_eq at (length asked)
