-- The codes of a text, in an array by the numbers that they spell, and in a map.
use Rattle.std.specs.Prelude.{ℕ, ◌+◌, ◌-◌, ◌*◌, Bool, ◌&&◌, nat_le, nat_lt, if◌then◌else◌, List, [], ◌∷◌, length, get_or, Option, Some, None}
use Rattle.std.specs.Borrow.{Bor}
use Rattle.std.specs.Str.{bytes_eq}
use Rattle.indexmap.specs.IndexMap.{get_by}
use Rattle.gate_vcd.specs.declared.table.CodeTable.{CodeTable}
use Rattle.gate_vcd.specs.Declarations.{is_code}

-- the number of a code in base 94, its first byte being the last digit; the digits go from 1 to 94
abbrev pub spelled : List ℕ → ℕ
spelled [] = 0
spelled (b ∷ bs) = (b - 32) + 94 * spelled bs

-- a code whose number may stand in the array
abbrev pub is_short : ℕ → List ℕ → Bool
is_short room code = (nat_le (length code) 4 && is_code code) && nat_lt (spelled code) room

-- where a code stands in an array with so much room, if it does
abbrev pub short_place : ℕ → List ℕ → Option ℕ
short_place room code = if is_short room code then Some (spelled code) else None

-- what stands in the array at a place, or in the map where there is no place
abbrev pub found_at : List (Option (Option ℕ)) → Option (Option ℕ) → Option ℕ → Option (Option ℕ)
found_at short long None = long
found_at short long (Some place) = get_or short place None

-- what is kept of a code; nothing where it isn't known
unfoldable pub found_in : CodeTable → List ℕ → Option (Option ℕ)
found_in table code = found_at table.short.items (get_by (λ (k : Bor (List ℕ)). bytes_eq code k.now) table.long) (short_place (length table.short.items) code)
