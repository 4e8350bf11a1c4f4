-- The lines of a text.
use Rattle.std.specs.Prelude.{ℕ, Bool, false, ◌==◌, ◌&&◌, List, [], ◌∷◌, if◌then◌else◌}

abbrev pub begins_with_feed : List ℕ → Bool
begins_with_feed [] = false
begins_with_feed (b ∷ bs) = b == 10

-- a byte more at the front of the first line
abbrev pub at_front : ℕ → List (List ℕ) → List (List ℕ)
at_front b [] = (b ∷ []) ∷ []
at_front b (l ∷ ls) = (b ∷ l) ∷ ls

-- A line ends by LF or CRLF, and the last may have no end. A CR that no LF follows is a byte of its line.
unfoldable pub lines_of : List ℕ → List (List ℕ)
lines_of [] = [] ∷ []
lines_of (b ∷ bs) = if b == 10 then [] ∷ lines_of bs else (if (b == 13) && begins_with_feed bs then lines_of bs else at_front b (lines_of bs))
