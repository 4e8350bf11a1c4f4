-- The lines of a text, and the line that parts two joined texts.
use Rattle.std.specs.Prelude.{ℕ, List, [], ◌∷◌, ◌++◌, Bool, ◌==◌, ◌||◌, if◌then◌else◌, codes}
use Rattle.std.specs.List.{concat}
use Rattle.std.specs.Str.{bytes_eq}

abbrev pub with_front : ℕ → List (List ℕ) → List (List ℕ)
with_front byte [] = (byte ∷ []) ∷ []
with_front byte (line ∷ more) = (byte ∷ line) ∷ more

-- the lines of a text, each with its end
unfoldable pub lines : List ℕ → List (List ℕ)
lines [] = []
lines (byte ∷ text) = if byte == 10 then (byte ∷ []) ∷ lines text else with_front byte (lines text)

-- two percent signs alone on a line that LF, CRLF or the text's end ends
abbrev pub is_parting : List ℕ → Bool
is_parting line = bytes_eq line (codes "%%") || bytes_eq line (codes "%%" ++ 10 ∷ []) || bytes_eq line (codes "%%" ++ 13 ∷ 10 ∷ [])

-- what stands before the first parting line: all where there is none
unfoldable pub before_parting : List (List ℕ) → List ℕ
before_parting [] = []
before_parting (line ∷ more) = if is_parting line then [] else line ++ before_parting more

-- what stands after the first parting line: nothing where there is none
unfoldable pub after_parting : List (List ℕ) → List ℕ
after_parting [] = []
after_parting (line ∷ more) = if is_parting line then concat more else after_parting more
