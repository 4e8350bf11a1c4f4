-- What is told of a place in a text.
use Rattle.std.specs.Prelude.{◌≡◌, ℕ, ◌+◌, Bool, true, ◌&&◌, ◌||◌, nat_lt, nat_le, if◌then◌else◌, List, [], ◌∷◌, ◌++◌, take, codes, decimal, string_bytes}
use Rattle.text_places.specs.declared.told.Shown.{Shown}
use Rattle.std.specs.List.{list_all}
use Rattle.text_places.specs.Places.{line_number, column, before, behind, last}

-- a letter, digit or sign of ASCII, or a blank
abbrev pub is_plain : ℕ → Bool
is_plain byte = nat_le 32 byte && nat_lt byte 127

-- how bytes are shown: plain ones as they are
abbrev pub IsShown : List ℕ → List ℕ → Type 0
IsShown bytes shown = list_all is_plain bytes ≡ true → shown ≡ bytes

-- whether a byte of UTF-8 begins a letter
abbrev pub begins_letter : ℕ → Bool
begins_letter byte = nat_lt byte 128 || nat_le 192 byte

-- a mark below each letter of a text
unfoldable pub below : ℕ → List ℕ → List ℕ
below mark [] = []
below mark (byte ∷ text) = if begins_letter byte then mark ∷ below mark text else below mark text

-- at least one mark
abbrev pub marks_below : List ℕ → List ℕ
marks_below [] = 94 ∷ []
marks_below (byte ∷ meant) = below 94 (byte ∷ meant)

-- what is shown of a place: its line and column, the line before it, from it on, and what is meant of that
abbrev pub place_line : (name : List ℕ) (shown : Shown) (cause : List ℕ) → List ℕ
place_line name shown cause = name ++ codes ":" ++ decimal shown.line ++ codes ":" ++ decimal shown.column ++ codes ": " ++ cause ++ 10 ∷ []

abbrev pub text_line : Shown → List ℕ
text_line shown = codes "  " ++ decimal shown.line ++ codes " | " ++ string_bytes shown.before ++ string_bytes shown.behind ++ 10 ∷ []

-- the marks stand below what is meant
abbrev pub mark_line : Shown → List ℕ
mark_line shown =
    codes "  " ++ below 32 (decimal shown.line) ++ codes " | " ++ below 32 (string_bytes shown.before) ++ marks_below (string_bytes shown.meant) ++ 10 ∷ []

abbrev pub help_line : List ℕ → List ℕ
help_line [] = []
help_line (byte ∷ help) = codes "  help: " ++ (byte ∷ help) ++ 10 ∷ []

abbrev pub told_text : (name : List ℕ) (shown : Shown) (cause help : List ℕ) → List ℕ
told_text name shown cause help = place_line name shown cause ++ text_line shown ++ mark_line shown ++ help_line help

-- how many bytes of a line are shown, at most, on either side of the place
abbrev pub most_shown : ℕ
most_shown = 60

-- an offset of a text that stands behind so many lines of its file, and how many bytes from there on are meant
pub record IsPlaceOf (text : List ℕ) (lines_before at length : ℕ) (shown : Shown) : Type 0 where
  pub in_line : shown.line ≡ lines_before + line_number text at
  pub in_column : shown.column ≡ column text at
  pub shows_before : IsShown (last most_shown (before text at)) (string_bytes shown.before)
  pub shows_behind : IsShown (take most_shown (behind text at)) (string_bytes shown.behind)
  pub shows_meant : IsShown (take length (take most_shown (behind text at))) (string_bytes shown.meant)

-- what is told of it
pub record IsTold (name text : List ℕ) (lines_before at length : ℕ) (cause help told : List ℕ) : Type 0 where
  pub shown : Shown
  pub is_place : IsPlaceOf text lines_before at length shown
  pub is : told ≡ told_text name shown cause help
