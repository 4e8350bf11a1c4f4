-- Places in a text. Lines end by a line feed, and are counted from 1; columns count bytes from 1.
use Rattle.std.specs.Prelude.{◌≡◌, ℕ, ◌+◌, ◌-◌, ◌<◌, ◌≤◌, Bool, not, ◌==◌, if◌then◌else◌, List, length, take, drop, slice_index}
use Rattle.std.specs.List.{count_by, suffix_len, take_while}

abbrev pub is_feed : ℕ → Bool
is_feed byte = byte == 10

abbrev pub is_in_line : ℕ → Bool
is_in_line byte = not (byte == 10)

-- the number of the line in which an offset stands
abbrev pub line_number : List ℕ → ℕ → ℕ
line_number text at = count_by is_feed (take at text) + 1

-- how many bytes of its line stand before an offset
abbrev pub bytes_before : List ℕ → ℕ → ℕ
bytes_before text at = suffix_len is_in_line (take at text)

abbrev pub column : List ℕ → ℕ → ℕ
column text at = bytes_before text at + 1

-- the last so many bytes of a text
abbrev pub last : ℕ → List ℕ → List ℕ
last n text = drop (length text - n) text

-- a line without the carriage return at its end
abbrev pub without_return : List ℕ → List ℕ
without_return line = if slice_index line (length line - 1) == 13 then take (length line - 1) line else line

-- the two parts of the line in which an offset stands: what is before the offset, and what is from there on
abbrev pub before : List ℕ → ℕ → List ℕ
before text at = last (bytes_before text at) (take at text)

abbrev pub behind : List ℕ → ℕ → List ℕ
behind text at = without_return (take_while is_in_line (drop at text))

-- the text has a line of this number
abbrev pub HasLine : List ℕ → ℕ → Type 0
HasLine text number = (0 < number) × (number ≤ count_by is_feed text + 1)

-- an offset stands in the line of this number, if the text has one
abbrev pub IsInLine : List ℕ → ℕ → ℕ → Type 0
IsInLine text number at = HasLine text number → line_number text at ≡ number
