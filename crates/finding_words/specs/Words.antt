-- Words and lines of a text.
use Rattle.std.specs.Prelude.{ℕ, ◌+◌, ◌-◌, ◌≤◌, Bool, not, ◌&&◌, ◌||◌, ◌==◌, nat_le, nat_eq, if◌then◌else◌, List, length, take, drop, slice_index}
use Rattle.std.specs.List.{prefix_len}
use Rattle.text_places.specs.Places.{without_return}
use Rattle.finding_words.specs.declared.words.Word.{Word}

-- a tab, a line feed or another of the bytes 9 to 13, or a blank
abbrev pub is_space : ℕ → Bool
is_space b = nat_le 9 b && nat_le b 13 || nat_eq b 32

-- how many bytes of white space stand first in a text
abbrev pub space_len : List ℕ → ℕ
space_len text = prefix_len is_space text

-- how many other bytes do
abbrev pub word_len : List ℕ → ℕ
word_len text = prefix_len (λ b. not (is_space b)) text

-- what stands from an offset on up to white space
abbrev pub word_text : (at : ℕ) → List ℕ → List ℕ
word_text at text = take (word_len (drop at text)) (drop at text)

-- a line without its line feed, and without the carriage return before that
abbrev pub without_end : List ℕ → List ℕ
without_end line = if slice_index line (length line - 1) == 10 then without_return (take (length line - 1) line) else line

-- a word lies in a text of so many bytes
abbrev pub IsWithin : ℕ → Word → Type 0
IsWithin size word = word.at + length word.text.now ≤ size
