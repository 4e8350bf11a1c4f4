-- The marks and words of a line.
use Rattle.std.specs.Prelude.{ℕ, Bool, true, false, not, ◌&&◌, ◌||◌, ◌==◌, nat_le, List, [], ◌∷◌, ◌++◌, Option, Some, None, is_some, option_to_list, if◌then◌else◌, codes}
use Rattle.std.specs.List.{take_while, list_any, list_all}
use Rattle.std.specs.Str.{bytes_eq}

pub data Symbol : Type 0 where
  Open : Symbol
  Close : Symbol
  Comma : Symbol
  Equals : Symbol
  Word : List ℕ → Symbol

-- a comment goes from the first `#` to the end of the line
abbrev pub before_comment : List ℕ → List ℕ
before_comment line = take_while (λ b. not (b == 35)) line

-- the marks `(`, `)`, `,` and `=`
abbrev pub mark_of : ℕ → Option Symbol
mark_of b = if b == 40 then Some Open else (if b == 41 then Some Close else (if b == 44 then Some Comma else (if b == 61 then Some Equals else None)))

-- what a word is made of: the visible characters of ASCII, without the marks and `#`
abbrev pub is_letter : ℕ → Bool
is_letter b = nat_le 33 b && nat_le b 126 && not (is_some (mark_of b)) && not (b == 35)

abbrev pub begins_with_letter : List ℕ → Bool
begins_with_letter [] = false
begins_with_letter (b ∷ bs) = is_letter b

-- a letter before these symbols: it goes to the front of the first word, if that word follows at once
abbrev pub with_letter : ℕ → Bool → List Symbol → List Symbol
with_letter b true (Word w ∷ ss) = Word (b ∷ w) ∷ ss
with_letter b _ ss = Word (b ∷ []) ∷ ss

-- Each mark, and each longest run of letters. Other bytes part words.
unfoldable pub symbols : List ℕ → List Symbol
symbols [] = []
symbols (b ∷ bs) = if is_letter b then with_letter b (begins_with_letter bs) (symbols bs) else (option_to_list (mark_of b) ++ symbols bs)

-- a letter, a mark, a blank or a tab
abbrev pub is_allowed : ℕ → Bool
is_allowed b = is_letter b || is_some (mark_of b) || b == 32 || b == 9

-- the one word that is no name
abbrev pub is_end : Symbol → Bool
is_end (Word w) = bytes_eq w (codes "$end")
is_end _ = false

-- nothing stands there that no line may have
abbrev pub is_clean : List ℕ → Bool
is_clean code = list_all is_allowed code && not (list_any is_end (symbols code))
