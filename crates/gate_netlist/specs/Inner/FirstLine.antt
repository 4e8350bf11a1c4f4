-- The first line of a text, and its marks and words.
use Rattle.std.specs.Prelude.{◌≡◌, ℕ, Bool, true, List, [], ◌∷◌, Option, Some, None, ◌==◌, if◌then◌else◌}
use Rattle.std.specs.List.{list_all}
use Rattle.std.specs.Borrow.{Bor}
use Rattle.gate_netlist.specs.Lines.{lines_of}
use Rattle.gate_netlist.specs.Passes.{lines_after}
use Rattle.gate_netlist.specs.Symbols.{Symbol, before_comment, is_allowed, symbols}

abbrev pub first_of : List (List ℕ) → List ℕ
first_of [] = []
first_of (l ∷ ls) = l

abbrev pub others_of : List (List ℕ) → List (List ℕ)
others_of [] = []
others_of (l ∷ ls) = ls

-- what follows an LF in front
abbrev pub after_feed : List ℕ → Option (List ℕ)
after_feed [] = None
after_feed (b ∷ bs) = if b == 10 then Some bs else None

abbrev pub first_line : List ℕ → List ℕ
first_line text = first_of (lines_of text)

-- these follow the first line; where each byte may stand in it, it has these marks and words
pub record IsFirstLine (text : List ℕ) (ss : List Symbol) (is_clean : Bool) (after : Option (Bor (List ℕ))) : Type 0 where
  pub line : List ℕ
  pub lines : lines_of text ≡ line ∷ lines_after after
  pub allowed : list_all is_allowed (before_comment line) ≡ is_clean
  pub said : is_clean ≡ true → ss ≡ symbols (before_comment line)
