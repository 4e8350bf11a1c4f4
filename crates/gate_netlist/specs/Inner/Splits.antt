-- What symbols begin with.
use Rattle.std.specs.Prelude.{ℕ, Bool, true, false, List, [], ◌∷◌, Option, Some, None}
use Rattle.gate_netlist.specs.Symbols.{Symbol, Open, Close, Comma, Equals, Word}

-- a word, and what follows it
abbrev pub word_first : List Symbol → Option (List ℕ × List Symbol)
word_first (Word w ∷ ss) = Some (w, ss)
word_first _ = None

-- what follows `(` or `=`
abbrev pub after_open : List Symbol → Option (List Symbol)
after_open (Open ∷ ss) = Some ss
after_open _ = None

abbrev pub after_equals : List Symbol → Option (List Symbol)
after_equals (Equals ∷ ss) = Some ss
after_equals _ = None

-- `)` and no more
abbrev pub closes : List Symbol → Bool
closes (Close ∷ []) = true
closes _ = false

abbrev pub has_comma : List Symbol → Bool
has_comma (Comma ∷ ss) = true
has_comma _ = false
