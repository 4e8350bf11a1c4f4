-- What contracts see of a text that is read word by word.
use Rattle.std.specs.Prelude.{ℕ, List, map}
use Rattle.std.specs.Borrow.{Bor}
use Rattle.gate_vcd.specs.declared.words.Words.TheInside.{Inside}
use Rattle.gate_vcd.specs.declared.words.Word.{Word}
use Rattle.gate_vcd.specs.Tokens.{Token, tokens_from}

abbrev pub token_of : Word → Token
token_of w = record { at = w.at; text = w.text.now }

-- the tokens that are left
abbrev pub tokens_left : Inside → List Token
tokens_left w = tokens_from w.at w.rest.now

-- what the bytes are that these slices lend
abbrev pub texts : List (Bor (List ℕ)) → List (List ℕ)
texts parts = map (λ (part : Bor (List ℕ)). part.now) parts
