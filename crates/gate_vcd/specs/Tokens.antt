-- A stimulus text as tokens: its longest runs of bytes that are no white space.
use Rattle.std.specs.Prelude.{ℕ, ◌+◌, Bool, true, false, not, ◌&&◌, ◌||◌, nat_le, nat_eq, if◌then◌else◌, List, [], ◌∷◌, codes}
use Rattle.std.specs.Str.{bytes_eq}
use Rattle.gate_vcd.specs.declared.fault.StimFault.{StimFault}
use Rattle.gate_vcd.specs.declared.fault.StimCause.{StimCause}

-- a token, with the offset of its first byte
pub record Token : Type 0 where
  pub at : ℕ
  pub text : List ℕ

-- a tab, a line feed or another of the bytes 9 to 13, or a blank
abbrev pub is_space : ℕ → Bool
is_space b = nat_le 9 b && nat_le b 13 || nat_eq b 32

-- a byte that is no white space joins the token after it, or is a token where none follows at once
abbrev pub with_byte : ℕ → ℕ → Bool → List Token → List Token
with_byte at b true (t ∷ ts) = record { at = at; text = b ∷ t.text } ∷ ts
with_byte at b joined ts = record { at = at; text = b ∷ [] } ∷ ts

abbrev pub begins_with_token : List ℕ → Bool
begins_with_token [] = false
begins_with_token (b ∷ bs) = not (is_space b)

-- the tokens of a text that begins at an offset
unfoldable pub tokens_from : ℕ → List ℕ → List Token
tokens_from at [] = []
tokens_from at (b ∷ bs) = if is_space b then tokens_from (at + 1) bs else with_byte at b (begins_with_token bs) (tokens_from (at + 1) bs)

abbrev pub tokens_of : List ℕ → List Token
tokens_of text = tokens_from 0 text

-- the word that ends a command
abbrev pub is_end : List ℕ → Bool
is_end text = bytes_eq text (codes "$end")

-- a refusal at a token
abbrev pub fault_at : Token → StimCause → StimFault
fault_at t cause = record { at = t.at; cause = cause }
