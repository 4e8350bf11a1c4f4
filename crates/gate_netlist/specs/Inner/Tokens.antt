-- Tokens without where they lie in memory.
use Rattle.std.specs.Prelude.{ℕ, Bool, false, List, [], ◌∷◌, map, take, drop, Option, Some, None, if◌then◌else◌}
use Rattle.std.specs.List.{list_all, prefix_len}
use Rattle.gate_netlist.specs.Symbols.{Symbol, Open, Close, Comma, Equals, Word, before_comment, is_allowed}
use Rattle.gate_netlist.specs.declared.token.Token.{Token}
use Rattle.gate_netlist.specs.declared.token.Token.TheVariants as token

abbrev pub symbol_of : Token → Symbol
symbol_of token.Open = Open
symbol_of token.Close = Close
symbol_of token.Comma = Comma
symbol_of token.Equals = Equals
symbol_of (token.Word w) = Word w.now

abbrev pub symbols_of : List Token → List Symbol
symbols_of ts = map symbol_of ts

-- the bytes in front that may stand outside a comment, and what follows them
abbrev pub code_of : List ℕ → List ℕ
code_of bs = take (prefix_len is_allowed bs) bs

abbrev pub after_code : List ℕ → List ℕ
after_code bs = drop (prefix_len is_allowed bs) bs

abbrev pub begins_with_code : List ℕ → Bool
begins_with_code [] = false
begins_with_code (b ∷ bs) = is_allowed b

-- what stands before a comment, where nothing stands there that no line may have
abbrev pub allowed_code : List ℕ → Option (List ℕ)
allowed_code line = if list_all is_allowed (before_comment line) then Some (before_comment line) else None
