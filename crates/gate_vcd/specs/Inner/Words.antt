-- What contracts see of a text that is read word by word.
use Rattle.std.specs.Prelude.{ℕ, ◌+◌, ◌<◌, ◌^◌, List, length, Option, option_map}
use Rattle.std.specs.Borrow.{Bor}
use Rattle.gate_vcd.specs.declared.words.Words.TheInside.{Inside}

-- no offset passes the machine's numbers
abbrev pub IsWithin : Inside → Type 0
IsWithin w = w.at + length w.rest.now < 2 ^ 64

-- bytes, without where they lie in memory
abbrev pub bytes_of : Option (Bor (List ℕ)) → Option (List ℕ)
bytes_of text = option_map (λ (bytes : Bor (List ℕ)). bytes.now) text
