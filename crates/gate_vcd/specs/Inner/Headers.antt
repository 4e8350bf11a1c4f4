-- What a reader of declarations keeps of a header, and what it has read.
use Rattle.std.specs.Prelude.{◌≡◌, ℕ, Bool, if◌then◌else◌, List, Option, None, Result, Ok, Err}
use Rattle.gate_vcd.specs.declared.fault.StimFault.{StimFault}
use Rattle.gate_vcd.specs.declared.declarations.Declared.{Declared}
use Rattle.gate_vcd.specs.Tokens.{Token}
use Rattle.gate_vcd.specs.Reading.{Fails}
use Rattle.gate_vcd.specs.Declarations.{Header, declaring}
use Rattle.gate_vcd.specs.Shown.Headers.{IsHeader}

-- What is kept after a command, and whether the command ended the declarations: the reading of the tokens
-- from it on goes on from there.
abbrev pub GoesOn : Declared → List Token → Result Bool StimFault → Option (List ℕ) → Result (Header × List Token) StimFault → Type 0
GoesOn new rest (Ok ended) asked reading = (h : Header) × (reading ≡ (if ended then Ok (h, rest) else declaring asked h None rest)) × IsHeader new h
GoesOn new rest (Err e) asked reading = Fails e reading

-- what is kept in the end, and the tokens that are left
abbrev pub AreRead : List Token → Result Declared StimFault → Result (Header × List Token) StimFault → Type 0
AreRead rest (Ok d) reading = (h : Header) × (reading ≡ Ok (h, rest)) × IsHeader d h
AreRead rest (Err e) reading = Fails e reading
