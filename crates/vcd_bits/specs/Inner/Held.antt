-- What a reader of a dump's declarations keeps, and what it has read.
use Rattle.std.specs.Prelude.{◌≡◌, ℕ, ◌-◌, ◌++◌, ◌∷◌, Bool, if◌then◌else◌, List, [], length, take, get_or, None, Result, Ok, Err}
use Rattle.gate_vcd.specs.declared.fault.StimFault.{StimFault}
use Rattle.gate_vcd.specs.declared.keyword.Keyword.{Keyword}
use Rattle.gate_vcd.specs.declared.keyword.Keyword.TheVariants as words
use Rattle.gate_vcd.specs.Faults.{out_of_memory}
use Rattle.gate_vcd.specs.Tokens.{Token}
use Rattle.gate_vcd.specs.Reading.{Fails}
use Rattle.gate_vcd.specs.Declarations.{inner_path}
use Rattle.gate_vcd.specs.Shown.Headers.{IsHeader, asked_of}
use Rattle.vcd_bits.specs.declared.scoped.Scoped.{Scoped as Held}
use Rattle.vcd_bits.specs.Scopes.{Scoped, declaring, path_noted}
use Rattle.vcd_bits.specs.Inner.Paths.{IsOpen}
use Rattle.vcd_bits.specs.Shown.Held.{texts_in}

-- what is kept are these declarations, of all scopes
pub record IsScoped (held : Held) (s : Scoped) : Type 0 where
  pub asked : asked_of held.declared ≡ None
  pub header : IsHeader held.declared s.header
  pub scopes : IsOpen held.open s.header.scopes
  pub paths : texts_in held.paths.items ≡ s.paths

-- the scopes that a command leaves open
abbrev pub scopes_after : Keyword → List (List ℕ) → List (List ℕ) → List (List ℕ)
scopes_after words.Scope body scopes = scopes ++ inner_path scopes (get_or body 1 []) ∷ []
scopes_after words.Upscope body scopes = take (length scopes - 1) scopes
scopes_after words.Timescale body scopes = scopes
scopes_after words.Var body scopes = scopes
scopes_after words.EndDefinitions body scopes = scopes
scopes_after words.Other body scopes = scopes

-- the scopes are followed, and a variable's path is noted
abbrev pub Notes : Keyword → List (List ℕ) → Held → Held → Result (Unit {0}) StimFault → Type 0
Notes keyword body old new (Ok _) = (scopes : List (List ℕ)) → IsOpen old.open scopes → IsOpen new.open (scopes_after keyword body scopes) × (texts_in new.paths.items ≡ texts_in old.paths.items ++ path_noted keyword scopes)
Notes keyword body old new (Err e) = e ≡ out_of_memory

-- What is kept after a command, and whether the command ended the declarations: the reading of the tokens from it on
-- goes on from there.
abbrev pub GoesOn : Held → List Token → Result Bool StimFault → Result (Scoped × List Token) StimFault → Type 0
GoesOn new rest (Ok ended) reading = (s : Scoped) × (reading ≡ (if ended then Ok (s, rest) else declaring s None rest)) × IsScoped new s
GoesOn new rest (Err e) reading = Fails e reading

-- the declarations that were read, and the tokens after them
abbrev pub AreRead : List Token → Result Held StimFault → Result (Scoped × List Token) StimFault → Type 0
AreRead rest (Ok held) reading = (s : Scoped) × (reading ≡ Ok (s, rest)) × IsScoped held s
AreRead rest (Err e) reading = Fails e reading
