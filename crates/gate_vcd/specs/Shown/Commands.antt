-- A command of the declarations, whole.
use Rattle.std.specs.Prelude.{◌≡◌, ℕ, Bool, true, false, Vec, Ok, Err, if◌then◌else◌, List, [], ◌∷◌, Option, Some, None, option_map, Result, map}
use Rattle.gate_vcd.specs.declared.fault.StimFault.{StimFault}
use Rattle.gate_vcd.specs.declared.fault.StimCause.TheVariants as causes
use Rattle.gate_vcd.specs.declared.variable.Variable.{Variable as Held}
use Rattle.gate_vcd.specs.Tokens.{Token, is_end}
use Rattle.std.specs.Borrow.{Bor}
use Rattle.std.specs.Cow.{cow_slice_items}
use Rattle.std.specs.declared.alloc.Global.{Global}
use Rattle.gate_vcd.specs.declared.keyword.Keyword.{Keyword}
use Rattle.gate_vcd.specs.declared.keyword.Keyword.TheVariants as words
use Rattle.gate_vcd.specs.Reading.{or_fault, Fails}
use Rattle.gate_vcd.specs.Shown.Words.{texts}
use Rattle.text_numbers.specs.Numbers.{number}
use Rattle.gate_vcd.specs.Declarations.{Variable}

-- the texts before the next `$end`, and the tokens after it
abbrev pub until_end : List Token → Option (List (List ℕ) × List Token)
until_end [] = None
until_end (t ∷ ts) = if is_end t.text then Some ([], ts) else option_map (λ x. (t.text ∷ x.0, x.1)) (until_end ts)

-- the rest of the command that a token opened
abbrev pub rest_of_command : Token → List Token → Result (List (List ℕ) × List Token) StimFault
rest_of_command first ts = or_fault (until_end ts) first causes.UnclosedCommand

-- the command is about what its texts say
abbrev pub has_texts : Keyword → Bool
has_texts words.Timescale = true
has_texts words.Scope = true
has_texts words.Var = true
has_texts words.Upscope = false
has_texts words.EndDefinitions = false
has_texts words.Other = false

-- the rest of a command, with its texts where it is about them
abbrev pub IsBody : Keyword → Token → List Token → List Token → Result (Vec (Bor (List ℕ)) Global) StimFault → Type 0
IsBody keyword first old new (Ok body) = (all : List (List ℕ)) × (rest_of_command first old ≡ Ok (all, new)) × (has_texts keyword ≡ true → texts body.items ≡ all)
IsBody keyword first old new (Err e) = Fails e (rest_of_command first old)

-- a variable, without where it lies in memory
abbrev pub variable : Held → Variable
variable v = record { reference = cow_slice_items v.reference; code = v.code.now; size = number v.size.now; valued = v.valued; counted = v.counted }

abbrev pub variables : List Held → List Variable
variables vs = map variable vs
