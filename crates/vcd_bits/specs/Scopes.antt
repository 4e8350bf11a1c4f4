-- The declarations of a dump: those of a stimulus, and of each variable the scopes that it stands in.
use Rattle.std.specs.Prelude.{ℕ, List, [], ◌∷◌, ◌++◌, Option, Some, None, if◌then◌else◌, Result, Ok, Err}
use Rattle.gate_vcd.specs.declared.fault.StimFault.{StimFault}
use Rattle.gate_vcd.specs.declared.fault.StimCause.TheVariants as causes
use Rattle.gate_vcd.specs.declared.keyword.Keyword.{Keyword}
use Rattle.gate_vcd.specs.declared.keyword.Keyword.TheVariants as words
use Rattle.gate_vcd.specs.Tokens.{Token, is_end, fault_at}
use Rattle.gate_netlist.specs.Bench.{◌>>=◌}
use Rattle.gate_vcd.specs.Declarations.{Header, Command, declared, ends_declarations, keyword_of, no_header, opens_command, path_of}

-- what the declarations said so far, and of each variable the names of its scopes, joined by dots
pub record Scoped : Type 0 where
  pub header : Header
  pub paths : List (List ℕ)

-- a variable stands in the scopes that are open
abbrev pub path_noted : Keyword → List (List ℕ) → List (List ℕ)
path_noted words.Var scopes = path_of scopes ∷ []
path_noted words.Timescale scopes = []
path_noted words.Scope scopes = []
path_noted words.Upscope scopes = []
path_noted words.EndDefinitions scopes = []
path_noted words.Other scopes = []

-- what a command makes of the declarations before it
abbrev pub after_command : Scoped → Command → Keyword → Result Scoped StimFault
after_command s c keyword = declared None s.header c keyword >>= λ h. Ok (record { header = h; paths = s.paths ++ path_noted keyword s.header.scopes })

-- The declarations of these tokens after others, in a command or between two: all of them, and the tokens after them.
unfoldable pub declaring : Scoped → Option Command → List Token → Result (Scoped × List Token) StimFault
declaring s None [] = Ok (s, [])
declaring s (Some c) [] = Err (fault_at c.first causes.UnclosedCommand)
declaring s None (t ∷ ts) =
    if opens_command t.text then declaring s (Some (record { first = t; body = [] })) ts
    else Err (fault_at t causes.BadToken)
declaring s (Some c) (t ∷ ts) =
    if is_end t.text then (after_command s c (keyword_of c.first.text) >>= λ next. if ends_declarations (keyword_of c.first.text) then Ok (next, ts) else declaring next None ts)
    else declaring s (Some (record c { body = c.body ++ t.text ∷ [] })) ts

abbrev pub nothing_declared : Scoped
nothing_declared = record { header = no_header; paths = [] }
