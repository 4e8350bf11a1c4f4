-- The declarations of a stimulus: its timescale, and its variables with the scopes that they stand in.
use Rattle.std.specs.Prelude.{ℕ, ◌-◌, Bool, true, false, not, ◌&&◌, ◌||◌, nat_eq, nat_le, if◌then◌else◌, List, [], ◌∷◌, ◌++◌, length, take, drop, get_or, codes, Option, Some, None, option_map, Result, Ok, Err}
use Rattle.std.specs.List.{list_all, concat, starts_with}
use Rattle.std.specs.Str.{bytes_eq}
use Rattle.gate_vcd.specs.declared.fault.StimFault.{StimFault}
use Rattle.gate_vcd.specs.declared.fault.StimCause.TheVariants as causes
use Rattle.gate_stimulus.specs.declared.timescale.Timescale.{Timescale}
use Rattle.gate_stimulus.specs.declared.timescale.Unit.{Unit}
use Rattle.gate_stimulus.specs.declared.timescale.Unit.TheVariants as units
use Rattle.gate_vcd.specs.declared.keyword.Keyword.{Keyword}
use Rattle.gate_vcd.specs.declared.keyword.Keyword.TheVariants as words
use Rattle.gate_stimulus.specs.Timescales.{unit_name, default_timescale}
use Rattle.gate_vcd.specs.Tokens.{Token, is_end, fault_at}
use Rattle.gate_netlist.specs.Bench.{◌>>=◌}
use Rattle.gate_vcd.specs.Reading.{or_fault}
use Rattle.text_numbers.specs.Numbers.{is_numeral, number}

-- A variable: its reference text, its code and its size; whether its changes have bits, and whether it counts.
pub record Variable : Type 0 where
  pub reference : List ℕ
  pub code : List ℕ
  pub size : ℕ
  pub valued : Bool
  pub counted : Bool

-- What the declarations said so far. Of each open scope, from the outermost on, the names of the scopes
-- down to it, joined by dots.
pub record Header : Type 0 where
  pub timescale : Timescale
  pub scopes : List (List ℕ)
  pub variables : List Variable

-- a command that is open: its own token, and the texts of those after it so far
pub record Command : Type 0 where
  pub first : Token
  pub body : List (List ℕ)

-- what a declaration is about
abbrev pub keyword_of : List ℕ → Keyword
keyword_of text =
    if bytes_eq text (codes "$timescale") then words.Timescale
    else if bytes_eq text (codes "$scope") then words.Scope
    else if bytes_eq text (codes "$upscope") then words.Upscope
    else if bytes_eq text (codes "$var") then words.Var
    else if bytes_eq text (codes "$enddefinitions") then words.EndDefinitions
    else words.Other

abbrev pub unit_of : List ℕ → Option Unit
unit_of text =
    if bytes_eq text (unit_name units.S) then Some units.S
    else if bytes_eq text (unit_name units.Ms) then Some units.Ms
    else if bytes_eq text (unit_name units.Us) then Some units.Us
    else if bytes_eq text (unit_name units.Ns) then Some units.Ns
    else if bytes_eq text (unit_name units.Ps) then Some units.Ps
    else if bytes_eq text (unit_name units.Fs) then Some units.Fs
    else None

-- so many of the unit that the text names
abbrev pub scaled : ℕ → List ℕ → Option Timescale
scaled number text = option_map (λ unit. record { number = number; unit = unit }) (unit_of text)

-- 1, 10 or 100 and a unit
unfoldable pub timescale_of : List ℕ → Option Timescale
timescale_of text =
    if starts_with nat_eq text (codes "100") then scaled 100 (drop 3 text)
    else if starts_with nat_eq text (codes "10") then scaled 10 (drop 2 text)
    else if starts_with nat_eq text (codes "1") then scaled 1 (drop 1 text)
    else None

-- the names of all open scopes, joined by dots
abbrev pub path_of : List (List ℕ) → List ℕ
path_of scopes = get_or scopes (length scopes - 1) []

-- the same in a further scope
abbrev pub inner_path : List (List ℕ) → List ℕ → List ℕ
inner_path [] name = name
inner_path (s ∷ ss) name = path_of (s ∷ ss) ++ 46 ∷ name

-- without a scope that is asked for each variable counts, else those whose scopes are that text
abbrev pub is_counted : Option (List ℕ) → List (List ℕ) → Bool
is_counted None scopes = true
is_counted (Some asked) scopes = bytes_eq (path_of scopes) asked

-- a type whose changes have no bits
abbrev pub is_unvalued : List ℕ → Bool
is_unvalued kind = bytes_eq kind (codes "real") || bytes_eq kind (codes "realtime") || bytes_eq kind (codes "string")

-- a code is made of visible bytes
abbrev pub is_code : List ℕ → Bool
is_code text = list_all (λ b. nat_le 33 b && nat_le b 126) text

-- a name is escaped by a backslash before it
abbrev pub unescaped : List ℕ → List ℕ
unescaped text = if starts_with nat_eq text (codes "\\") then drop 1 text else text

-- a variable: type, size, code, and one or more tokens of reference
abbrev pub variable_of : Bool → List (List ℕ) → Option Variable
variable_of counted (kind ∷ size ∷ code ∷ part ∷ parts) =
    if is_numeral size && is_code code
    then Some (record { reference = unescaped (concat (part ∷ parts)); code = code; size = number size; valued = not (is_unvalued kind); counted = counted })
    else None
variable_of counted body = None

-- what a command makes of the declarations before it
abbrev pub declared : Option (List ℕ) → Header → Command → Keyword → Result Header StimFault
declared asked h c words.Timescale = or_fault (timescale_of (concat c.body)) c.first causes.BadTimescale >>= λ timescale. Ok (record h { timescale = timescale })
declared asked h c words.Scope = Ok (record h { scopes = h.scopes ++ inner_path h.scopes (get_or c.body 1 []) ∷ [] })
declared asked h c words.Upscope = Ok (record h { scopes = take (length h.scopes - 1) h.scopes })
declared asked h c words.Var = or_fault (variable_of (is_counted asked h.scopes) c.body) c.first causes.BadVar >>= λ variable. Ok (record h { variables = h.variables ++ variable ∷ [] })
declared asked h c words.EndDefinitions = Ok h
declared asked h c words.Other = Ok h

abbrev pub ends_declarations : Keyword → Bool
ends_declarations words.EndDefinitions = true
ends_declarations _ = false

-- a command begins with `$`
abbrev pub opens_command : List ℕ → Bool
opens_command text = starts_with nat_eq text (codes "$") && not (is_end text)

-- The declarations of these tokens after a header, in a command or between two: the whole header, and the
-- tokens after the declarations.
unfoldable pub declaring : Option (List ℕ) → Header → Option Command → List Token → Result (Header × List Token) StimFault
declaring asked h None [] = Ok (h, [])
declaring asked h (Some c) [] = Err (fault_at c.first causes.UnclosedCommand)
declaring asked h None (t ∷ ts) =
    if opens_command t.text then declaring asked h (Some (record { first = t; body = [] })) ts
    else Err (fault_at t causes.BadToken)
declaring asked h (Some c) (t ∷ ts) =
    if is_end t.text then (declared asked h c (keyword_of c.first.text) >>= λ next. if ends_declarations (keyword_of c.first.text) then Ok (next, ts) else declaring asked next None ts)
    else declaring asked h (Some (record c { body = c.body ++ t.text ∷ [] })) ts

abbrev pub no_header : Header
no_header = record { timescale = default_timescale; scopes = []; variables = [] }
