-- What a bench text says, and why it is refused.
use Rattle.std.specs.Prelude.{ℕ, ◌+◌, Bool, not, nat_lt, List, [], ◌∷◌, ◌++◌, length, map, fold, Option, Some, None, option_to_list, Result, Ok, Err, if◌then◌else◌, position, ◌==◌}
use Rattle.std.specs.List.{list_any, list_all, filter_map, position_or_len}
use Rattle.std.specs.Str.{bytes_eq}
use Rattle.gate_netlist.specs.declared.bench.Definition.{Definition}
use Rattle.gate_netlist.specs.declared.bench.Definition.TheVariants as definition
use Rattle.gate_netlist.specs.declared.fault.BenchCause.{BenchCause}
use Rattle.gate_netlist.specs.declared.fault.BenchCause.TheVariants.{DrivenTwice, TooManyNets, Undriven}
use Rattle.gate_netlist.specs.declared.fault.BenchFault.{BenchFault}
use Rattle.gate_netlist.specs.Lines.{lines_of}
use Rattle.gate_netlist.specs.Netlist.{Netlist}
use Rattle.gate_netlist.specs.Statements.{Name, Statement, Input, Output, Gate, Flop, meaning_of}

infixl 10 ◌>>=◌
abbrev pub ◌>>=◌ : {A B E : Type 0} → Result A E → (A → Result B E) → Result B E
(Ok x) >>= f = f x
(Err e) >>= f = Err e

-- ---- line by line

-- the net that a line defines
abbrev pub net_defined : Statement → Option Name
net_defined (Input n) = Some n
net_defined (Gate n kind inputs) = Some n
net_defined (Flop n d) = Some n
net_defined _ = None

abbrev pub is_among : List Name → Name → Bool
is_among names n = list_any (λ other. bytes_eq n other) names

-- why a line may not define a net, after lines that define these
abbrev pub refusal : List Name → Option Name → Option BenchCause
refusal earlier None = None
refusal earlier (Some n) = if is_among earlier n then Some DrivenTwice else (if nat_lt (length earlier) 999999 then None else Some TooManyNets)

abbrev pub unless : {X : Type 0} → Option BenchCause → X → Result X BenchCause
unless None x = Ok x
unless (Some cause) x = Err cause

-- what a line says, after lines that define these nets
unfoldable pub stated : List Name → List ℕ → Result Statement BenchCause
stated earlier line = meaning_of line >>= λ s. unless (refusal earlier (net_defined s)) s

abbrev pub at_line : {X : Type 0} → ℕ → Result X BenchCause → Result X BenchFault
at_line line (Ok x) = Ok x
at_line line (Err cause) = Err (record { line = line; cause = cause })

-- what lines say, the first of them having this number; the first faulty one is refused
unfoldable pub accepted : List Name → ℕ → List (List ℕ) → Result (List Statement) BenchFault
accepted earlier line [] = Ok []
accepted earlier line (l ∷ ls) = do
  s ← at_line line (stated earlier l)
  ss ← accepted (earlier ++ option_to_list (net_defined s)) (line + 1) ls
  Ok (s ∷ ss)

-- ---- all lines together

-- the nets in the order of their lines
abbrev pub nets_defined : List Statement → List Name
nets_defined ss = filter_map net_defined ss

-- the nets that a line speaks of and doesn't define
abbrev pub uses : Statement → List Name
uses (Output n) = n ∷ []
uses (Gate n kind inputs) = inputs
uses (Flop n d) = d ∷ []
uses _ = []

-- a net that the line uses is none of these
abbrev pub uses_other : List Name → Statement → Bool
uses_other nets s = not (list_all (is_among nets) (uses s))

-- how many nets stand before the one of this name
abbrev pub number_among : List Name → Name → ℕ
number_among nets n = position_or_len (λ other. bytes_eq n other) nets

-- what a line makes of the net that it defines
abbrev pub definition_of : List Name → Statement → Option Definition
definition_of nets (Input n) = Some definition.Input
definition_of nets (Gate n kind inputs) = Some (definition.Gate kind (map (number_among nets) inputs))
definition_of nets (Flop n d) = Some (definition.Flop (number_among nets d))
definition_of nets _ = None

-- the net that a line marks
abbrev pub output_of : List Name → Statement → Option ℕ
output_of nets (Output n) = Some (number_among nets n)
output_of nets _ = None

-- with this number at the end, where it isn't there
abbrev pub with_last : List ℕ → ℕ → List ℕ
with_last ns n = if list_any (λ m. n == m) ns then ns else ns ++ n ∷ []

-- each number once, where it first stands
abbrev pub each_once : List ℕ → List ℕ
each_once ns = fold with_last [] ns

abbrev pub netlist_by : List Statement → Netlist
netlist_by ss = record {
  names = nets_defined ss;
  definitions = filter_map (definition_of (nets_defined ss)) ss;
  outputs = each_once (filter_map (output_of (nets_defined ss)) ss);
}

-- the first line that uses a net which no line defines is refused
abbrev pub unless_undriven : Option ℕ → List Statement → Result Netlist BenchFault
unless_undriven None ss = Ok (netlist_by ss)
unless_undriven (Some i) ss = Err (record { line = i + 1; cause = Undriven })

abbrev pub resolved : List Statement → Result Netlist BenchFault
resolved ss = unless_undriven (position (uses_other (nets_defined ss)) ss) ss

-- what a bench text says
unfoldable pub bench_of : List ℕ → Result Netlist BenchFault
bench_of text = do
  ss ← accepted [] 1 (lines_of text)
  resolved ss
