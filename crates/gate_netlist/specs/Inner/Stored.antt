-- Statements, and what they make, where the nets that they use lie in one list.
use Rattle.std.specs.Prelude.{◌≡◌, ℕ, ◌+◌, ◌<◌, ◌≤◌, List, [], ◌++◌, length, map, take, drop, get_or, Option, Some, None, Result, Ok, Err, if◌then◌else◌}
use Rattle.gate_netlist.specs.declared.bench.Definition.{Definition}
use Rattle.gate_netlist.specs.declared.bench.Definition.TheVariants as definition
use Rattle.gate_netlist.specs.declared.fault.BenchCause.{BenchCause}
use Rattle.gate_netlist.specs.declared.fault.BenchCause.TheVariants.{Undriven}
use Rattle.gate_netlist.specs.declared.store.Stored.{Stored}
use Rattle.gate_netlist.specs.declared.store.Stored.TheVariants as stored
use Rattle.gate_netlist.specs.Statements.{Name, Statement, Nothing, Input, Output, Gate, Flop}
use Rattle.gate_netlist.specs.Inner.Passes.{is_linked}

pub record Said : Type 0 where
  pub lines : List Stored
  -- the nets that the lines use
  pub uses : List Name

-- what a line says, by the list of all uses
abbrev pub told_by : List Name → Stored → Statement
told_by uses stored.Nothing = Nothing
told_by uses (stored.Input n) = Input n.now
told_by uses (stored.Output u) = Output (get_or uses u [])
told_by uses (stored.Gate n kind start count) = Gate n.now kind (take count (drop start uses))
told_by uses (stored.Flop n u) = Flop n.now (get_or uses u [])

abbrev pub statements_in : Said → List Statement
statements_in said = map (told_by said.uses) said.lines

-- what a line uses lies in a list of this length
abbrev pub LiesWithin : ℕ → Stored → Type 0
LiesWithin most (stored.Output u) = u < most
LiesWithin most (stored.Gate n kind start count) = start + count ≤ most
LiesWithin most (stored.Flop n u) = u < most
LiesWithin most _ = Unit {0}

-- the line says this, with its uses behind the earlier ones
pub record IsStored (old new : List Name) (said : Statement) (line : Stored) : Type 0 where
  pub more : List Name
  pub grown : new ≡ old ++ more
  pub told : told_by new line ≡ said
  pub within : LiesWithin (length new) line

-- what a line makes of the net that it defines, by the numbers of all uses
abbrev pub definition_by : List ℕ → Stored → Option Definition
definition_by numbers (stored.Input n) = Some definition.Input
definition_by numbers (stored.Gate n kind start count) = Some (definition.Gate kind (take count (drop start numbers)))
definition_by numbers (stored.Flop n u) = Some (definition.Flop (get_or numbers u 0))
definition_by numbers _ = None

-- the net that a line marks
abbrev pub output_by : List ℕ → Stored → Option ℕ
output_by numbers (stored.Output u) = Some (get_or numbers u 0)
output_by numbers _ = None

-- both, where each net that it uses has a number below the count of nets
abbrev pub made_from : List ℕ → ℕ → Stored → Result (Option Definition × Option ℕ) BenchCause
made_from numbers count line = if is_linked (definition_by numbers line) (output_by numbers line) count then Ok (definition_by numbers line, output_by numbers line) else Err Undriven
