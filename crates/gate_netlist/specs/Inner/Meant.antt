-- Statements without where their names lie in memory.
use Rattle.std.specs.Prelude.{ℕ, List, map}
use Rattle.std.specs.Borrow.{Bor}
use Rattle.gate_netlist.specs.Statements.{Name, Statement, Nothing, Input, Output, Gate, Flop}
use Rattle.gate_netlist.specs.declared.statement.Statement.{Statement as Written}
use Rattle.gate_netlist.specs.declared.statement.Statement.TheVariants as written

abbrev pub names_meant : List (Bor (List ℕ)) → List Name
names_meant ns = map (λ n. n.now) ns

abbrev pub meant : Written → Statement
meant written.Nothing = Nothing
meant (written.Input n) = Input n.now
meant (written.Output n) = Output n.now
meant (written.Gate n kind inputs) = Gate n.now kind (names_meant inputs.now)
meant (written.Flop n d) = Flop n.now d.now
