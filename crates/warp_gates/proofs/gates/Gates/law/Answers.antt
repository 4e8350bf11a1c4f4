use Rattle.std.proofs.Common.{◌≤◌, length, subst}
use Rattle.warp_gates.specs.Cells.{Gates, AreGates}
use Rattle.warp_gates.proofs.Lawful.{gates_law}
use Rattle.warp_gates.proofs.gates.Gates.law.Goals as goal

pub returns-clause-gates : goal.returns-clause-gates
returns-clause-gates c = subst AreGates c.self.view_is (gates_law c.self.inside.wiring c.self.inside.fronts.items c.self.inside.values.items c.self.inside.readers c.self.inside.clocked c.self.invariant)

pub returns-clause-few : goal.returns-clause-few
returns-clause-few c = subst (λ (g : Gates). length g.cells ≤ 268435456) c.self.view_is c.self.invariant.few
