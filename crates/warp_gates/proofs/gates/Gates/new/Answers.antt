use Rattle.std.proofs.Common.{◌≡◌, List, length, replicate, sym, subst, rules}
use Rattle.gate_values.specs.declared.logic.Logic.{Logic}
use Rattle.gate_values.specs.declared.logic.Logic.TheVariants.{X}
use Rattle.warp_gates.specs.Inner.Held.{AreHeld}
use Rattle.warp_gates.proofs.Starting.{held_first, first_queues, first_outputs}
use Rattle.warp_gates.proofs.gates.Gates.new.Goals as goal

pub invariant_of-result : goal.invariant_of-result
invariant_of-result c =
    let values : c.in_ok-values.values.items ≡ replicate (length c.args.wiring) X = search rules in
    subst (λ (vs : List Logic). AreHeld c.args.wiring c.in_ok-fronts.fronts.items vs c.in_ok-readers.readers c.in_ok-clocked.clocked) (sym values)
    (held_first c.args.wiring c.args.queues.now c.args.contents.now c.in_ok-fronts.fronts.items c.in_ok-readers.readers c.in_ok-clocked.clocked c.requires.few c.requires.cells c.in_ok-fronts.ensures c.in_ok-readers.ensures c.in_ok-clocked.ensures)

pub returns-clause-queues : goal.returns-clause-queues
returns-clause-queues c = first_queues c.args.wiring c.args.queues.now c.args.contents.now c.in_ok-fronts.fronts.items c.requires.queues c.in_ok-fronts.ensures

pub returns-clause-outputs : goal.returns-clause-outputs
returns-clause-outputs c = first_outputs c.args.wiring c.args.queues.now c.args.contents.now c.in_ok-fronts.fronts.items c.requires.contents c.in_ok-fronts.ensures
