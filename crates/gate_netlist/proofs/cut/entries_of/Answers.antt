use Rattle.gate_netlist.proofs.Owning.{owned_input, owned_net}
use Rattle.gate_netlist.proofs.cut.entries_of.Goals as goal
use Rattle.gate_netlist.proofs.cut.entries_of.Goals.{in-Some+in_ok-push, in_default}

pub loop-net-preserved : goal.loop-net-preserved
loop-net-preserved c =
    elim c.match-owner.branch [
      | in-Some+in_ok-push w ↦ rw (w.entries-is, w.in_ok-push.ensures.items) (owned_net c.args.owners.now c.loop-net.net w.in-Some.block c.loop-net.entries.items w.in-Some.is c.loop-net.invariant)
      | in_default w ↦ rw w.entries-is (owned_input c.args.owners.now c.loop-net.net c.loop-net.entries.items w.in_default.is c.loop-net.invariant)
    ]
