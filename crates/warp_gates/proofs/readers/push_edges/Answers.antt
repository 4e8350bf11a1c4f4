use Rattle.warp_gates.proofs.Listing.{listed_call}
use Rattle.warp_gates.proofs.readers.push_edges.Goals as goal

pub loop-k-preserved : goal.loop-k-preserved
loop-k-preserved c =
    listed_call c.args.wiring.now c.args.gate c.loop-k.k c.pin_of.result c.inputs-inputs.result.now c.loop-k.edges.items c.push.new.self.items c.requires.cells c.inputs-inputs.ensures c.loop-k-test.true c.pin_of.ensures.is c.loop-k.invariant c.in_ok-push.ensures.items
