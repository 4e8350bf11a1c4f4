use Rattle.std.proofs.Common.{ℕ, List, take, subst, sym}
use Rattle.std.proofs.lemmas.List.{take_more}
use Rattle.warp_gates.specs.Inner.Told.{AreRefreshed}
use Rattle.warp_gates.proofs.Evaluating.{refreshed_then}
use Rattle.warp_gates.proofs.Undoing.{queues_then}
use Rattle.warp_gates.proofs.settle.settle.Goals as goal

pub loop-edge-preserved : goal.loop-edge-preserved
loop-edge-preserved c =
    record {
      fronts = c.settle_edge.ensures.fronts;
      refreshed = subst (λ (es : List ℕ). AreRefreshed es c.args.fronts.now c.settle_edge.new.fronts) (sym (take_more c.args.edges.now c.loop-edge.edge-index 0 c.loop-edge-test.true))
          (refreshed_then (take c.loop-edge.edge-index c.args.edges.now) _ c.args.fronts.now c.loop-edge.fronts c.settle_edge.new.fronts c.loop-edge.invariant.refreshed c.settle_edge.ensures.refreshed);
      queues = queues_then c.args.fronts.now c.loop-edge.fronts c.settle_edge.new.fronts c.loop-edge.invariant.queues c.settle_edge.ensures.queues;
    }
