use Rattle.std.proofs.Common.{◌∙◌, ℕ, List, take, subst, sym, arith}
use Rattle.std.proofs.lemmas.List.{take_more}
use Rattle.warp_gates.specs.Inner.Told.{AreRefreshed}
use Rattle.warp_gates.proofs.Evaluating.{refreshed_then}
use Rattle.warp_gates.proofs.evaluate.evaluate.Goals as goal

pub loop-edge-preserved : goal.loop-edge-preserved
loop-edge-preserved c =
    record {
      fronts = c.evaluate_edge.ensures.fronts;
      refreshed = subst (λ (es : List ℕ). AreRefreshed es c.args.fronts.now c.evaluate_edge.new.fronts) (sym (take_more c.args.edges.now c.loop-edge.edge-index 0 c.loop-edge-test.true))
          (refreshed_then (take c.loop-edge.edge-index c.args.edges.now) _ c.args.fronts.now c.loop-edge.fronts c.evaluate_edge.new.fronts c.loop-edge.invariant.refreshed c.evaluate_edge.ensures.refreshed);
      evaluating = λ old before s. c.evaluate_edge.ensures.evaluating old before (c.loop-edge.invariant.evaluating old before s);
      room = omega (arith, c.evaluate_edge.ensures.room, c.loop-edge.invariant.room);
      capacity = c.evaluate_edge.ensures.capacity ∙ c.loop-edge.invariant.capacity;
    }
