use Rattle.std.proofs.Common.{◌/◌, refl, arith}
use Rattle.warp_gates.proofs.Evaluating.{fronts_settled, refreshed_one}
use Rattle.warp_gates.proofs.Undoing.{queues_set}
use Rattle.warp_gates.proofs.settle.settle_edge.Goals as goal

pub returns-then-front : goal.returns-then-front
returns-then-front c = record {
  fronts = fronts_settled c.args.wiring.now c.args.values.now c.args.fronts.now (c.args.edge / 8) _ _ c.requires.fronts c.requires.within c.requires.edge.gate refl refl c.output_of-front.ensures;
  refreshed = refreshed_one c.args.edge c.args.fronts.now _ (omega (arith, c.requires.within, c.requires.fronts.same)) refl;
  queues = queues_set c.args.fronts.now (c.args.edge / 8) _ _ (omega (arith, c.requires.within, c.requires.fronts.same)) refl;
}
