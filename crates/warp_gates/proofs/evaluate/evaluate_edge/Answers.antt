use Rattle.std.proofs.Common.{◌∙◌, ◌/◌, ap}
use Rattle.warp_gates.specs.declared.front.Front.{Front}
use Rattle.warp_gates.proofs.Evaluating.{fronts_settled, evaluating_one}
use Rattle.warp_gates.proofs.evaluate.evaluate_edge.Goals as goal

pub returns-then-front-clause-fronts : goal.returns-then-front-clause-fronts
returns-then-front-clause-fronts c =
    fronts_settled c.args.wiring.now c.args.values.now c.args.fronts.now (c.args.edge / 8) _ c.put_out.new.front c.requires.fronts c.requires.within c.requires.edge.gate
    (ap (λ (x : Front). x.kind) c.put_out.ensures.front) (ap (λ (x : Front). x.pins) c.put_out.ensures.front) (ap (λ (x : Front). x.output) c.put_out.ensures.front ∙ c.output_of-value.ensures)

pub returns-then-front-clause-evaluating : goal.returns-then-front-clause-evaluating
returns-then-front-clause-evaluating c old before state =
    evaluating_one c.args.wiring.now c.args.values.now old c.args.fronts.now before c.args.puts.now.items c.put_out.new.puts.items (c.args.edge / 8) _ c.put_out.new.front c.output_of-value.result
    state c.requires.within c.requires.edge.gate c.if-front.true c.output_of-value.ensures c.put_out.ensures.front c.put_out.ensures.puts
