use Rattle.std.proofs.Common.{ℕ, ◌<◌, ◌/◌, List, length, take, get_or, set, sym, subst, arith}
use Rattle.std.proofs.lemmas.List.{take_more, take_all}
use Rattle.warp_gates.specs.Inner.Fronts.{AreShown}
use Rattle.warp_gates.proofs.Showing.{shown_none, shown_more}
use Rattle.warp_gates.proofs.front.show.Goals as goal

pub loop-edge-init : goal.loop-edge-init
loop-edge-init c = shown_none c.args.value c.args.fronts.now

pub loop-edge-preserved : goal.loop-edge-preserved
loop-edge-preserved c =
    let edge : ℕ = get_or c.args.edges.now c.loop-edge.edge-index 0 in
    let within : edge / 8 < length c.loop-edge.fronts = omega (arith, c.requires c.loop-edge.edge-index 0 c.loop-edge-test.true) in
    subst (λ (es : List ℕ). AreShown es c.args.value c.args.fronts.now (set c.loop-edge.fronts (edge / 8) c.show_at.new.front)) (sym (take_more c.args.edges.now c.loop-edge.edge-index 0 c.loop-edge-test.true))
    (shown_more (take c.loop-edge.edge-index c.args.edges.now) edge c.args.value c.args.fronts.now c.loop-edge.fronts _ c.show_at.new.front c.loop-edge.invariant within c.show_at.ensures)

pub returns : goal.returns
returns c = subst (λ (es : List ℕ). AreShown es c.args.value c.args.fronts.now c.loop-edge.fronts) (take_all c.loop-edge.edge-index c.args.edges.now c.loop-edge-test.false) c.loop-edge.invariant
