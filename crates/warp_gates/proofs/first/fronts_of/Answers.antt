use Rattle.std.proofs.Common.{◌<◌, ◌+◌, List, length, subst, sym, refl, arith}
use Rattle.std.proofs.lemmas.List.{get_or_default}
use Rattle.gate_values.specs.declared.logic.Logic.TheVariants.{X}
use Rattle.warp_gates.specs.declared.front.Front.{Front}
use Rattle.warp_gates.specs.Inner.First.{AreFirst}
use Rattle.warp_gates.proofs.Starting.{first_none, first_more}
use Rattle.warp_gates.proofs.first.fronts_of.Goals as goal

pub loop-place-init : goal.loop-place-init
loop-place-init c = subst (λ (fs : List Front). AreFirst c.args.wiring.now c.args.queues.now c.args.contents.now 0 fs) (sym c.in_ok-fronts.ensures.items) (first_none c.args.wiring.now c.args.queues.now c.args.contents.now)

pub loop-place-preserved : goal.loop-place-preserved
loop-place-preserved c =
    let within : c.loop-place.place < length c.args.contents.now = omega (arith, c.requires.contents) in
    subst (λ (fs : List Front). AreFirst c.args.wiring.now c.args.queues.now c.args.contents.now (c.loop-place.place + 1) fs) (sym c.in_ok-push.ensures.items)
    (first_more c.args.wiring.now c.args.queues.now c.args.contents.now c.loop-place.place _ _ c.loop-place.fronts.items c.first_front.result c.loop-place.invariant refl (get_or_default c.args.contents.now c.loop-place.place _ X within) c.first_front.ensures)
