use Rattle.std.proofs.Common.{◌+◌, List, subst}
use Rattle.warp_process.specs.declared.message.Message.{Message}
use Rattle.warp_process.specs.View.{Process}
use Rattle.warp_core.specs.Inner.Kept.{IsSoonest, AreNextTimes}
use Rattle.warp_core.proofs.StartingWorlds.{opened_world}
use Rattle.warp_core.proofs.world.World.new.Goals as goal

pub invariant_of-result : goal.invariant_of-result
invariant_of-result c =
    let end = c.args.horizon + 1 in
    record {
      law = opened_world c.args.circuit.now c.args.cut.now c.args.stimulus.now c.args.horizon c.requires.cut c.requires.stimulus c.requires.horizon c.open.new.blocks.items c.open.new.flight.items c.in_ok-open.ensures;
      soonest = subst (λ (ms : List Message). IsSoonest ms end c.soonest_of-soonest.result) c.as_slice-2.ensures.value c.soonest_of-soonest.ensures;
      next = subst (λ (ps : List Process). AreNextTimes ps end c.in_ok-next.next.items) c.as_slice.ensures.value c.in_ok-next.ensures;
    }
