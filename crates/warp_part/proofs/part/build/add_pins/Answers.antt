use Rattle.warp_part.specs.Shown.Building.{place_of}
use Rattle.warp_part.proofs.PartBuilding.{pushed_more}
use Rattle.warp_part.proofs.part.build.add_pins.Goals as goal

pub loop-input-preserved : goal.loop-input-preserved
loop-input-preserved c =
    pushed_more (place_of c.args.nets.now) c.args.pins.now.items c.loop-input.pins.items c.push.new.self.items c.args.inputs.now c.loop-input.input-index c.loop-input-test.true c.loop-input.invariant
    (rw c.place_in.ensures at c.in_ok-push.ensures.items)
