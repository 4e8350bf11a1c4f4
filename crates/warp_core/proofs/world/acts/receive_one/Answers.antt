use Rattle.std.proofs.Common.{◌<◌, ℕ}
use Rattle.warp_process.specs.declared.message.Sign.TheVariants.{Minus}
use Rattle.warp_process.specs.Sends.{SendsOnce}
use Rattle.warp_core.proofs.Changing.{between}
use Rattle.warp_core.proofs.world.acts.receive_one.Goals as goal

pub returns-in-Ok-clause-sends : goal.returns-in-Ok-clause-sends
returns-in-Ok-clause-sends c =
    let IsLater : ℕ → Type 0 = λ t. c.args.message.time < t in
    between c.args.blocks.now.items c.args.message.block c.index_mut-block.result.now c.receive.new.self c.requires.block c.index_mut-block.ensures.value
    (λ v w. SendsOnce v w Minus IsLater c.args.flight.now.items c.receive.new.out.items) c.in-Ok.ensures.sends
