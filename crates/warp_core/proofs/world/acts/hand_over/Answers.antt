use Rattle.std.proofs.Common.{◌<◌}
use Rattle.warp_process.specs.declared.message.Sign.TheVariants.{Minus}
use Rattle.warp_core.specs.Matched.{seen_at}
use Rattle.warp_core.proofs.Changing.{sends_without}
use Rattle.warp_core.proofs.world.acts.hand_over.Goals as goal

pub returns-clause-sends : goal.returns-clause-sends
returns-clause-sends c =
    sends_without (seen_at c.args.blocks.now.items c.args.message.block) (seen_at c.receive_one.new.blocks.items c.args.message.block) Minus (λ t. c.args.message.time < t)
    c.args.flight.now.items c.receive_one.new.flight.items c.remove.new.self.items c.args.place c.requires.within c.in_ok-receive_one.ensures.sends c.remove.ensures.items
