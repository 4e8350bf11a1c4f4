use Rattle.std.proofs.Common.{ℕ, ◌<◌, OnErr}
use Rattle.warp_process.specs.declared.message.Sign.TheVariants.{Plus}
use Rattle.warp_process.specs.Advance.{IsAdvanced, IsAfterEvent}
use Rattle.warp_process.specs.Sends.{SendsOnce}
use Rattle.warp_core.proofs.Changing.{between}
use Rattle.warp_core.proofs.world.acts.run.Goals as goal

pub returns-clause-some : goal.returns-clause-some
returns-clause-some c =
    between c.args.blocks.now.items c.args.number c.index_mut-block.result.now c.advance-answer.new.self c.requires c.index_mut-block.ensures.value
    (λ v w. OnErr c.advance-answer.result ((count : ℕ) × (count < c.args.steps) × IsAdvanced v w count)) c.advance-answer.ensures.some

pub returns-clause-sends : goal.returns-clause-sends
returns-clause-sends c =
    between c.args.blocks.now.items c.args.number c.index_mut-block.result.now c.advance-answer.new.self c.requires c.index_mut-block.ensures.value
    (λ v w. SendsOnce v w Plus (IsAfterEvent v) c.args.flight.now.items c.advance-answer.new.out.items) c.advance-answer.ensures.sends
