use Rattle.warp_text.proofs.Replaying.{nothing_played, played_next, all_played, stopped_at}
use Rattle.warp_text.proofs.replay.play_all.Goals as goal

pub loop-place-init : goal.loop-place-init
loop-place-init c = nothing_played c.args.world.now

pub loop-place-preserved : goal.loop-place-preserved
loop-place-preserved c = played_next c.args.events.now c.loop-place.place _ c.args.world.now c.loop-place.world c.play.new.self c.loop-place-test.true c.loop-place.invariant c.in-Ok.ensures.played c.law.ensures

pub returns-in-Err-clause-stopped : goal.returns-in-Err-clause-stopped
returns-in-Err-clause-stopped c = rw c.event_fault.ensures (stopped_at c.args.world.now c.args.events.now c.loop-place.place _ c.loop-place.world c.in-Err.cause c.loop-place-test.true c.loop-place.invariant c.in-Err.ensures.refused)

pub returns-clause-played : goal.returns-clause-played
returns-clause-played c = all_played c.args.events.now c.loop-place.place c.args.world.now c.loop-place.world c.loop-place-test.false c.loop-place.invariant
