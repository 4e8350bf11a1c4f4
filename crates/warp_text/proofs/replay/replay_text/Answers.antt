use Rattle.warp_text.proofs.Replaying.{replayed}
use Rattle.warp_text.proofs.replay.replay_text.Goals as goal

pub returns : goal.returns
returns c = replayed c.args.bench.now c.args.settings.now c.args.stimulus.now c.args.schedule.now c.args.options.now.blocks c.args.options.now.until c.in_ok-circuit.circuit _ c.in_ok-circuit.ensures c.replay_on.ensures
