use Rattle.warp_alone.proofs.Stepping.{forgotten}
use Rattle.warp_alone.proofs.playing.forget_played.Goals as goal

pub returns-clause-engine : goal.returns-clause-engine
returns-clause-engine c = forgotten c.args.heard.now c.mark-mark.result c.args.engine.now c.forget_below.new.self c.requires.engine c.forget_below.ensures c.mark-mark.ensures
