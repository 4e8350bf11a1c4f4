use Rattle.std.proofs.Common.{◌+◌, refl, sym}
use Rattle.warp_alone.proofs.Telling.{opened, tells_of}
use Rattle.warp_alone.proofs.playing.history_under.Goals as goal

pub play_through-requires-clause-engine : goal.play_through-requires-clause-engine
play_through-requires-clause-engine g c =
    opened c.args.heard.now c.requires.received c.part.result.now c.horizon.result c.in_ok-engine.engine c.part.ensures (sym c.horizon.ensures.horizon) c.in_ok-engine.ensures

pub returns : goal.returns
returns g c =
    tells_of c.args.heard.now c.args.heard.now c.play_through.new.engine refl c.in_ok-play_through.ensures.engine (c.args.heard.now.horizon + 1) refl
    c.in_ok-play_through.ensures.mark c.into_history.result c.into_history.ensures
