use Rattle.std.proofs.Common.{take}
use Rattle.warp_core.specs.Played.{ArePlayed}
use Rattle.warp_text.proofs.replay.play_all.Given as goal

-- the events so far are played
abbrev pub invariant-loop-place : goal.invariant-loop-place
invariant-loop-place l = ArePlayed l.fn.world (take l.place l.events) l.world
