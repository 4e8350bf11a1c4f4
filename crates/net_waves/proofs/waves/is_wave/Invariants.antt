use Rattle.std.proofs.Common.{take}
use Rattle.net_waves.specs.Waves.{IsWave}
use Rattle.net_waves.proofs.waves.is_wave.Given as goal

-- the changes so far are a wave
abbrev pub invariant-loop-at : goal.invariant-loop-at
invariant-loop-at l = IsWave (take l.at l.changes)
