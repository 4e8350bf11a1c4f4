use Rattle.std.proofs.Common.{ℕ, ◌<◌}
use Rattle.net_waves.specs.Waves.{lists_in, wave_of, IsWave}
use Rattle.net_waves.proofs.waves.are_waves.Given as goal

-- the lists so far are waves
abbrev pub invariant-loop-list : goal.invariant-loop-list
invariant-loop-list l = (n : ℕ) → n < l.list-index → IsWave (wave_of (lists_in l.lists) n)
