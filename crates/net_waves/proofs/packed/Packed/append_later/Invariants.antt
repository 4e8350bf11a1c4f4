use Rattle.std.proofs.Common.{◌≡◌, ◌++◌}
use Rattle.net_waves.specs.Packed.{told_below, all_told}
use Rattle.net_waves.proofs.packed.Packed.append_later.Given as goal

-- what the times so far tell stands behind all that was told
abbrev pub invariant-loop-time : goal.invariant-loop-time
invariant-loop-time l = all_told l.self ≡ all_told l.initial.self ++ told_below l.later l.time
