use Rattle.std.proofs.Common.{◌≡◌, ◌++◌}
use Rattle.net_waves.specs.Waves.{wave_value}
use Rattle.vcd_only.specs.Told.{told_first}
use Rattle.vcd_only.proofs.text.push_first_values.Given as goal

-- the nets so far
abbrev pub invariant-loop-net : goal.invariant-loop-net
invariant-loop-net l = l.text.items ≡ l.initial.text.items ++ told_first l.told (wave_value l.waves) l.net
