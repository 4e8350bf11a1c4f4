use Rattle.std.proofs.Common.{◌≡◌, ℕ, ◌+◌, ◌≤◌, length}
use Rattle.net_waves.specs.Waves.{wave_of, end_time}
use Rattle.benchmarks.proofs.writing.toggle_three.Given as goal

abbrev pub invariant-loop-part : goal.invariant-loop-part
invariant-loop-part l = record {
  count : length l.waves ≡ l.nets;
  until : (n : ℕ) → end_time 0 (wave_of l.waves n) ≤ l.time + 1;
}
