use Rattle.std.proofs.Common.{◌≡◌, ℕ, ◌≤◌, length}
use Rattle.net_waves.specs.Waves.{wave_of, end_time}
use Rattle.benchmarks.proofs.writing.sparse.Given as goal

abbrev pub invariant-loop-time : goal.invariant-loop-time
invariant-loop-time l = record {
  count : length l.waves ≡ l.nets;
  until : (n : ℕ) → end_time 0 (wave_of l.waves n) ≤ l.time;
}
