use Rattle.std.proofs.Common.{◌≡◌, ◌≢◌, ℕ, ◌+◌, ◌<◌, None, [], vec_len}
use Rattle.gate_values.specs.Changes.{before_time}
use Rattle.gate_netlist.specs.Cut.{owner_of}
use Rattle.gate_stimulus.specs.Given.{changes_of}
use Rattle.net_waves.specs.Waves.{lists_in, wave_of, IsWave}
use Rattle.warp_core.proofs.gathering.waves.given_lists.Given as goal

-- so many nets have their list
abbrev pub invariant-loop-net : goal.invariant-loop-net
invariant-loop-net l = record {
  nets : vec_len l.lists ≡ l.net;
  given : (n : ℕ) → n < l.net → owner_of l.cut n ≡ None → wave_of (lists_in l.lists.items) n ≡ before_time (l.horizon + 1) (changes_of l.stimulus n);
  none : (n : ℕ) → n < l.net → owner_of l.cut n ≢ None → wave_of (lists_in l.lists.items) n ≡ [];
  waves : (n : ℕ) → IsWave (wave_of (lists_in l.lists.items) n);
}
