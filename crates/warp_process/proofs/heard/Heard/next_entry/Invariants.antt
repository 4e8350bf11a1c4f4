use Rattle.std.proofs.Common.{◌≢◌, ◌≤◌, ◌<◌, ◌+◌, ◌-◌, ℕ}
use Rattle.warp_process.specs.Entries.{no_messages}
use Rattle.warp_process.specs.View.{entry_of}
use Rattle.warp_process.proofs.heard.Heard.next_entry.Given as goal

abbrev pub invariant-loop-start : goal.invariant-loop-start
invariant-loop-start l = record {
  later : l.from ≤ l.start;
  passed : (t : ℕ) → l.from ≤ t → t < l.start → entry_of l.self l.net t ≢ no_messages → ⊥;
}

abbrev pub decreases-loop-start : goal.decreases-loop-start
decreases-loop-start l = l.self.horizon + 1 - l.start
