use Rattle.std.proofs.Common.{◌≡◌, ◌==◌, ◌<◌, ◌≤◌, ℕ, cond, map, take, get_or}
use Rattle.gate_values.specs.declared.logic.Change.{Change}
use Rattle.warp_process.specs.Entries.{entry_in}
use Rattle.warp_process.specs.Inner.Rows.{entry_at, AreRows}
use Rattle.warp_process.specs.Opening.{message_of}
use Rattle.warp_process.proofs.heard.open_place.Given as goal

-- the first changes are up to the horizon, and stand
abbrev pub invariant-loop-change : goal.invariant-loop-change
invariant-loop-change l = record {
  rows : AreRows l.rows;
  within : (k : ℕ) (d : Change) → k < l.change-index → (get_or l.change-items k d).time ≤ l.horizon;
  opened : (t i : ℕ) → entry_at l.rows t i ≡ cond (i == l.slot) (entry_in (map message_of (take l.change-index l.change-items)) t) (entry_at l.fn.rows t i);
}
