use Rattle.std.proofs.Common.{◌≡◌, ◌≤◌}
use Rattle.net_waves.specs.Packed.{told_below}
use Rattle.vcd_dumps.specs.Walk.{last_stop}
use Rattle.vcd_dumps.proofs.pieces.last_before.Given as goal

-- no word tells a stop from here on
abbrev pub invariant-loop-end : goal.invariant-loop-end
invariant-loop-end l = (l.end ≤ l.fn.end) × (last_stop 0 (told_below l.packed l.end) ≡ last_stop 0 (told_below l.packed l.fn.end))

abbrev pub decreases-loop-end : goal.decreases-loop-end
decreases-loop-end l = l.end
