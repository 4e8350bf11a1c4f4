use Rattle.std.proofs.Common.{length}
use Rattle.gate_vcd.specs.Changes.{events_from, items, last_time, nothing}
use Rattle.gate_vcd.specs.Inner.Known.{knows}
use Rattle.gate_vcd.specs.Inner.Items.{taken_in}
use Rattle.gate_vcd.proofs.ItemLaws.{GoesOn}
use Rattle.gate_vcd.proofs.changes.read_changes.Given as goal

-- the changes so far are kept, and the others are those of the items that are left
abbrev pub invariant-loop-taken : goal.invariant-loop-taken
invariant-loop-taken l = GoesOn l.codes l.now (taken_in l.taken) (items nothing l.words) (events_from (knows l.codes) 0 (items nothing l.initial.words)) (last_time 0 (items nothing l.initial.words))

abbrev pub decreases-loop-taken : goal.decreases-loop-taken
decreases-loop-taken l = length l.words
