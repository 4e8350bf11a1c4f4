use Rattle.std.proofs.Common.{add-one}
use Rattle.gate_vcd.proofs.KnownLaws.{range-next}
use Rattle.gate_vcd.proofs.known.all_below.Goals as goal

pub loop-number-preserved : goal.loop-number-preserved
loop-number-preserved c = rw (add-one c.loop-number.number, range-next c.loop-number.number, ← c.loop-number.invariant) c.in_ok-push.ensures.items
