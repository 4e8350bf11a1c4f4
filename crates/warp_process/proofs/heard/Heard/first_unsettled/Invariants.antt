use Rattle.warp_process.specs.Shown.Heard.{heard_by}
use Rattle.warp_process.proofs.Committing.{NoneUnsettled}
use Rattle.warp_process.proofs.heard.Heard.first_unsettled.Given as goal

abbrev pub invariant-loop-slot : goal.invariant-loop-slot
invariant-loop-slot l = NoneUnsettled (heard_by l.self-inside) l.end l.slot
