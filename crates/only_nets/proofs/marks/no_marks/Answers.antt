use Rattle.only_nets.proofs.Marking.{marks-none, no_marks-more}
use Rattle.only_nets.proofs.marks.no_marks.Goals as goal

pub loop-net-init : goal.loop-net-init
loop-net-init c = rw (c.in_ok-all.ensures.items) (marks-none)

pub loop-net-preserved : goal.loop-net-preserved
loop-net-preserved c = rw (c.in_ok-push.ensures.items, c.loop-net.invariant) (no_marks-more c.loop-net._net)
