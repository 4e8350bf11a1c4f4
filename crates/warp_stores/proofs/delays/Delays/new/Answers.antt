use Rattle.std.proofs.Common.{ap, sym, ◌∙◌, map}
use Rattle.warp_stores.specs.Delays.{due_of}
use Rattle.warp_stores.proofs.Delaying.{due_empty}
use Rattle.warp_stores.proofs.delays.Delays.new.Goals as goal

pub invariant_of-result : goal.invariant_of-result
invariant_of-result c = c.in_ok-due.ensures ∙ due_empty c.args.delays.now ∙ ap (map due_of) (sym c.in_ok-queues.ensures)
