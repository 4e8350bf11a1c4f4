use Rattle.std.proofs.Common.{◌<◌, length, take, sym, subst}
use Rattle.warp_gates.specs.declared.put.Put.{Put}
use Rattle.warp_journal.specs.Books.{all_of}
use Rattle.warp_journal.proofs.Parting.{behind-up_to, behind_more}
use Rattle.warp_journal.proofs.queues.put_all.Goals as goal

pub put-requires-clause-order : goal.put-requires-clause-order
put-requires-clause-order c = behind-up_to c.args.step (take c.loop-put.put-index c.args.puts.now) c.args.queues.now c.loop-put.queues c.loop-put.invariant c.requires.order

pub loop-put-preserved : goal.loop-put-preserved
loop-put-preserved c =
    let put : Put = c.put-item.result in
    let within : put.queue < length (all_of c.args.queues.now) =
    subst (λ (p : Put). p.queue < length (all_of c.args.queues.now)) (sym c.put-item.is) (c.requires.queue c.loop-put.put-index put c.loop-put-test.true) in
    behind_more c.args.step c.args.puts.now c.loop-put.put-index put c.args.queues.now c.loop-put.queues c.put.new.self c.loop-put-test.true c.put-item.is within c.loop-put.invariant c.in_ok-put.ensures.ok
