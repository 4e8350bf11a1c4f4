use Rattle.warp_journal.proofs.Parting.{half_is, half_all, stepped_is, on_err, on_ok}
use Rattle.warp_journal.proofs.stepping.book_step.Goals as goal

pub returns-in_err-put_all-clause-half : goal.returns-in_err-put_all-clause-half
returns-in_err-put_all-clause-half c = λ before is. on_err c.from_residual.result (half_is c.args.time before c.args.queues.now c.put_all.new.queues is c.in_err-put_all.ensures.err)

pub returns-clause-half : goal.returns-clause-half
returns-clause-half c = λ before is. on_err c.append_all.result (half_all c.args.time c.args.puts.now before c.args.queues.now c.put_all.new.queues is c.in_ok-put_all.ensures.ok)

pub returns-clause-queues : goal.returns-clause-queues
returns-clause-queues c = λ before is. on_ok c.append_all.result (stepped_is c.args.time c.args.puts.now before c.args.queues.now c.put_all.new.queues is c.in_ok-put_all.ensures.ok)
