use Rattle.std.proofs.Common.{length, sym}
use Rattle.net_waves.specs.Merging.{lefts}
use Rattle.net_waves.proofs.MergeLaws.{chunk-ahead, chunk-whole, left-at, length-lefts}
use Rattle.net_waves.proofs.merging.next_chunk.Goals as goal

pub returns-in-Some-clause-some : goal.returns-in-Some-clause-some
returns-in-Some-clause-some c = chunk-ahead (lefts c.args.runs.now) (length c.args.runs.now) c.in_ok-run.run' c.in-Some.other c.count_ahead-count.result (sym (length-lefts c.args.runs.now)) c.requires
    c.in_ok-run.ensures c.in-Some.ensures c.count_ahead-count.ensures.some
    (rw (left-at c.args.runs.now c.in_ok-run.run') c.count_ahead-count.ensures.within)
    (λ k d few some. rw (left-at c.args.runs.now c.in_ok-run.run', left-at c.args.runs.now c.in-Some.other) (c.count_ahead-count.ensures.ahead k d few (rw (left-at c.args.runs.now c.in-Some.other) at some)))

pub returns-in-None-clause-some : goal.returns-in-None-clause-some
returns-in-None-clause-some c = rw (← left-at c.args.runs.now c.in_ok-run.run') (chunk-whole (lefts c.args.runs.now) (length c.args.runs.now) c.in_ok-run.run' (sym (length-lefts c.args.runs.now)) c.in_ok-run.ensures c.in-None.ensures)
