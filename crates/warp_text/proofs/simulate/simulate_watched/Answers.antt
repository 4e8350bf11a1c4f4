use Rattle.std.proofs.lemmas.Result.{IfOk-weaker}
use Rattle.warp_text.proofs.Simulating.{answered}
use Rattle.warp_text.proofs.simulate.simulate_watched.Goals as goal

pub returns-clause-dump : goal.returns-clause-dump
returns-clause-dump g c = answered c.args.bench.now c.args.settings.now c.args.stimulus.now c.args.options.now.until c.in_ok-circuit.circuit _ c.in_ok-circuit.ensures c.dump_under.ensures.dump

pub returns-clause-counts : goal.returns-clause-counts
returns-clause-counts g c = IfOk-weaker c.dump_under.result _ _ (λ simulated account. (c.in_ok-circuit.circuit, c.in_ok-circuit.ensures, account)) c.dump_under.ensures.counts
