use Rattle.std.proofs.Common.{option_map}
use Rattle.std.proofs.lemmas.Result.{IfOk-weaker}
use Rattle.warp_text.proofs.Telling.{told_answered}
use Rattle.warp_text.proofs.told.simulate_told_watched.Goals as goal

pub returns-clause-dump : goal.returns-clause-dump
returns-clause-dump g c =
    let under = rw c.as_slice.ensures.value at c.told_under.ensures.dump in
    told_answered c.args.bench.now c.args.settings.now (option_map (λ names. names.now) c.args.names) c.args.stimulus.now c.args.options.now.until c.in_ok-circuit.circuit c.in_ok-told.told.items _
    c.in_ok-circuit.ensures c.in_ok-told.ensures under

pub returns-clause-counts : goal.returns-clause-counts
returns-clause-counts g c = IfOk-weaker c.told_under.result _ _ (λ simulated account. (c.in_ok-circuit.circuit, c.in_ok-circuit.ensures, account)) c.told_under.ensures.counts
