use Rattle.warp_text.proofs.Simulating.{answered}
use Rattle.warp_text.proofs.simulate.simulate_plain.Goals as goal

pub returns : goal.returns
returns g c = answered c.args.bench.now c.args.settings.now c.args.stimulus.now c.args.options.now.until c.in_ok-circuit.circuit _ c.in_ok-circuit.ensures c.plain_dump.ensures
