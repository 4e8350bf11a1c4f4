use Rattle.std.proofs.Common.{refl, arith}
use Rattle.gate_vcd.proofs.Bundling.{settles-in}
use Rattle.gate_vcd.proofs.bundles.settle_stop.Goals as goal

pub returns-in-Some-clause-ok : goal.returns-in-Some-clause-ok
returns-in-Some-clause-ok c =
    settles-in c.args.bundle c.args.stop c.args.lists.now.items c.in-Some.list.now c.settle.new.list c.settle.result (omega (arith, c.if-number-bundle.false)) (omega (arith, c.in-Some.ensures.variant.0 refl, c.args.lists.now.ok)) c.in-Some.ensures.value c.settle.ensures.ok
