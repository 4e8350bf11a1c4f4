use Rattle.std.proofs.Common.{◌≡◌, arith}
use Rattle.gate_vcd.proofs.Bundling.{one_waiting_more, all_waiting}
use Rattle.gate_vcd.proofs.bundles.none_waiting.Goals as goal

pub loop-preserved : goal.loop-preserved
loop-preserved c = one_waiting_more c.loop.waiting.items c.push.new.self.items c.new.result c.loop.counter c.new.ensures.items c.in_ok-push.ensures.items c.loop.invariant

pub returns-clause-ok : goal.returns-clause-ok
returns-clause-ok c = let e : c.loop.counter ≡ c.args.count = omega arith in all_waiting c.loop.waiting.items c.loop.counter c.args.count e c.loop.invariant
