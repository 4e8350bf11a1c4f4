use Rattle.std.proofs.Common.{◌≡◌, arith}
use Rattle.gate_vcd.proofs.Keeping.{one_list_more, all_lists}
use Rattle.gate_vcd.proofs.bundles.empty_lists.Goals as goal

pub loop-preserved : goal.loop-preserved
loop-preserved c = one_list_more c.loop.lists.items c.push.new.self.items c.new.result c.loop.counter c.new.ensures.items c.in_ok-push.ensures.items c.loop.invariant

pub returns-clause-ok : goal.returns-clause-ok
returns-clause-ok c = let e : c.loop.counter ≡ c.args.count = omega arith in all_lists c.loop.lists.items c.loop.counter c.args.count e c.loop.invariant
