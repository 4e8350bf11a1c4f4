use Rattle.std.proofs.Common.{◌≡◌, refl, arith}
use Rattle.gate_vcd.proofs.Holding.{one_text_more, all_texts}
use Rattle.gate_vcd.proofs.changes.no_digits.Goals as goal

pub loop-preserved : goal.loop-preserved
loop-preserved c = one_text_more c.loop.given.items c.push.new.self.items _ c.loop.counter refl c.in_ok-push.ensures.items c.loop.invariant

pub returns-clause-ok : goal.returns-clause-ok
returns-clause-ok c = let e : c.loop.counter ≡ c.args.count = omega arith in all_texts c.loop.given.items c.loop.counter c.args.count e c.loop.invariant
