use Rattle.std.proofs.Common.{List, drop, sym, subst, arith}
use Rattle.warp_stores.specs.Words.{Move}
use Rattle.warp_gates.specs.Inner.Undoing.{AreRestored}
use Rattle.warp_gates.proofs.Undoing.{drop_back}
use Rattle.warp_gates.proofs.restore.restore_all.Goals as goal

pub loop-left-preserved : goal.loop-left-preserved
loop-left-preserved c = record {
  within = omega (arith, c.loop-left.invariant.within);
  restored = subst (λ (ws : List Move). AreRestored c.args.wiring.now ws c.args.fronts.now c.restore_one.new.fronts)
      (sym (drop_back c.args.words.now c.loop-left.left c.index-words-left.result c.loop-left-test.true c.loop-left.invariant.within c.index-words-left.is))
      (c.restore_one.ensures c.args.fronts.now (drop c.loop-left.left c.args.words.now) c.loop-left.invariant.restored);
}
