use Rattle.std.proofs.Common.{ℕ, List, length, min, sym, ap}
use Rattle.warp_gates.proofs.Passing.{no_edges}
use Rattle.warp_gates.proofs.clocked.Clocked.room_for.Goals as goal

pub returns-then-passes : goal.returns-then-passes
returns-then-passes c = ap (λ (es : List ℕ). min (length es) 18446744073709551615) (sym (no_edges c.args.self.now c.args.words.now (c.passes.ensures c.if-passes.true)))
