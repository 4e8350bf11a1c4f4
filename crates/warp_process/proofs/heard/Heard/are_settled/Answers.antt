use Rattle.std.proofs.Common.{sym, subst, arith}
use Rattle.warp_process.specs.Rows.{IsRow}
use Rattle.warp_process.proofs.Hearing.{seen_rows}
use Rattle.warp_process.proofs.Settling.{settled_nowhere, settled_past, settled_more}
use Rattle.warp_process.proofs.heard.Heard.are_settled.Goals as goal

pub returns-in_default : goal.returns-in_default
returns-in_default c = λ yes_.
    settled_nowhere c.args.self.now c.args.end c.self.inside.rows (seen_rows c.self.inside c.args.self.now c.self.view_is c.self.invariant) c.loop-from.from c.loop-from.invariant.settled c.in_default.ensures.least

pub returns-then-time-end : goal.returns-then-time-end
returns-then-time-end c = λ yes_.
    settled_past c.args.self.now c.args.end c.self.inside.rows (seen_rows c.self.inside c.args.self.now c.self.view_is c.self.invariant) c.loop-from.from c.loop-from.invariant.settled
    c.in-Some.time c.in-Some.ensures.least c.if-time-end.true

pub are_settled-requires : goal.are_settled-requires
are_settled-requires c = subst IsRow (sym c.in-Some.ensures.row) (c.self.invariant.rows.each c.in-Some.time)

pub loop-from-preserved : goal.loop-from-preserved
loop-from-preserved c = record {
  past = (let low = c.in-Some.ensures.least.0.0 in omega (arith, low, c.loop-from.invariant.past));
  settled = settled_more c.args.self.now c.args.end c.self.inside.rows (seen_rows c.self.inside c.args.self.now c.self.view_is c.self.invariant) c.loop-from.from c.loop-from.invariant.settled
      c.in-Some.time c.in-Some.ensures.least c.in-Some.row.now c.in-Some.ensures.row (c.are_settled.ensures c.if-not-are_settled.false);
}
