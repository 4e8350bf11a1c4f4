use Rattle.std.proofs.Common.{◌≡◌, ap, subst, sym, ◌∙◌, arith}
use Rattle.std.proofs.lemmas.Bool.{true≢false}
use Rattle.warp_process.specs.Rows.{IsRow}
use Rattle.warp_process.specs.View.{View}
use Rattle.warp_process.proofs.Hearing.{seen_received, seen_rows}
use Rattle.warp_process.proofs.Scanning.{over, none_left, past, found, more}
use Rattle.warp_process.proofs.Finding.{IsHeardAt, heard_listed, heard_within, heard_row, row_heard}
use Rattle.warp_process.proofs.heard.Heard.next.Goals as goal

pub returns-in_err-time : goal.returns-in_err-time
returns-in_err-time c =
    let is = seen_received c.self.inside c.args.self.now c.self.view_is c.self.invariant in
    let rowed = seen_rows c.self.inside c.args.self.now c.self.view_is c.self.invariant in
    rw c.from_residual.ensures
    (none_left c.self.inside.rows c.args.from (IsHeardAt c.args.self.now) (heard_listed c.args.self.now c.self.inside.rows is rowed) c.loop-start.start c.loop-start.invariant.later c.loop-start.invariant.passed c.in_err-time.ensures.least)

pub returns-then-time-self : goal.returns-then-time-self
returns-then-time-self c =
    let is = seen_received c.self.inside c.args.self.now c.self.view_is c.self.invariant in
    let rowed = seen_rows c.self.inside c.args.self.now c.self.view_is c.self.invariant in
    past c.self.inside.rows c.args.from (IsHeardAt c.args.self.now) (heard_listed c.args.self.now c.self.inside.rows is rowed) c.loop-start.start c.loop-start.invariant.later c.loop-start.invariant.passed c.in_ok-time.time c.in_ok-time.ensures.least
    (λ t m. heard_within c.args.self.now c.self.inside.rows is rowed t (let same : c.self.inside.horizon ≡ c.args.self.now.horizon = ap (λ (w : View). w.horizon) c.self.view_is in omega (arith, same, c.if-time-self.true, m)))

pub has_effective-requires : goal.has_effective-requires
has_effective-requires c = subst IsRow (sym c.in_ok-time.ensures.row) (c.self.invariant.rows.each c.in_ok-time.time)

pub returns-then-has_effective : goal.returns-then-has_effective
returns-then-has_effective c =
    let is = seen_received c.self.inside c.args.self.now c.self.view_is c.self.invariant in
    let rowed = seen_rows c.self.inside c.args.self.now c.self.view_is c.self.invariant in
    found c.self.inside.rows c.args.from (IsHeardAt c.args.self.now) (heard_listed c.args.self.now c.self.inside.rows is rowed) c.loop-start.start c.loop-start.invariant.later c.loop-start.invariant.passed c.in_ok-time.time c.in_ok-time.ensures.least
    (row_heard c.args.self.now c.self.inside.rows is rowed c.in_ok-time.time c.in_ok-time.row.now c.in_ok-time.ensures.row (c.has_effective.ensures.0 c.if-has_effective.true))

pub loop-start-preserved : goal.loop-start-preserved
loop-start-preserved c =
    let is = seen_received c.self.inside c.args.self.now c.self.view_is c.self.invariant in
    let rowed = seen_rows c.self.inside c.args.self.now c.self.view_is c.self.invariant in
    record {
      later = (let from = c.in_ok-time.ensures.least.0.0 in omega (arith, from, c.loop-start.invariant.later));
      passed = more c.self.inside.rows c.args.from (IsHeardAt c.args.self.now) (heard_listed c.args.self.now c.self.inside.rows is rowed) c.loop-start.start c.loop-start.invariant.later c.loop-start.invariant.passed c.in_ok-time.time c.in_ok-time.ensures.least
          (λ heard. true≢false (sym (c.has_effective.ensures.1 (heard_row c.args.self.now c.self.inside.rows is rowed c.in_ok-time.time c.in_ok-time.row.now c.in_ok-time.ensures.row heard)) ∙ c.if-has_effective.false));
    }

pub returns : goal.returns
returns c =
    let is = seen_received c.self.inside c.args.self.now c.self.view_is c.self.invariant in
    let rowed = seen_rows c.self.inside c.args.self.now c.self.view_is c.self.invariant in
    over c.self.inside.rows c.args.from (IsHeardAt c.args.self.now) (heard_listed c.args.self.now c.self.inside.rows is rowed) c.loop-start.start c.loop-start.invariant.later c.loop-start.invariant.passed
    (λ t m. heard_within c.args.self.now c.self.inside.rows is rowed t (let same : c.self.inside.horizon ≡ c.args.self.now.horizon = ap (λ (w : View). w.horizon) c.self.view_is in omega (arith, same, c.loop-start-test.false, m)))
