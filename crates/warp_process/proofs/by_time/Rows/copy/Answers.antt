use Rattle.std.proofs.Common.{inl, inr, sym, ◌∙◌, subst, arith}
use Rattle.std.proofs.lemmas.Bool.{cases_lt}
use Rattle.warp_process.specs.declared.by_time.Rows.{Rows}
use Rattle.warp_process.specs.Rows.{IsRow}
use Rattle.warp_process.proofs.ByTime.{row_set, rows_after, copied_more, rest_more, unlisted_none}
use Rattle.warp_process.proofs.by_time.Rows.copy.Goals.{else-loop-from-test, then-loop-from-test+in_default, then-loop-from-test+in-Some+then-time-end}
use Rattle.warp_process.proofs.by_time.Rows.copy.Goals as goal

pub loop-from-init : goal.loop-from-init
loop-from-init c = record {
  rows = c.new-rows.ensures.rows;
  copied = λ t i l. absurd (omega (arith, l));
  rest = λ t i l. c.new-rows.ensures.none t i;
}

pub loop-from-preserved : goal.loop-from-preserved
loop-from-preserved c =
    let new : Rows = record { alloc = c.loop-from.rows.alloc; times = c.insert.new.self } in
    let set = row_set c.loop-from.rows new c.in-Some.time c.in_ok-copy.field-0 c.in_ok-insert.ensures.updates.0 in
    let same = c.in_ok-copy.ensures ∙ c.in-Some.ensures.row in
    let low = c.in-Some.ensures.least.0.0 in
    record {
      rows = rows_after c.loop-from.rows new c.in-Some.time c.in_ok-copy.field-0.items set c.loop-from.invariant.rows c.insert.ensures.ordered (subst IsRow (sym same) (c.requires.rows.each c.in-Some.time));
      copied = copied_more c.args.self.now c.loop-from.rows new c.in-Some.time c.loop-from.from c.in_ok-copy.field-0.items set
          (λ t i from l. unlisted_none c.args.self.now t i (λ listed. (let below = c.in-Some.ensures.least.1 t (from, listed) in omega (arith, below, l))))
          same c.loop-from.invariant.copied c.loop-from.invariant.rest;
      rest = rest_more c.args.self.now c.loop-from.rows new c.in-Some.time c.loop-from.from c.in_ok-copy.field-0.items set low c.loop-from.invariant.rest;
    }

pub returns-clause-same : goal.returns-clause-same
returns-clause-same c t i = elim (cases_lt t c.loop-from.from) [
  | inl early ↦ c.loop-from.invariant.copied t i early
  | inr late ↦ c.loop-from.invariant.rest t i late ∙ sym (elim c.loop-from-test.branch [
    | else-loop-from-test w ↦ c.requires.end t i (omega (arith, w.loop-from-test.false, late))
    | then-loop-from-test+in_default w ↦ unlisted_none c.args.self.now t i (λ listed. w.in_default.ensures.least t (late, listed))
    | then-loop-from-test+in-Some+then-time-end w ↦ (elim (cases_lt t c.args.end) [
      | inl l ↦ unlisted_none c.args.self.now t i (λ listed. (let below = w.in-Some.ensures.least.1 t (late, listed) in omega (arith, below, l, w.if-time-end.true)))
      | inr past ↦ c.requires.end t i past
    ])
  ])
]
