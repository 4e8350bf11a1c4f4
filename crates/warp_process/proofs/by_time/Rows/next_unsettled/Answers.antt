use Rattle.std.proofs.Common.{◌≡◌, ◌≢◌, true, List, inl, inr, ap, sym, ◌∙◌, subst, arith}
use Rattle.std.proofs.lemmas.Bool.{cases_lt, cases_eq}
use Rattle.warp_process.specs.declared.entry.Entry.{Entry}
use Rattle.warp_process.specs.Entries.{is_settled}
use Rattle.warp_process.specs.Rows.{Standing, IsRow, entry_on}
use Rattle.warp_process.specs.Inner.Rows.{entry_at}
use Rattle.warp_process.proofs.ByTime.{unlisted_none}
use Rattle.warp_process.proofs.Settled.{settled-none}
use Rattle.warp_process.proofs.by_time.Rows.next_unsettled.Goals as goal

pub entry_on-requires : goal.entry_on-requires
entry_on-requires c = subst IsRow (sym c.in_ok-time.ensures.row) (c.requires.each c.in_ok-time.time)

pub loop-start-preserved : goal.loop-start-preserved
loop-start-preserved c = record {
  later = (let low = c.in_ok-time.ensures.least.0.0 in omega (arith, low, c.loop-start.invariant.later));
  passed = λ t from l. elim (cases_eq t c.in_ok-time.time) [
    | inl here ↦ subst (λ u. is_settled (entry_at c.args.self.now u c.args.place) ≡ true) (sym here)
        (subst (λ (e : Entry). is_settled e ≡ true) (c.entry_on.ensures ∙ ap (λ (ss : List Standing). entry_on ss c.args.place) c.in_ok-time.ensures.row) (c.is_settled.ensures.0 c.if-not-is_settled.false))
    | inr other ↦ (elim (cases_lt t c.loop-start.start) [
      | inl early ↦ c.loop-start.invariant.passed t from early
      | inr late ↦ subst (λ (e : Entry). is_settled e ≡ true)
          (sym (unlisted_none c.args.self.now t c.args.place (λ listed. (let below = c.in_ok-time.ensures.least.1 t (late, listed) in let ne : t ≢ c.in_ok-time.time = other in omega (arith, below, l, ne))))) settled-none
    ])
  ];
}
