use Rattle.std.proofs.Common.{◌≡◌, Some, None, Option, is_some, false, refl, ap, sym, ◌∙◌, subst, arith, IsSome}
use Rattle.std.proofs.lemmas.Bool.{true≢false}
use Rattle.gate_values.specs.declared.logic.Logic.{Logic}
use Rattle.warp_process.specs.declared.entry.Entry.{Entry}
use Rattle.warp_process.specs.Entries.{effective_of}
use Rattle.warp_process.proofs.RowOrder.{every_place, one_more, entry_on-at}
use Rattle.warp_process.proofs.row.has_effective.Goals as goal

pub returns-then-is_some : goal.returns-then-is_some
returns-then-is_some c = (
  λ yes_. (
    c.placed-item.result.place,
    subst (λ (e : Entry). IsSome (effective_of e))
        (ap (λ s. s.entry) c.placed-item.is ∙ entry_on-at c.args.row.now c.loop-placed.placed-index c.placed-item.result.place c.placed-item.result c.requires.in_order c.loop-placed-test.true (ap (λ s. s.place) (sym c.placed-item.is)))
        (subst (λ (o : Option Logic). IsSome o) c.effective.ensures (sym c.is_some.ensures ∙ c.if-is_some.true)),
  ),
  λ some. refl,
)

none_there : (o : Option Logic) → is_some o ≡ false → o ≡ None
none_there None e = refl
none_there (Some v) e = absurd (true≢false e)

pub loop-placed-preserved : goal.loop-placed-preserved
loop-placed-preserved c =
    one_more (λ (e : Entry). effective_of e ≡ None) c.args.row.now c.loop-placed.placed-index c.placed-item.result c.loop-placed-test.true c.placed-item.is
    (none_there (effective_of c.placed-item.result.entry) (ap is_some (sym c.effective.ensures) ∙ (sym c.is_some.ensures ∙ c.if-is_some.false))) c.loop-placed.invariant

pub returns : goal.returns
returns c = (
  λ none. absurd (true≢false (sym none)),
  λ h. absurd (true≢false (sym (subst (λ (o : Option Logic). IsSome o)
      (every_place (λ (e : Entry). effective_of e ≡ None) c.args.row.now refl (λ k d l. c.loop-placed.invariant k d (omega (arith, l, c.loop-placed-test.false))) h.0) h.1))),
)
