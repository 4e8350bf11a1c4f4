use Rattle.std.proofs.Common.{◌≡◌, ◌∙◌, ℕ, false, Some, ap, sym, subst, arith}
use Rattle.warp_stores.specs.Delays.{least_due}
use Rattle.warp_process.specs.View.{IsLeast, IsEventTime}
use Rattle.warp_process.specs.Played.{played_view}
use Rattle.part_engine.specs.Runs.{begins_of}
use Rattle.part_engine.specs.Inner.Soonest.{sooner}
use Rattle.part_engine.proofs.Soonest.{least_first, least_next, least_none}
use Rattle.part_engine.proofs.next.next_time.Goals as goal
use Rattle.part_engine.proofs.next.next_time.Goals.{else-begins-via-then-begins+else-mark-eq0, else-begins-via-else-begins}

pub returns-then-mark-eq0 : goal.returns-then-mark-eq0
returns-then-mark-eq0 c =
    least_first c.args.heard.now c.args.engine.now c.requires.engine.0 c.requires.engine.1 (sym c.mark-mark.ensures ∙ c.if-mark-eq0.true) (sym c.requires.begins ∙ c.if-begins.true)

pub returns-then-next-horizon : goal.returns-then-next-horizon
returns-then-next-horizon c =
    let v = c.args.heard.now in
    let run = c.args.engine.now in
    let next_is : c.sooner-next.result ≡ sooner c.args.brought (least_due run.book.queues.read) = c.sooner-next.ensures ∙ ap (sooner c.args.brought) c.next.ensures in
    let start : run.book.mark ≡ 0 → begins_of v.part ≡ false = λ e. elim c.else-begins.branch [
      | else-begins-via-then-begins+else-mark-eq0 w ↦ absurd (w.if-mark-eq0.false (c.mark-mark.ensures ∙ e))
      | else-begins-via-else-begins w ↦ sym c.requires.begins ∙ w.if-begins.false
    ] in
    subst (λ (t : ℕ). IsLeast (IsEventTime (played_view v run.book.mark)) (Some t)) (sym next_is)
    (least_next v run c.requires.engine.0 c.requires.engine.1 start (omega (arith, c.mark-mark.ensures, c.mark-mark.type_inv)) c.requires.quiet c.args.brought c.requires.brought
    (omega (arith, next_is, c.if-next-horizon.true, c.horizon.ensures.horizon)))

pub returns-else-next-horizon : goal.returns-else-next-horizon
returns-else-next-horizon c =
    let v = c.args.heard.now in
    let run = c.args.engine.now in
    let next_is : c.sooner-next.result ≡ sooner c.args.brought (least_due run.book.queues.read) = c.sooner-next.ensures ∙ ap (sooner c.args.brought) c.next.ensures in
    let start : run.book.mark ≡ 0 → begins_of v.part ≡ false = λ e. elim c.else-begins.branch [
      | else-begins-via-then-begins+else-mark-eq0 w ↦ absurd (w.if-mark-eq0.false (c.mark-mark.ensures ∙ e))
      | else-begins-via-else-begins w ↦ sym c.requires.begins ∙ w.if-begins.false
    ] in
    least_none v run c.requires.engine.0 c.requires.engine.1 start (omega (arith, c.mark-mark.ensures, c.mark-mark.type_inv)) c.requires.quiet c.args.brought c.requires.brought
    (omega (arith, next_is, c.if-next-horizon.false, c.horizon.ensures.horizon))
