use Rattle.std.proofs.Common.{◌≡◌, ℕ, ◌+◌, Option, Some, None, length, sym, ◌∙◌, subst, arith}
use Rattle.warp_process.specs.View.{IsLeast}
use Rattle.warp_process.proofs.Next.{HasNews, next_none, next_skip, next_more, next_some, next_past, next_never}
use Rattle.warp_block.proofs.look.Look.next_from.Goals as goal
use Rattle.warp_block.proofs.look.Look.next_from.Goals.{then-is_used, else-is_used}

pub loop-slot-init : goal.loop-slot-init
loop-slot-init c = next_none c.args.self.now c.args.from

pub loop-slot-preserved : goal.loop-slot-preserved
loop-slot-preserved c =
    let v = c.args.self.now in
    elim c.if-is_used.branch [
      | then-is_used w ↦ subst (λ (r : Option ℕ). IsLeast (HasNews v c.args.from (c.loop-slot.slot + 1)) r) (sym (w.next-is ∙ w.earlier-next.ensures))
          (next_more v c.args.from c.loop-slot.slot c.loop-slot.next w.next_news.result (rw c.part-in-loop-slot.ensures at (sym c.is_used.ensures ∙ w.if-is_used.true)) c.loop-slot.invariant w.next_news.ensures)
      | else-is_used w ↦ subst (λ (r : Option ℕ). IsLeast (HasNews v c.args.from (c.loop-slot.slot + 1)) r) (sym w.next-is)
          (next_skip v c.args.from c.loop-slot.slot c.loop-slot.next (rw c.part-in-loop-slot.ensures at (sym c.is_used.ensures ∙ w.if-is_used.false)) c.loop-slot.invariant)
    ]

pub returns-in-Some : goal.returns-in-Some
returns-in-Some c =
    let v = c.args.self.now in
    let many : c.len-slot-end.result ≡ length v.part.nets = rw c.part.ensures at c.len-slot-end.ensures.count in
    let e : c.loop-slot.slot ≡ length v.part.nets = omega (arith, many) in
    let all = subst (λ (k : ℕ). IsLeast (HasNews v c.args.from k) (Some c.in-Some.time)) e (subst (λ (r : Option ℕ). IsLeast (HasNews v c.args.from c.loop-slot.slot) r) c.in-Some.is c.loop-slot.invariant) in
    next_some v c.args.from c.in-Some.time all (rw c.horizon.ensures at c.if-time-horizon.true)

pub returns-in_default : goal.returns-in_default
returns-in_default c =
    let v = c.args.self.now in
    let many : c.len-slot-end.result ≡ length v.part.nets = rw c.part.ensures at c.len-slot-end.ensures.count in
    let e : c.loop-slot.slot ≡ length v.part.nets = omega (arith, many) in
    let all = subst (λ (k : ℕ). IsLeast (HasNews v c.args.from k) (Some c.in-Some.time)) e (subst (λ (r : Option ℕ). IsLeast (HasNews v c.args.from c.loop-slot.slot) r) c.in-Some.is c.loop-slot.invariant) in
    next_past v c.args.from c.in-Some.time all (rw c.horizon.ensures at c.if-time-horizon.false)

pub returns-in_default-2 : goal.returns-in_default-2
returns-in_default-2 c =
    let v = c.args.self.now in
    let many : c.len-slot-end.result ≡ length v.part.nets = rw c.part.ensures at c.len-slot-end.ensures.count in
    let e : c.loop-slot.slot ≡ length v.part.nets = omega (arith, many) in
    let all = subst (λ (k : ℕ). IsLeast (HasNews v c.args.from k) None) e (subst (λ (r : Option ℕ). IsLeast (HasNews v c.args.from c.loop-slot.slot) r) c.in_default.is c.loop-slot.invariant) in
    next_never v c.args.from all
