use Rattle.std.proofs.Common.{◌≡◌, ℕ, ◌<◌, ◌≤◌, Option, Some, None, refl, ap, subst, arith}
use Rattle.std.proofs.lemmas.Bool.{iff_false}
use Rattle.warp_process.specs.View.{Process, IsLeast, IsEventTime}
use Rattle.warp_process.specs.Commit.{IsUnsettledBelow, IsFirstUnsettled}
use Rattle.warp_block.proofs.kernel.Kernel.may_commit.Goals as goal

-- where the least is not below an end, none is
none_below : (P : ℕ → Type 0) (least : Option ℕ) (end : ℕ) → IsLeast P least → ¬ ((t : ℕ) × (least ≡ Some t) × (t < end)) → (t : ℕ) → t < end → ¬ P t
none_below P None end h late t l p = h t p
none_below P (Some s) end h late t l p = late (s, refl, omega (arith, h.1 t p, l))

pub returns-then-floor-clause-err : goal.returns-then-floor-clause-err
returns-then-floor-clause-err c =
    let same = ap (λ (p : Process). p.seen.floor) c.self.view_is in
    omega (arith, same, c.if-floor.true, c.floor.ensures)

pub returns-then-is_before-clause-err : goal.returns-then-is_before-clause-err
returns-then-is_before-clause-err c =
    let same = ap (λ (p : Process). p.seen.floor) c.self.view_is in
    let forward : c.args.self.now.seen.floor ≤ c.args.floor = omega (arith, same, c.if-floor.false, c.floor.ensures) in
    let early = c.is_before.ensures.0 c.if-is_before.true in
    let event : IsLeast (IsEventTime c.args.self.now.seen) (Some early.0) = subst (IsLeast (IsEventTime c.args.self.now.seen)) early.1 c.next_time.ensures in
    (forward, (early.0, (early.2, event.0)))

pub returns-in-Some-clause-err : goal.returns-in-Some-clause-err
returns-in-Some-clause-err c =
    let same = ap (λ (p : Process). p.seen.floor) c.self.view_is in
    let forward : c.args.self.now.seen.floor ≤ c.args.floor = omega (arith, same, c.if-floor.false, c.floor.ensures) in
    let late = iff_false c.is_before.ensures c.if-is_before.false in
    let first : IsFirstUnsettled c.args.self.now.seen c.args.floor c.in-Some.net c.in-Some.time =
    subst (λ (p : Process). IsFirstUnsettled p.seen c.args.floor c.in-Some.net c.in-Some.time) c.self.view_is c.in-Some.ensures.some in
    (forward, λ t below. none_below (IsEventTime c.args.self.now.seen) c.next_time.result c.args.floor c.next_time.ensures late t below.0 below.1, first)

pub returns-in-None-clause-ok : goal.returns-in-None-clause-ok
returns-in-None-clause-ok c =
    let same = ap (λ (p : Process). p.seen.floor) c.self.view_is in
    let forward : c.args.self.now.seen.floor ≤ c.args.floor = omega (arith, same, c.if-floor.false, c.floor.ensures) in
    let late = iff_false c.is_before.ensures c.if-is_before.false in
    record {
      forward = forward;
      processed = λ t below. none_below (IsEventTime c.args.self.now.seen) c.next_time.result c.args.floor c.next_time.ensures late t below.0 below.1;
      settled = subst (λ (p : Process). (n t : ℕ) → ¬ IsUnsettledBelow p.seen c.args.floor n t) c.self.view_is c.in-None.ensures.none;
    }
