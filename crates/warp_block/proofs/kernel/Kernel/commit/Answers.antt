use Rattle.std.proofs.Common.{◌≡◌, ◌∙◌, ℕ, ap, sym, subst}
use Rattle.event_times.specs.Marks.{Played}
use Rattle.warp_engine.specs.Runs.{Run, HasDropped}
use Rattle.warp_process.specs.View.{View, Process}
use Rattle.warp_process.specs.Heard.{IsReceived}
use Rattle.warp_process.specs.Commit.{IsCommittable, IsCommitted}
use Rattle.part_engine.specs.Runs.{begins_of}
use Rattle.warp_block.specs.Shown.Block.{seen_by, process_by}
use Rattle.warp_block.specs.Inner.Held.{IsAt}
use Rattle.warp_block.proofs.Keeping.{kept_at, logs_kept, kept_committed, own_committed}
use Rattle.warp_block.proofs.kernel.Kernel.commit.Goals as goal

pub commit-requires-clause-settled : goal.commit-requires-clause-settled
commit-requires-clause-settled c =
    let can : IsCommittable (seen_by c.self.inside.heard c.self.inside.engine) c.args.floor = subst (λ (p : Process). IsCommittable p.seen c.args.floor) (sym c.self.view_is) c.in_ok-may_commit.ensures.ok in
    can.settled

pub invariant_of-self : goal.invariant_of-self
invariant_of-self c =
    let v : View = c.self.inside.heard in
    let run : Run = c.self.inside.engine in
    let played : Played = c.self.inside.times in
    let can : IsCommittable (seen_by c.self.inside.heard c.self.inside.engine) c.args.floor = subst (λ (p : Process). IsCommittable p.seen c.args.floor) (sym c.self.view_is) c.in_ok-may_commit.ensures.ok in
    let dropped : HasDropped c.keep_from.new.self.first run c.forget_below.new.self = subst (λ k. HasDropped k run c.forget_below.new.self) c.oldest.ensures c.forget_below.ensures in
    let received : IsReceived (record c.self.inside.heard { floor = c.args.floor }) = subst IsReceived c.commit.ensures c.law.ensures in
    record {
      at = subst (λ (h : View). IsAt h c.forget_below.new.self c.keep_from.new.self) (sym c.commit.ensures)
          (kept_at v run played c.self.invariant.at c.args.floor can c.keep_from.new.self c.keep_from.ensures c.forget_below.new.self dropped received);
      begins = c.self.invariant.begins ∙ ap (λ (h : View). begins_of h.part) (sym c.commit.ensures);
    }

pub returns-clause-ok : goal.returns-clause-ok
returns-clause-ok c =
    let v : View = c.self.inside.heard in
    let run : Run = c.self.inside.engine in
    let played : Played = c.self.inside.times in
    let can : IsCommittable (seen_by c.self.inside.heard c.self.inside.engine) c.args.floor = subst (λ (p : Process). IsCommittable p.seen c.args.floor) (sym c.self.view_is) c.in_ok-may_commit.ensures.ok in
    let dropped : HasDropped c.keep_from.new.self.first run c.forget_below.new.self = subst (λ k. HasDropped k run c.forget_below.new.self) c.oldest.ensures c.forget_below.ensures in
    let received : IsReceived (record c.self.inside.heard { floor = c.args.floor }) = subst IsReceived c.commit.ensures c.law.ensures in
    subst (λ (p : Process). IsCommitted p (process_by c.commit.new.self c.forget_below.new.self c.keep_from.new.self) c.args.floor) c.self.view_is
    (subst (λ (h : View). IsCommitted (process_by v run played) (process_by h c.forget_below.new.self c.keep_from.new.self) c.args.floor) (sym c.commit.ensures)
    (kept_committed v run played c.self.invariant.at c.args.floor can c.keep_from.new.self c.keep_from.ensures c.forget_below.new.self dropped received))

-- the floor is the block's own
pub returns-then-floor-clause-ok : goal.returns-then-floor-clause-ok
returns-then-floor-clause-ok c =
    let own : c.args.floor ≡ c.self.inside.heard.floor = c.if-floor.true ∙ c.floor.ensures in
    subst (λ (p : Process). IsCommitted p p c.args.floor) c.self.view_is
    (subst (λ (time : ℕ). IsCommitted (process_by c.self.inside.heard c.self.inside.engine c.self.inside.times) (process_by c.self.inside.heard c.self.inside.engine c.self.inside.times) time) (sym own)
    (own_committed c.self.inside.heard c.self.inside.engine c.self.inside.times c.self.invariant.at))

pub returns-clause-logs : goal.returns-clause-logs
returns-clause-logs c =
    let v : View = c.self.inside.heard in
    let run : Run = c.self.inside.engine in
    let played : Played = c.self.inside.times in
    let can : IsCommittable (seen_by c.self.inside.heard c.self.inside.engine) c.args.floor = subst (λ (p : Process). IsCommittable p.seen c.args.floor) (sym c.self.view_is) c.in_ok-may_commit.ensures.ok in
    let dropped : HasDropped c.keep_from.new.self.first run c.forget_below.new.self = subst (λ k. HasDropped k run c.forget_below.new.self) c.oldest.ensures c.forget_below.ensures in
    let received : IsReceived (record c.self.inside.heard { floor = c.args.floor }) = subst IsReceived c.commit.ensures c.law.ensures in
    subst (λ (p : Process). (seen_by c.commit.new.self c.forget_below.new.self).logs ≡ p.seen.logs) c.self.view_is
    (subst (λ (h : View). (seen_by h c.forget_below.new.self).logs ≡ (seen_by v run).logs) (sym c.commit.ensures)
    (logs_kept v run played c.self.invariant.at c.args.floor can c.keep_from.new.self c.keep_from.ensures c.forget_below.new.self dropped received))
