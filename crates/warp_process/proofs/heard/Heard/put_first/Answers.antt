use Rattle.std.proofs.Common.{List, Result, Ok, Err, IfOk, OnErr, ap, ◌∙◌, arith}
use Rattle.warp_process.specs.Entries.{one_message}
use Rattle.warp_process.specs.Rows.{Standing, entry_on}
use Rattle.warp_process.proofs.Hearing.{in_heard, held_entry}
use Rattle.warp_process.proofs.Putting.{put_is, held_after, view_alike, held_alike, either_way}
use Rattle.warp_process.proofs.Settled.{settled-one}
use Rattle.warp_process.proofs.heard.Heard.put_first.Goals as goal

ok_more : {A B : Type 0} (P Q : A → Type 0) (r : Result A B) → ((x : A) → P x → Q x) → IfOk r P → IfOk r Q
ok_more P Q (Ok x) more h = more x h
ok_more P Q (Err e) more h = tt

err_more : {A B : Type 0} (P Q : Type 0) (r : Result A B) → (P → Q) → OnErr r P → OnErr r Q
err_more P Q (Ok x) more h = tt
err_more P Q (Err e) more h = more h

pub invariant_of-self : goal.invariant_of-self
invariant_of-self c =
    either_way c.put_first.result _ _ c.put_first.ensures.put c.put_first.ensures.left c.put_first.ensures.err
    (λ h. held_after c.self.inside c.self.invariant c.put_first.new.self c.self.inside.sure c.put_first.ensures.rows c.args.slot c.args.time (one_message c.args.value) (in_heard c.self.inside c.args.self.now c.args.slot c.self.view_is c.requires.slot) h.1
    (rw (← c.self.view_is) at c.requires.heard) (rw (← c.self.view_is) at c.requires.from) (rw (← c.self.view_is) at c.requires.until) (omega arith) (λ _. settled-one c.args.value))
    (λ same. held_alike c.self.inside c.self.invariant c.put_first.new.self c.put_first.ensures.rows (λ t i. ap (λ (ss : List Standing). entry_on ss i) (same t)))

pub returns-clause-put : goal.returns-clause-put
returns-clause-put c =
    let in_nets = in_heard c.self.inside c.args.self.now c.args.slot c.self.view_is c.requires.slot in
    rw (← c.self.view_is) (ok_more _ _ c.put_first.result
    (λ put h yes_. (
      held_entry c.self.inside c.self.invariant.rows.ordered c.self.invariant.received.part.ascending c.args.slot c.args.time in_nets ∙ (h yes_).0,
      put_is c.self.inside c.self.invariant c.put_first.new.self c.self.inside.sure c.put_first.ensures.rows c.args.slot c.args.time (one_message c.args.value) in_nets (h yes_).1,
    )) c.put_first.ensures.put)

pub returns-clause-left : goal.returns-clause-left
returns-clause-left c =
    ok_more _ _ c.put_first.result
    (λ put h none. view_alike c.self.inside c.self.invariant c.put_first.new.self c.put_first.ensures.rows (λ t i. ap (λ (ss : List Standing). entry_on ss i) (h none t)) ∙ c.self.view_is) c.put_first.ensures.left

pub returns-clause-err : goal.returns-clause-err
returns-clause-err c =
    err_more _ _ c.put_first.result
    (λ same. view_alike c.self.inside c.self.invariant c.put_first.new.self c.put_first.ensures.rows (λ t i. ap (λ (ss : List Standing). entry_on ss i) (same t)) ∙ c.self.view_is) c.put_first.ensures.err

pub returns-clause-absent : goal.returns-clause-absent
returns-clause-absent c =
    let in_nets = in_heard c.self.inside c.args.self.now c.args.slot c.self.view_is c.requires.slot in
    rw (← c.self.view_is) (err_more _ _ c.put_first.result
    (λ none. held_entry c.self.inside c.self.invariant.rows.ordered c.self.invariant.received.part.ascending c.args.slot c.args.time in_nets ∙ none) c.put_first.ensures.absent)
