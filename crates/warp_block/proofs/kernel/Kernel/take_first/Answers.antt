use Rattle.std.proofs.Common.{◌≡◌, ◌<◌, ℕ, true, get_or, None, inl, inr, refl, ap, sym, ◌∙◌, subst, arith}
use Rattle.std.specs.Result.{IfErr}
use Rattle.std.proofs.lemmas.Bool.{cases_Bool}
use Rattle.warp_engine.specs.Runs.{Run}
use Rattle.warp_part.specs.Portion.{hears}
use Rattle.warp_part.proofs.Slots.{slot_is}
use Rattle.warp_process.specs.declared.message.Message.{Message}
use Rattle.warp_process.specs.declared.message.Sign.TheVariants.{Minus}
use Rattle.warp_process.specs.Entries.{one_message, no_messages}
use Rattle.warp_process.specs.View.{View, Process, entry_of}
use Rattle.warp_process.specs.Receive.{IsTaken, IsRefusal, refusal_of}
use Rattle.warp_process.specs.Shown.Receive.{IsAdmitted, IsFirstAt}
use Rattle.warp_process.specs.Sends.{SendsOnce}
use Rattle.warp_process.proofs.Sends.{once_nothing, same_logs, same_standing}
use Rattle.warp_process.proofs.Receiving.{refused_memory}
use Rattle.part_engine.specs.Runs.{begins_of}
use Rattle.warp_block.specs.Shown.Block.{seen_by}
use Rattle.warp_block.specs.Inner.HeldKernel.{IsHeldKernel}
use Rattle.warp_block.proofs.Admitting.{taken_in_time}
use Rattle.warp_block.proofs.Returning.{taken_at, taken_logs}
use Rattle.warp_block.proofs.kernel.Kernel.take_first.Goals as goal

-- a message that is the first of its net and time is admitted
admitted : (v : View) (m : Message) (slot : ℕ) → IsFirstAt v m slot → entry_of v (get_or v.part.nets slot 0) m.time ≡ no_messages → IsAdmitted v m slot (one_message m.value)
admitted v m slot first none = first.admitted (subst (λ (n : ℕ). entry_of v n m.time ≡ no_messages) (slot_is v.part.nets m.net slot first.place).1 none)

pub put_first-requires-clause-heard : goal.put_first-requires-clause-heard
put_first-requires-clause-heard c =
    let v : View = c.self.inside.heard in
    subst (λ (n : ℕ). hears v.part n ≡ true) (sym (slot_is v.part.nets c.args.message.net c.in-Some.slot c.in-Some.ensures.place).1) c.in-Some.ensures.heard

pub returns-in_err-taken-clause-refused : goal.returns-in_err-taken-clause-refused
returns-in_err-taken-clause-refused c =
    let P : Process → Type 0 = λ p. IfErr c.from_residual.result (IsRefusal (refusal_of p.seen c.args.message)) in
    subst P c.self.view_is (refused_memory c.from_residual.result (refusal_of (seen_by c.self.inside.heard c.self.inside.engine) c.args.message) c.from_residual.ensures.1
    (admitted c.self.inside.heard c.args.message c.in-Some.slot c.in-Some.ensures c.in_err-taken.ensures.absent).accepted)

pub invariant_of-self-2 : goal.invariant_of-self-2
invariant_of-self-2 c =
    let m = c.args.message in
    let v : View = c.self.inside.heard in
    let run : Run = c.self.inside.engine in
    let at = c.self.invariant.at in
    elim (cases_Bool c.in_ok-taken.taken) [
      | inl yes_ ↦
          (let put = (c.in_ok-taken.ensures.put yes_).1 in
          record {
            at = taken_at v c.put_first.new.self (get_or v.part.nets c.in-Some.slot 0) m.time (one_message m.value) put at.engine.received c.law.ensures run c.self.inside.times at c.in-Some.ensures.from
                (inl (omega (arith, c.mark.ensures, c.if-message-mark.false)));
            begins = c.self.invariant.begins ∙ ap begins_of (sym put.part);
          })
      | inr no_ ↦ subst (λ (w : View). IsHeldKernel (record { heard = w; begins = c.self.inside.begins; engine = c.self.inside.engine; times = c.self.inside.times; words = c.self.inside.words; made = c.self.inside.made }))
          (sym (c.in_ok-taken.ensures.left no_)) c.self.invariant
    ]

pub returns-clause-accepted : goal.returns-clause-accepted
returns-clause-accepted c = λ yes_.
    (let P : Process → Type 0 = λ p. refusal_of p.seen c.args.message ≡ None in
    subst P c.self.view_is (admitted c.self.inside.heard c.args.message c.in-Some.slot c.in-Some.ensures (c.in_ok-taken.ensures.put yes_).0).accepted)

pub returns-clause-taken : goal.returns-clause-taken
returns-clause-taken c = λ yes_.
    (let m = c.args.message in
    let v : View = c.self.inside.heard in
    let run : Run = c.self.inside.engine in
    let P : Process → Type 0 = λ p. IsTaken p.seen (seen_by c.put_first.new.self c.self.inside.engine) m in
    let h = c.in_ok-taken.ensures.put yes_ in
    subst P c.self.view_is
    (taken_in_time v m c.in-Some.slot (one_message m.value) (admitted v m c.in-Some.slot c.in-Some.ensures h.0) c.put_first.new.self h.1 run run
    refl (λ early. let before = early.0 in omega (arith, before, c.mark.ensures, c.if-message-mark.false))))

pub returns-clause-logs : goal.returns-clause-logs
returns-clause-logs c = λ yes_.
    (let m = c.args.message in
    let v : View = c.self.inside.heard in
    let run : Run = c.self.inside.engine in
    let put = (c.in_ok-taken.ensures.put yes_).1 in
    let P : Process → Type 0 = λ p. (seen_by c.put_first.new.self c.self.inside.engine).logs ≡ p.seen.logs in
    subst P c.self.view_is (taken_logs v c.put_first.new.self (get_or v.part.nets c.in-Some.slot 0) m.time (one_message m.value) put c.self.invariant.at.engine.received c.law.ensures run c.self.inside.times c.self.invariant.at c.in-Some.ensures.from
    (inl (omega (arith, c.mark.ensures, c.if-message-mark.false)))))

pub returns-clause-sends : goal.returns-clause-sends
returns-clause-sends c = λ yes_ out.
    (let m = c.args.message in
    let v : View = c.self.inside.heard in
    let run : Run = c.self.inside.engine in
    let old : View = seen_by v run in
    let new : View = seen_by c.put_first.new.self run in
    let put = (c.in_ok-taken.ensures.put yes_).1 in
    let P : Process → Type 0 = λ p. SendsOnce p.seen (seen_by c.put_first.new.self c.self.inside.engine) Minus (λ t. c.args.message.time < t) out out in
    subst P c.self.view_is
    (once_nothing old new Minus (λ t. c.args.message.time < t) out out (same_standing old new put.part (same_logs old new put.part (taken_logs v c.put_first.new.self (get_or v.part.nets c.in-Some.slot 0) m.time (one_message m.value) put c.self.invariant.at.engine.received c.law.ensures run c.self.inside.times c.self.invariant.at c.in-Some.ensures.from
    (inl (omega (arith, c.mark.ensures, c.if-message-mark.false)))))) refl))
