use Rattle.std.proofs.Common.{◌≡◌, ◌<◌, ◌≤◌, ◌⊎◌, get_or, refl, ap, sym, ◌∙◌, subst}
use Rattle.std.specs.Result.{IfErr}
use Rattle.std.proofs.lemmas.Bool.{iff_false}
use Rattle.warp_stores.specs.Lists.{AreLonger}
use Rattle.warp_engine.specs.Runs.{Run}
use Rattle.warp_process.specs.declared.message.Sign.TheVariants.{Minus}
use Rattle.warp_process.specs.Entries.{effective_of}
use Rattle.warp_process.specs.View.{View, Process, effective_at}
use Rattle.warp_process.specs.Receive.{IsTaken, IsRefusal, refusal_of}
use Rattle.warp_process.specs.Sends.{SendsOnce}
use Rattle.warp_process.proofs.Sends.{once_nothing, same_logs, same_standing}
use Rattle.warp_process.proofs.Receiving.{refused_memory, not_late}
use Rattle.part_engine.specs.Runs.{begins_of}
use Rattle.warp_block.specs.Shown.Block.{seen_by}
use Rattle.warp_block.proofs.Admitting.{heard_there, taken_late, taken_in_time}
use Rattle.warp_block.proofs.Returning.{taken_at, taken_logs}
use Rattle.warp_block.proofs.kernel.Kernel.take.Goals as goal

pub roll_back-requires-clause-heard : goal.roll_back-requires-clause-heard
roll_back-requires-clause-heard c = heard_there c.self.inside.heard c.args.message c.in_ok-slot.slot c.in_ok-slot.entry c.in_ok-slot.ensures.ok

pub returns-in_err-roll_back-clause-refused : goal.returns-in_err-roll_back-clause-refused
returns-in_err-roll_back-clause-refused c =
    let P : Process → Type 0 = λ p. IfErr c.from_residual-in_err-roll_back.result (IsRefusal (refusal_of p.seen c.args.message)) in
    subst P c.self.view_is (refused_memory c.from_residual-in_err-roll_back.result (refusal_of (seen_by c.self.inside.heard c.self.inside.engine) c.args.message) c.from_residual-in_err-roll_back.ensures.1 c.in_ok-slot.ensures.ok.accepted)

pub returns-then-is_late-clause-taken : goal.returns-then-is_late-clause-taken
returns-then-is_late-clause-taken c =
    let P : Process → Type 0 = λ p. IsTaken p.seen (seen_by c.roll_back.new.heard c.roll_back.new.engine) c.args.message in
    subst P c.self.view_is
    (taken_late c.self.inside.heard c.args.message c.in_ok-slot.slot c.in_ok-slot.entry c.in_ok-slot.ensures.ok c.roll_back.new.heard c.in_ok-roll_back.ensures.put c.self.inside.engine c.roll_back.new.engine
    c.in_ok-roll_back.ensures.mark (c.is_late.ensures.0 c.if-is_late.true))

pub returns-then-is_late-clause-sends : goal.returns-then-is_late-clause-sends
returns-then-is_late-clause-sends c =
    let P : Process → Type 0 = λ p. SendsOnce p.seen (seen_by c.roll_back.new.heard c.roll_back.new.engine) Minus (λ t. c.args.message.time < t) c.args.out.now.items c.roll_back.new.out.items in
    subst P c.self.view_is c.in_ok-roll_back.ensures.sends

pub put-requires-clause-heard : goal.put-requires-clause-heard
put-requires-clause-heard c = heard_there c.self.inside.heard c.args.message c.in_ok-slot.slot c.in_ok-slot.entry c.in_ok-slot.ensures.ok

pub returns-in_err-put-clause-refused : goal.returns-in_err-put-clause-refused
returns-in_err-put-clause-refused c =
    let P : Process → Type 0 = λ p. IfErr c.from_residual-in_err-put.result (IsRefusal (refusal_of p.seen c.args.message)) in
    subst P c.self.view_is (refused_memory c.from_residual-in_err-put.result (refusal_of (seen_by c.self.inside.heard c.self.inside.engine) c.args.message) c.from_residual-in_err-put.ensures.1 c.in_ok-slot.ensures.ok.accepted)

pub invariant_of-self-2 : goal.invariant_of-self-2
invariant_of-self-2 c =
    let v : View = c.self.inside.heard in
    let run : Run = c.self.inside.engine in
    let put = c.in_ok-put.ensures.put in
    let at = c.self.invariant.at in
    let early : (run.book.mark ≤ c.args.message.time) ⊎ (effective_of c.in_ok-slot.entry ≡ effective_at v (get_or v.part.nets c.in_ok-slot.slot 0) c.args.message.time) =
    not_late c.args.message.time run.book.mark (effective_of c.in_ok-slot.entry) (effective_at v (get_or v.part.nets c.in_ok-slot.slot 0) c.args.message.time) (iff_false c.is_late.ensures c.if-is_late.false) in
    record {
      at = taken_at v c.put.new.self (get_or v.part.nets c.in_ok-slot.slot 0) c.args.message.time c.in_ok-slot.entry put at.engine.received c.law.ensures run c.self.inside.times at c.in_ok-slot.ensures.ok.from early;
      begins = c.self.invariant.begins ∙ ap begins_of (sym put.part);
    }

pub returns-clause-taken : goal.returns-clause-taken
returns-clause-taken c =
    let P : Process → Type 0 = λ p. IsTaken p.seen (seen_by c.put.new.self c.self.inside.engine) c.args.message in
    subst P c.self.view_is
    (taken_in_time c.self.inside.heard c.args.message c.in_ok-slot.slot c.in_ok-slot.entry c.in_ok-slot.ensures.ok c.put.new.self c.in_ok-put.ensures.put c.self.inside.engine c.self.inside.engine
    refl (iff_false c.is_late.ensures c.if-is_late.false))

pub returns-clause-sends : goal.returns-clause-sends
returns-clause-sends c =
    let v : View = c.self.inside.heard in
    let run : Run = c.self.inside.engine in
    let old : View = seen_by v run in
    let new : View = seen_by c.put.new.self run in
    let P : Process → Type 0 = λ p. SendsOnce p.seen (seen_by c.put.new.self c.self.inside.engine) Minus (λ t. c.args.message.time < t) c.args.out.now.items c.args.out.now.items in
    subst P c.self.view_is
    (once_nothing old new Minus (λ t. c.args.message.time < t) c.args.out.now.items c.args.out.now.items (same_standing old new c.in_ok-put.ensures.put.part (same_logs old new c.in_ok-put.ensures.put.part (taken_logs v c.put.new.self (get_or v.part.nets c.in_ok-slot.slot 0) c.args.message.time c.in_ok-slot.entry c.in_ok-put.ensures.put c.self.invariant.at.engine.received c.law.ensures run c.self.inside.times c.self.invariant.at
    c.in_ok-slot.ensures.ok.from (not_late c.args.message.time run.book.mark (effective_of c.in_ok-slot.entry) (effective_at v (get_or v.part.nets c.in_ok-slot.slot 0) c.args.message.time) (iff_false c.is_late.ensures c.if-is_late.false))))) refl)

pub returns-clause-same : goal.returns-clause-same
returns-clause-same c = λ _.
    (let v : View = c.self.inside.heard in
    let run : Run = c.self.inside.engine in
    let P : Process → Type 0 = λ p. (seen_by c.put.new.self c.self.inside.engine).logs ≡ p.seen.logs in
    subst P c.self.view_is (taken_logs v c.put.new.self (get_or v.part.nets c.in_ok-slot.slot 0) c.args.message.time c.in_ok-slot.entry c.in_ok-put.ensures.put c.self.invariant.at.engine.received c.law.ensures run c.self.inside.times c.self.invariant.at
    c.in_ok-slot.ensures.ok.from (not_late c.args.message.time run.book.mark (effective_of c.in_ok-slot.entry) (effective_at v (get_or v.part.nets c.in_ok-slot.slot 0) c.args.message.time) (iff_false c.is_late.ensures c.if-is_late.false))))

pub returns-then-is_late-clause-longer : goal.returns-then-is_late-clause-longer
returns-then-is_late-clause-longer c = λ _.
    (let P : Process → Type 0 = λ p. AreLonger c.roll_back.new.batch (seen_by c.roll_back.new.heard c.roll_back.new.engine).logs p.seen.logs in
    subst P c.self.view_is c.in_ok-roll_back.ensures.longer)
