use Rattle.std.proofs.Common.{◌≡◌, ◌∙◌, ◌<◌, ℕ, List, length, take, ap, sym, subst, arith}
use Rattle.std.specs.List.{All}
use Rattle.gate_values.specs.declared.logic.Change.{Change}
use Rattle.warp_stores.specs.Words.{Move}
use Rattle.warp_stores.specs.Dated.{Dated}
use Rattle.warp_part.specs.Portion.{Portion}
use Rattle.warp_process.specs.declared.message.Message.{Message}
use Rattle.warp_process.specs.declared.message.Sign.TheVariants.{Plus}
use Rattle.warp_process.specs.View.{View, Process}
use Rattle.warp_process.specs.Advance.{IsAfterEvent}
use Rattle.warp_process.specs.Sends.{SendsOnce}
use Rattle.warp_process.proofs.Rows.{logs_len}
use Rattle.warp_process.proofs.SavingAdvance.{none_sent}
use Rattle.warp_block.proofs.Shortening.{front}
use Rattle.warp_block.proofs.Resting.{given_back}
use Rattle.warp_block.proofs.block.Block.advance.Goals as goal

pub returns-then-steps-eq0-clause-sends : goal.returns-then-steps-eq0-clause-sends
returns-then-steps-eq0-clause-sends g c = none_sent c.args.self.now.seen c.args.out.now.items

pub returns-in_err-finished-clause-sends : goal.returns-in_err-finished-clause-sends
returns-in_err-finished-clause-sends g c =
    let old : View = c.self.inside.kernel.seen in
    let P : Process → Type 0 = λ p. SendsOnce p.seen c.advance.new.self.seen Plus (IsAfterEvent p.seen) c.args.out.now.items c.advance.new.out.items in
    subst P c.self.view_is
    (subst (λ (out : List Message). SendsOnce old c.advance.new.self.seen Plus (IsAfterEvent old) c.args.out.now.items out) (sym c.in_err-finished.ensures.untold)
    (subst (λ (new : View). SendsOnce old new Plus (IsAfterEvent old) c.args.out.now.items c.args.out.now.items) (sym c.in_err-finished.ensures.err) (none_sent old c.args.out.now.items)))

pub lengthen-requires-clause-kept : goal.lengthen-requires-clause-kept
lengthen-requires-clause-kept g c =
    let old : View = c.self.inside.kernel.seen in
    let same : c.part.result.now ≡ old.part = c.part.ensures ∙ c.in_ok-finished.ensures.ok.part in
    subst (λ (p : Portion). (logs : List (List Change)) × (length logs ≡ length p.nets) × g.L.Logs.keep c.self.inside.logs p logs) (sym same)
    (old.logs, logs_len old c.law.ensures.seen, c.self.invariant)

pub lengthen-requires-clause-there : goal.lengthen-requires-clause-there
lengthen-requires-clause-there g c = subst (λ (p : Portion). All (λ (d : Dated Move). d.1.place < length p.nets) c.advance.new.batch) (sym c.part.ensures) c.in_ok-finished.ensures.there

pub invariant_of-self-in-Ok : goal.invariant_of-self-in-Ok
invariant_of-self-in-Ok g c =
    let old : View = c.self.inside.kernel.seen in
    let same : c.part.result.now ≡ old.part = c.part.ensures ∙ c.in_ok-finished.ensures.ok.part in
    let many : length old.logs ≡ length c.part.result.now.nets = logs_len old c.law.ensures.seen ∙ ap (λ (p : Portion). length p.nets) (sym same) in
    subst (λ (p : Portion). g.L.Logs.keep c.lengthen.new.self p c.advance.new.self.seen.logs) c.part.ensures
    (c.in-Ok.ensures.ok old.logs c.advance.new.self.seen.logs many (subst (λ (p : Portion). g.L.Logs.keep c.self.inside.logs p old.logs) (sym same) c.self.invariant) c.in_ok-finished.ensures.longer)

pub give_up-requires-clause-floor : goal.give_up-requires-clause-floor
give_up-requires-clause-floor g c = omega (arith, c.in_ok-finished.ensures.ok.floor, c.law.ensures.seen.floor, c.mark-mark.ensures)

pub invariant_of-self-in-Err : goal.invariant_of-self-in-Err
invariant_of-self-in-Err g c =
    let old : View = c.self.inside.kernel.seen in
    let on = c.in_ok-finished.ensures.ok in
    let same : c.part.result.now ≡ old.part = c.part.ensures ∙ on.part in
    let back : c.give_up.new.self.seen ≡ old = c.give_up.ensures ∙ given_back old c.advance.new.self.seen c.law.ensures.seen on.part on.horizon on.floor on.queues c.mark-mark.result c.mark-mark.ensures in
    subst (λ (v : View). g.L.Logs.keep c.lengthen.new.self v.part v.logs) (sym back)
    (subst (λ (p : Portion). g.L.Logs.keep c.lengthen.new.self p old.logs) same
    (c.in-Err.ensures.err old.logs (subst (λ (p : Portion). g.L.Logs.keep c.self.inside.logs p old.logs) (sym same) c.self.invariant)))

pub returns-in-Err-clause-sends : goal.returns-in-Err-clause-sends
returns-in-Err-clause-sends g c =
    let old : View = c.self.inside.kernel.seen in
    let on = c.in_ok-finished.ensures.ok in
    let back : c.give_up.new.self.seen ≡ old = c.give_up.ensures ∙ given_back old c.advance.new.self.seen c.law.ensures.seen on.part on.horizon on.floor on.queues c.mark-mark.result c.mark-mark.ensures in
    let sends = c.in_ok-finished.ensures.sends in
    let count : c.len-sent.result ≡ length c.args.out.now.items = omega (arith, c.len-sent.ensures, c.args.out.now.ok.0) in
    let cut : c.truncate.new.self.items ≡ c.args.out.now.items = c.truncate.ensures.items ∙ ap (λ (k : ℕ). take k c.advance.new.out.items) count ∙ ap (take (length c.args.out.now.items)) sends.sends.appended ∙ front c.args.out.now.items sends.sends.sent in
    let P : Process → Type 0 = λ p. SendsOnce p.seen c.give_up.new.self.seen Plus (IsAfterEvent p.seen) c.args.out.now.items c.truncate.new.self.items in
    subst P c.self.view_is
    (subst (λ (out : List Message). SendsOnce old c.give_up.new.self.seen Plus (IsAfterEvent old) c.args.out.now.items out) (sym cut)
    (subst (λ (new : View). SendsOnce old new Plus (IsAfterEvent old) c.args.out.now.items c.args.out.now.items) (sym back) (none_sent old c.args.out.now.items)))
