use Rattle.std.proofs.Common.{◌≡◌, ◌∙◌, ◌<◌, List, length, ap, sym, subst}
use Rattle.std.specs.List.{All}
use Rattle.gate_values.specs.declared.logic.Change.{Change}
use Rattle.warp_stores.specs.Words.{Move}
use Rattle.warp_stores.specs.Dated.{Dated}
use Rattle.warp_part.specs.Portion.{Portion}
use Rattle.warp_process.specs.View.{View}
use Rattle.warp_process.proofs.Rows.{logs_len}
use Rattle.warp_block.proofs.block.Block.receive.Goals as goal

pub shorten-requires-clause-kept : goal.shorten-requires-clause-kept
shorten-requires-clause-kept g c =
    let old : View = c.self.inside.kernel.seen in
    let same : c.part.result.now ≡ old.part = c.part.ensures ∙ c.in_ok-receive.ensures.taken.part in
    subst (λ (p : Portion). (logs : List (List Change)) × (length logs ≡ length p.nets) × g.L.Logs.keep c.self.inside.logs p logs) (sym same)
    (old.logs, logs_len old c.law.ensures.seen, c.self.invariant)

pub shorten-requires-clause-there : goal.shorten-requires-clause-there
shorten-requires-clause-there g c =
    let old : View = c.self.inside.kernel.seen in
    let same : c.part.result.now ≡ old.part = c.part.ensures ∙ c.in_ok-receive.ensures.taken.part in
    subst (λ (p : Portion). All (λ (d : Dated Move). d.1.place < length p.nets) c.receive.new.batch) (sym same) (c.in_ok-receive.ensures.there c.if-branch.true)

pub invariant_of-self-then-branch : goal.invariant_of-self-then-branch
invariant_of-self-then-branch g c =
    let old : View = c.self.inside.kernel.seen in
    let new : View = c.receive.new.self.seen in
    let same : c.part.result.now ≡ old.part = c.part.ensures ∙ c.in_ok-receive.ensures.taken.part in
    let longer = c.in_ok-receive.ensures.longer c.if-branch.true in
    let many : length new.logs ≡ length c.part.result.now.nets = sym longer.same ∙ logs_len old c.law.ensures.seen ∙ ap (λ (p : Portion). length p.nets) (sym same) in
    subst (λ (p : Portion). g.L.Logs.keep c.shorten.new.self p new.logs) c.part.ensures
    (c.shorten.ensures new.logs old.logs many (subst (λ (p : Portion). g.L.Logs.keep c.self.inside.logs p old.logs) (sym same) c.self.invariant) longer)

pub returns-then-branch-clause-sends : goal.returns-then-branch-clause-sends
returns-then-branch-clause-sends g c = rw (← c.self.view_is) c.in_ok-receive.ensures.sends

pub returns-else-branch-clause-sends : goal.returns-else-branch-clause-sends
returns-else-branch-clause-sends g c = rw (← c.self.view_is) c.in_ok-receive.ensures.sends
