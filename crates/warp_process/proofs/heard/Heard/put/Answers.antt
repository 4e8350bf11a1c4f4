use Rattle.std.proofs.Common.{List, Result, Ok, Err, OnErr, ap, ◌∙◌}
use Rattle.warp_process.specs.Rows.{Standing, entry_on}
use Rattle.warp_process.proofs.Hearing.{in_heard}
use Rattle.warp_process.proofs.Putting.{put_is, held_after, view_alike, held_alike}
use Rattle.warp_process.proofs.heard.Heard.put.Goals as goal

on_err : {A B : Type 0} (P : Type 0) (r : Result A B) → P → OnErr r P
on_err P (Ok x) h = tt
on_err P (Err e) h = h

pub invariant_of-self : goal.invariant_of-self
invariant_of-self c = held_alike c.self.inside c.self.invariant c.put.new.self c.put.ensures.rows (λ t i. ap (λ (ss : List Standing). entry_on ss i) (c.in_err-put.ensures.err t))

pub returns-in_err-put-clause-err : goal.returns-in_err-put-clause-err
returns-in_err-put-clause-err c =
    on_err _ c.from_residual.result (view_alike c.self.inside c.self.invariant c.put.new.self c.put.ensures.rows (λ t i. ap (λ (ss : List Standing). entry_on ss i) (c.in_err-put.ensures.err t)) ∙ c.self.view_is)

pub invariant_of-self-2 : goal.invariant_of-self-2
invariant_of-self-2 c =
    held_after c.self.inside c.self.invariant c.put.new.self c.still_sure-self-inside.result c.put.ensures.rows c.args.slot c.args.time c.args.entry (in_heard c.self.inside c.args.self.now c.args.slot c.self.view_is c.requires.slot) c.in_ok-put.ensures.put
    (rw (← c.self.view_is) at c.requires.heard) (rw (← c.self.view_is) at c.requires.from) (rw (← c.self.view_is) at c.requires.until) c.still_sure-self-inside.ensures.within c.still_sure-self-inside.ensures.settled

pub returns-clause-put : goal.returns-clause-put
returns-clause-put c =
    rw (← c.self.view_is) (put_is c.self.inside c.self.invariant c.put.new.self c.still_sure-self-inside.result c.put.ensures.rows c.args.slot c.args.time c.args.entry (in_heard c.self.inside c.args.self.now c.args.slot c.self.view_is c.requires.slot) c.in_ok-put.ensures.put)
