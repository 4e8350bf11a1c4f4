use Rattle.std.proofs.Common.{Result, Ok, Err, IfOk, ap, ◌∙◌}
use Rattle.warp_process.specs.Entries.{effective_of}
use Rattle.warp_process.proofs.Hearing.{held_entry}
use Rattle.warp_process.proofs.heard.Heard.told.Goals as goal

ok_more : {A B : Type 0} (P Q : A → Type 0) (r : Result A B) → ((x : A) → P x → Q x) → IfOk r P → IfOk r Q
ok_more P Q (Ok x) more h = more x h
ok_more P Q (Err e) more h = tt

pub returns-clause-told : goal.returns-clause-told
returns-clause-told c =
    rw (← c.self.view_is) (ok_more _ _ c.told.result
    (λ lists h i l. (
      (h i (rw c.len.ensures.count l)).0,
      λ t. ap effective_of (held_entry c.self.inside c.self.invariant.rows.ordered c.self.invariant.received.part.ascending i t l) ∙ (h i (rw c.len.ensures.count l)).1 t,
    )) c.told.ensures.told)
