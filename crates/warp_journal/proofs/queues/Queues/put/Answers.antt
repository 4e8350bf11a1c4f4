use Rattle.std.proofs.Common.{◌≡◌, ◌∙◌, ◌-◌, ◌≤◌, ◌<◌, ◌∷◌, ℕ, List, [], length, ap, sym, subst, arith}
use Rattle.std.specs.Prelude.{slice_set}
use Rattle.std.proofs.lemmas.Result.{on_ok_weaker}
use Rattle.warp_stores.specs.Dated.{last_time, standing}
use Rattle.warp_stores.specs.Delays.{Delayed, queue_at, with_made}
use Rattle.warp_journal.specs.Books.{Parts}
use Rattle.warp_journal.proofs.Parting.{put_read, put_unread, unread-up_to}
use Rattle.warp_journal.proofs.queues.Queues.put.Goals as goal

pub put-requires-else-number-read-clause-order : goal.put-requires-else-number-read-clause-order
put-requires-else-number-read-clause-order c =
    let parts : Parts = c.args.self.now in
    let unread : c.self.inside.unread ≡ parts.unread = ap (λ (p : Parts). p.unread) c.self.view_is in
    let many : c.len-read.result ≡ length parts.read = c.len-read.ensures ∙ ap (λ (p : Parts). length p.read) c.self.view_is in
    let past : length parts.read ≤ c.args.put.queue = omega (arith, many, c.if-number-read.false) in
    subst (λ (qs : List Delayed). last_time (standing (queue_at qs (c.args.put.queue - c.len-read.result)).line) ≤ c.args.step) (sym unread)
    (subst (λ (n : ℕ). last_time (standing (queue_at parts.unread (c.args.put.queue - n)).line) ≤ c.args.step) (sym many) (unread-up_to c.args.step parts c.requires.order c.args.put.queue past))

pub returns-then-number-read-clause-ok : goal.returns-then-number-read-clause-ok
returns-then-number-read-clause-ok c =
    let parts : Parts = c.args.self.now in
    let new : Parts = record { read = c.put.new.self; unread = c.self.inside.unread } in
    let many : c.len-read.result ≡ length parts.read = c.len-read.ensures ∙ ap (λ (p : Parts). length p.read) c.self.view_is in
    let here : c.args.put.queue < length parts.read = omega (arith, many, c.if-number-read.true) in
    on_ok_weaker c.put.result (λ e.
    put_read c.args.step c.args.put parts new here
    (e ∙ ap (λ (p : Parts). slice_set p.read c.args.put.queue (with_made c.args.step (c.args.put.word ∷ []) (queue_at p.read c.args.put.queue))) c.self.view_is)
    (ap (λ (p : Parts). p.unread) c.self.view_is)) c.put.ensures.ok

pub returns-else-number-read-clause-ok : goal.returns-else-number-read-clause-ok
returns-else-number-read-clause-ok c =
    let parts : Parts = c.args.self.now in
    let new : Parts = record { read = c.self.inside.read; unread = c.put-else-number-read.new.self } in
    let many : c.len-read.result ≡ length parts.read = c.len-read.ensures ∙ ap (λ (p : Parts). length p.read) c.self.view_is in
    let past : length parts.read ≤ c.args.put.queue = omega (arith, many, c.if-number-read.false) in
    let made : ℕ → List Delayed → List Delayed = λ n qs. slice_set qs (c.args.put.queue - n) (with_made c.args.step (c.args.put.word ∷ []) (queue_at qs (c.args.put.queue - n))) in
    on_ok_weaker c.put-else-number-read.result (λ e.
    put_unread c.args.step c.args.put parts new past
    (e ∙ ap (λ (p : Parts). made c.len-read.result p.unread) c.self.view_is ∙ ap (λ (n : ℕ). made n parts.unread) many)
    (ap (λ (p : Parts). p.read) c.self.view_is)) c.put-else-number-read.ensures.ok
