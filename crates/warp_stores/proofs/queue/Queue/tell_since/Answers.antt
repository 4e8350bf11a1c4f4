use Rattle.std.proofs.Common.{◌≡◌, ◌++◌, ◌∙◌, List, sym, ap}
use Rattle.std.specs.Result.{OnOk}
use Rattle.warp_stores.specs.Dated.{Dated, since, later, standing}
use Rattle.warp_stores.specs.Inner.Stops.{IsParted}
use Rattle.warp_stores.specs.Shown.Stops.{end_of, told, line_of}
use Rattle.warp_stores.proofs.Telling.{since-told}
use Rattle.warp_stores.proofs.Queues.{on_ok_both, standing-told}
use Rattle.warp_stores.proofs.queue.Queue.tell_since.Goals as goal

pub returns-clause-ok : goal.returns-clause-ok
returns-clause-ok g c =
    let stops = c.self.inside.stops.items in
    let words = c.self.inside.words.items in
    let from = c.last_before-from.result in
    let parted : IsParted c.args.time stops c.self.inside.dead (end_of stops words) from = rw (c.as_slice.ensures.value, c.end_of-end.ensures) at c.last_before-from.ensures in
    let tells : told stops words from (end_of stops words) ≡ since c.args.time (standing (line_of stops words c.self.inside.dead c.self.inside.read)) =
    sym (ap (since c.args.time) (standing-told stops words c.self.inside.dead c.self.inside.read c.self.invariant) ∙ since-told c.args.time stops words c.self.inside.dead (end_of stops words) from parted c.self.invariant.whole) in
    let ok : OnOk c.tell.result (c.tell.new.batch ≡ c.args.batch.now ++ later c.args.delay c.args.last (told stops words from (end_of stops words))) = rw (c.as_slice-2.ensures.value, c.as_slice-3.ensures.value) at c.tell.ensures.ok in
    rw (← c.self.view_is) (on_ok_both c.tell.result ok ok (λ e _. e ∙ ap (λ (ds : List (Dated g.row.T.Denot)). c.args.batch.now ++ later c.args.delay c.args.last ds) tells))
