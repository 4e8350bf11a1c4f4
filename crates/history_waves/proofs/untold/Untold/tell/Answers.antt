use Rattle.std.proofs.Common.{◌≡◌, ◌∙◌, ap}
use Rattle.history_waves.specs.Stories.{Telling}
use Rattle.history_waves.proofs.Pending.{taken_time}
use Rattle.history_waves.proofs.untold.Untold.tell.Goals as goal

pub returns-clause-taken : goal.returns-clause-taken
returns-clause-taken c =
    let taken = c.take-words.ensures in
    let own : c.self.inside.own.now ≡ c.args.self.now.own = ap (λ (t : Telling). t.own) c.self.view_is ∙ taken.own in
    rw taken.own
    (taken_time c.args.self.now.own c.args.given.now c.args.from c.in_ok-next.next c.args.time c.take-words.result.now c.take-words.new.self.words c.args.self.now.words c.args.moves.now.items c.list_time.new.moves.items taken.words
    (rw own at c.in_ok-next.ensures.listed))
