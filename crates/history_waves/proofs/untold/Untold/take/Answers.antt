use Rattle.std.proofs.Common.{◌≡◌, ◌∙◌, ◌+◌, ap}
use Rattle.warp_stores.specs.Dated.{at, before, undated, first_time}
use Rattle.warp_stores.proofs.Times.{before_since}
use Rattle.history_waves.specs.Stories.{Telling}
use Rattle.history_waves.proofs.Reading.{read_now}
use Rattle.history_waves.proofs.untold.Untold.take.Goals as goal

pub returns-clause-words : goal.returns-clause-words
returns-clause-words c =
    let time = c.args.time in
    let left = c.self.inside.words in
    let same : left ≡ c.args.self.now.words = ap (λ (t : Telling). t.words) c.self.view_is in
    let now : at time (undated (before (time + 1) left)) ≡ before (time + 1) left = read_now time left c.law.ensures (ap first_time same ∙ c.requires.first) in
    rw (c.take_before.ensures.taken, c.take_before.ensures.left, now) (before_since (time + 1) 0 left c.law.ensures ∙ same)
