use Rattle.std.proofs.Common.{◌≡◌, ◌∙◌, ◌+◌, ap, rules}
use Rattle.net_waves.specs.Timeline.{count, one}
use Rattle.net_waves.specs.ByTime.{stops_in}
use Rattle.net_waves.proofs.by_time.ByTime.push.Goals.{in-Words+in_ok-stops-in-Words, in-Keys+in_ok-stops-in-Keys}
use Rattle.net_waves.proofs.by_time.ByTime.push.Goals as goal

pub returns-clause-ok : goal.returns-clause-ok
returns-clause-ok c s =
    let same : count s c.match-self.stops.items ≡ count s (stops_in c.args.self.now) = elim c.match-self.branch [
      | in-Words+in_ok-stops-in-Words w ↦ search rules
      | in-Keys+in_ok-stops-in-Keys w ↦ search rules
    ] in
    c.in_ok-push.ensures.ok s ∙ ap (λ n. one s c.args.stop + n) (c.in_ok-timeline.ensures s ∙ same)
