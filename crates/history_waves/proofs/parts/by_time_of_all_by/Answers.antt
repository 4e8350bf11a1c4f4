use Rattle.std.proofs.Common.{rules, ◌≡◌, List, length, subst, sym, arith}
use Rattle.net_waves.specs.declared.timeline.Stop.{Stop}
use Rattle.net_waves.specs.ByTime.{stops_in}
use Rattle.net_waves.specs.Timeline.{count}
use Rattle.history_waves.specs.Stories.{Telling, AreAll}
use Rattle.history_waves.specs.Inner.Begins.{AreBegins, AreAllTold, count_told}
use Rattle.history_waves.proofs.Parting.{EachPart, all_parts, with_answer}
use Rattle.history_waves.proofs.parts.by_time_of_all_by.Goals as goal

pub returns : goal.returns
returns g c =
    let begins = c.as_slice-begins.result.now in
    let stories = c.as_slice-told.result.now in
    let given = c.args.given.now in
    let parts = c.in_ok-parts.parts in
    let are : AreBegins begins = subst AreBegins (sym c.as_slice-begins.ensures.value) c.in_ok-list.ensures.begins in
    let many : length parts.items ≡ length begins = omega (arith, c.in_ok-parts.ensures.len, parts.ok.0) in
    let each : EachPart begins given stories parts.items = λ k d h. (let made = (c.in_ok-parts.ensures.each k d (omega (arith, h, many))).1 in search rules) in
    with_answer c.joined.result (AreAllTold parts.items) (λ by_time. (s : Stop) → count s (stops_in by_time) ≡ count_told s parts.items) (λ by_time. AreAll given c.args.stories.items (stops_in by_time))
    c.joined.ensures.told c.joined.ensures.count
    (λ told x is. subst (λ (ts : List Telling). AreAll given ts (stops_in x)) c.as_slice-told.ensures.value (all_parts given stories begins parts.items are many each told (stops_in x) is))
