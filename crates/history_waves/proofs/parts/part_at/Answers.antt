use Rattle.std.proofs.Common.{◌≡◌, ◌∙◌, ap, List, map, get_or, subst}
use Rattle.std.proofs.lemmas.Result.{IfOk-weaker}
use Rattle.net_waves.specs.declared.timeline.Stop.{Stop}
use Rattle.net_waves.specs.ByTime.{stops_in}
use Rattle.history_waves.specs.Stories.{Telling, AreAll}
use Rattle.history_waves.specs.Inner.Parts.{part_of, stops_within, ArePart}
use Rattle.history_waves.specs.Inner.Begins.{end_of}
use Rattle.history_waves.proofs.Parting.{part_all, some_weaker}
use Rattle.history_waves.proofs.parts.part_at.Goals as goal

pub returns : goal.returns
returns c =
    let from = get_or c.args.begins.now c.args.part 0 in
    let until = end_of c.args.begins.now c.args.part in
    let given = c.args.given.now in
    let stories = c.args.stories.now in
    let end : c.end_of-until.result ≡ until = c.end_of-until.ensures in
    let left : c.in_ok-untold.untold.items ≡ map (part_of from until) stories = c.in_ok-untold.ensures ∙ ap (λ o. map (part_of from o) stories) end in
    let some : c.as_slice.result.now ≡ stops_within from until given = c.as_slice.ensures.value ∙ c.in_ok-some.ensures ∙ ap (λ o. stops_within from o given) end in
    IfOk-weaker c.merged.result _ _ (λ told is. some_weaker told (λ x. AreAll c.as_slice.result.now c.in_ok-untold.untold.items (stops_in x)) (λ x. ArePart from until given stories (stops_in x))
    (λ x all. part_all from until given stories (stops_in x) (subst (λ (ts : List Telling). AreAll (stops_within from until given) ts (stops_in x)) left (subst (λ (ss : List Stop). AreAll ss c.in_ok-untold.untold.items (stops_in x)) some all))) is) c.merged.ensures
