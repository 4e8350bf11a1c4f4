use Rattle.std.proofs.Common.{◌≡◌, ◌∙◌, ap, None, List, map, subst}
use Rattle.std.proofs.lemmas.Result.{IfOk-weaker}
use Rattle.net_waves.specs.ByTime.{stops_in}
use Rattle.history_waves.specs.Stories.{Telling, AreAll}
use Rattle.history_waves.specs.Inner.Parts.{part_of}
use Rattle.history_waves.proofs.Parting.{part_whole, some_weaker}
use Rattle.history_waves.proofs.parts.by_time_of_all.Goals as goal

pub returns : goal.returns
returns c =
    let given = c.args.given.now in
    let stories = c.args.stories.items in
    let left : c.in_ok-untold.untold.items ≡ map (part_of 0 None) stories = c.in_ok-untold.ensures ∙ ap (map (part_of 0 None)) c.as_slice.ensures.value in
    IfOk-weaker c.merged.result _ _ (λ all is. some_weaker all (λ x. AreAll given c.in_ok-untold.untold.items (stops_in x)) (λ x. AreAll given stories (stops_in x))
    (λ x told. part_whole given stories (stops_in x) (subst (λ (ts : List Telling). AreAll given ts (stops_in x)) left told)) is) c.merged.ensures
