use Rattle.std.proofs.Common.{◌∙◌, ap}
use Rattle.std.proofs.lemmas.Result.{IfOk-weaker}
use Rattle.text_places.specs.Told.{below, marks_below}
use Rattle.text_places.proofs.MarkedLines.{barred_line}
use Rattle.text_places.proofs.told.mark_line.Goals as goal

pub returns : goal.returns
returns c =
    let margin = c.in_ok-margin.ensures ∙ ap (below 32) (c.as_str.ensures.value ∙ c.in_ok-digits.ensures.ok) in
    let blanks = c.in_ok-blanks.ensures ∙ ap (below 32) c.as_str-2.ensures.value in
    let marks = c.in_ok-marks.ensures ∙ ap marks_below c.as_str-3.ensures.value in
    IfOk-weaker c.format-2.result _ _ (λ line is. barred_line _ _ _ _ _ _ _ margin blanks marks is) c.format-2.ensures.ok
