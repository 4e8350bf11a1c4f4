use Rattle.std.proofs.lemmas.Result.{IfOk-weaker}
use Rattle.text_places.proofs.told.tell.Goals as goal

pub returns : goal.returns
returns c = IfOk-weaker c.told.result _ _ (λ told is. record { shown = c.in_ok-shown.shown; is_place = c.in_ok-shown.ensures; is = is }) c.told.ensures
