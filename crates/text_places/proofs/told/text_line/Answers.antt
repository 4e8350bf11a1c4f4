use Rattle.std.proofs.Common.{refl}
use Rattle.std.proofs.lemmas.Result.{IfOk-weaker}
use Rattle.text_places.proofs.MarkedLines.{barred_line}
use Rattle.text_places.proofs.told.text_line.Goals as goal

pub returns : goal.returns
returns c =
    IfOk-weaker c.format.result _ _ (λ line is. barred_line _ _ _ _ _ _ _ refl c.as_str-before.ensures.value c.as_str-behind.ensures.value is) c.format.ensures.ok
