use Rattle.std.proofs.Common.{append_assoc}
use Rattle.std.proofs.lemmas.Result.{IfOk-weaker}
use Rattle.text_places.proofs.told.place_line.Goals as goal

pub returns : goal.returns
returns c = IfOk-weaker c.format.result _ _ (λ line is. simp append_assoc is) c.format.ensures.ok
