use Rattle.std.proofs.Common.{append_assoc, sym}
use Rattle.std.proofs.lemmas.Result.{IfOk-weaker}
use Rattle.text_places.proofs.told.told.Goals as goal

pub returns : goal.returns
returns c = IfOk-weaker c.format.result _ _ (λ line is. rw (sym c.in_ok-place.ensures, sym c.in_ok-text.ensures, sym c.in_ok-marks.ensures, sym c.in_ok-help.ensures) (simp append_assoc is)) c.format.ensures.ok
