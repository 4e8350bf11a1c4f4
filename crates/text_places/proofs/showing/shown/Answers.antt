use Rattle.std.proofs.lemmas.Result.{IfOk-weaker}
use Rattle.text_places.proofs.MarkedLines.{plain-IsUtf8}
use Rattle.text_places.proofs.showing.shown.Goals as goal

pub returns-then-are_plain : goal.returns-then-are_plain
returns-then-are_plain c =
    IfOk-weaker c.from_utf8_lossy.result _ _ (λ text is plain. is (plain-IsUtf8 _ plain)) c.from_utf8_lossy.ensures.ok
