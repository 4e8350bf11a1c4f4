use Rattle.std.proofs.Common.{◌∙◌}
use Rattle.byte_sinks.proofs.Passing.{passes_then, passes_sent, passes_through}
use Rattle.byte_sinks.proofs.lot.Lot.put_past.Goals as goal

pub returns : goal.returns
returns g c = passes_then (passes_sent _ _ _ _ c.flush.ensures.sent c.flush.ensures.none) (passes_through _ _ _ _ _ c.send.ensures.sent c.flush.ensures.none (c.send.ensures.waiting ∙ c.flush.ensures.none))
