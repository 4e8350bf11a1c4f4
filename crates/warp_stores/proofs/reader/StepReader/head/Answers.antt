use Rattle.std.proofs.Common.{◌∙◌, length, Some, sym, ap}
use Rattle.warp_stores.proofs.Readers.{some, first_time-reader}
use Rattle.warp_stores.proofs.reader.StepReader.head.Goals as goal

pub returns-clause-first : goal.returns-clause-first
returns-clause-first g c =
    rw (← c.self.view_is) (ap Some c.time.ensures.time
    ∙ sym (first_time-reader c.self.inside.stops.now c.self.inside.words.now _ c.self.invariant (some (length c.self.inside.stops.now) (sym c.is_empty.ensures ∙ c.if-is_empty.false)) c.index-self-0.is ∙ ap (λ (s : _). Some s.time) c.index-self-0.is))
