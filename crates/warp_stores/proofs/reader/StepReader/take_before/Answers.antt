use Rattle.std.proofs.Common.{◌∙◌}
use Rattle.warp_stores.proofs.Telling.{length-span}
use Rattle.warp_stores.proofs.Readers.{start, reader_read, reader_left}
use Rattle.warp_stores.proofs.reader.StepReader.take_before.Goals as goal

pub part-self-inside-requires-2-clause-order : goal.part-self-inside-requires-2-clause-order
part-self-inside-requires-2-clause-order g c = (length-span c.self.inside.stops.now c.self.inside.words.now start c.first_since-place.result c.first_since-place.ensures.low c.self.invariant.whole).1

pub part-requires-clause-within : goal.part-requires-clause-within
part-requires-clause-within g c = (length-span c.self.inside.stops.now c.self.inside.words.now start c.first_since-place.result c.first_since-place.ensures.low c.self.invariant.whole).1

pub invariant_of-self : goal.invariant_of-self
invariant_of-self g c = rw (c.part-self-inside.ensures, c.part-self-inside-2.ensures) (reader_left c.self.invariant c.first_since-place.ensures)

pub returns-clause-taken : goal.returns-clause-taken
returns-clause-taken g c =
    rw (← c.self.view_is) (c.part.ensures ∙ (reader_read c.args.time c.self.inside.stops.now c.self.inside.words.now c.first_since-place.result c.self.invariant c.first_since-place.ensures).0)

pub returns-clause-left : goal.returns-clause-left
returns-clause-left g c =
    rw (← c.self.view_is, c.part-self-inside.ensures, c.part-self-inside-2.ensures) ((reader_read c.args.time c.self.inside.stops.now c.self.inside.words.now c.first_since-place.result c.self.invariant c.first_since-place.ensures).1)
