use Rattle.std.proofs.Common.{rules}
use Rattle.std.proofs.lemmas.List.Sorted.{answers_always}
use Rattle.warp_sends.specs.Inner.Tellings.{event_of}
use Rattle.warp_sends.proofs.telling.sort_by_event.Goals as goal

pub returns-clause-sorted : goal.returns-clause-sorted
returns-clause-sorted c = c.sort_unstable_by_key.ensures.sorted event_of (answers_always _ _ _ (λ f a r g h. search rules))
