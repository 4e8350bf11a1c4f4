use Rattle.std.proofs.Common.{◌≡◌, false, take}
use Rattle.std.specs.List.{list_any}
use Rattle.warp_stores.specs.Words.{Move}
use Rattle.warp_sends.specs.Inner.Tellings.{has_readers}
use Rattle.warp_sends.proofs.telling.have_readers.Given as goal

abbrev pub invariant-loop-word : goal.invariant-loop-word
invariant-loop-word l = list_any (λ (w : Move). has_readers l.part w.place) (take l.word-index l.words) ≡ false
