use Rattle.std.proofs.Common.{◌≡◌, false, take}
use Rattle.std.specs.List.{list_any}
use Rattle.warp_stores.specs.Words.{Move}
use Rattle.warp_block.specs.Reads.{is_read}
use Rattle.warp_block.proofs.logs.have_readers.Given as goal

abbrev pub invariant-loop-word : goal.invariant-loop-word
invariant-loop-word l = list_any (λ (w : Move). is_read l.part w.place) (take l.word-index l.words) ≡ false
