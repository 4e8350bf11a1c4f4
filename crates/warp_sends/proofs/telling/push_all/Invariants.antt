use Rattle.std.proofs.Common.{◌≡◌, ◌++◌, map, take}
use Rattle.std.specs.List.{filter}
use Rattle.warp_sends.specs.Inner.Tellings.{word_of, is_told}
use Rattle.warp_sends.proofs.telling.push_all.Given as goal

abbrev pub invariant-loop-time : goal.invariant-loop-time
invariant-loop-time l = map word_of l.told.items ≡ map word_of l.fn.told.items ++ filter (is_told l.part) (take l.time-index l.words)
