use Rattle.std.proofs.Common.{◌≡◌, ◌++◌, map, take}
use Rattle.std.specs.List.{flat_map}
use Rattle.warp_sends.specs.Inner.Tellings.{word_of}
use Rattle.warp_sends.specs.Told.{told_of}
use Rattle.warp_sends.proofs.words.send_each.Given as goal

abbrev pub invariant-loop-telling : goal.invariant-loop-telling
invariant-loop-telling l = l.out.items ≡ l.fn.out.items ++ flat_map (told_of l.sign l.part) (map word_of (take l.telling-index l.told))
