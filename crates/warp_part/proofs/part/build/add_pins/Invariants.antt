use Rattle.std.proofs.Common.{◌≡◌, ◌++◌, map, take}
use Rattle.warp_part.specs.Shown.Building.{place_of}
use Rattle.warp_part.proofs.part.build.add_pins.Given as goal

abbrev pub invariant-loop-input : goal.invariant-loop-input
invariant-loop-input l = l.pins.items ≡ l.initial.pins.items ++ map (place_of l.nets) (take l.input-index l.inputs)
