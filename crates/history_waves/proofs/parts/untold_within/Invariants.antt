use Rattle.std.proofs.Common.{◌≡◌, map, take}
use Rattle.history_waves.specs.Inner.Parts.{part_of}
use Rattle.history_waves.proofs.parts.untold_within.Given as goal

-- what the stories so far tell of the part
abbrev pub invariant-loop-story : goal.invariant-loop-story
invariant-loop-story l = l.untold.items ≡ map (part_of l.from l.until) (take l.story-index l.stories)
