use Rattle.std.proofs.Common.{ℕ, ◌≤◌, length, take}
use Rattle.warp_core.specs.Inner.Turns.{place_in, scene_left, IsOpen, AreTurned}
use Rattle.warp_core.specs.Inner.Waiting.{IsListed}
use Rattle.warp_core.specs.World.{IsBefore}
use Rattle.warp_core.proofs.turns.take_turns.Given as goal

-- so many blocks have had their turns, and what was sent since the last one began isn't listed
abbrev pub invariant-loop-number : goal.invariant-loop-number
invariant-loop-number l = record {
  stands : IsOpen l.course l.blocks.items l.flight.items l.heard.items;
  listed : IsListed l.course.cut.now.blocks l.waiting (place_in l.heard.items) (take l.waiting.listed l.flight.items);
  within : l.waiting.listed ≤ length l.flight.items;
  low : (b : ℕ) → place_in l.heard.items b ≤ l.waiting.listed;
  turned : AreTurned l.order l.number-index (scene_left l.course l.fn.blocks.items l.fn.flight.items l.fn.heard.items) (scene_left l.course l.blocks.items l.flight.items l.heard.items);
  never : (s : ℕ) → IsBefore (scene_left l.course l.fn.blocks.items l.fn.flight.items l.fn.heard.items) s → IsBefore (scene_left l.course l.blocks.items l.flight.items l.heard.items) s;
}
