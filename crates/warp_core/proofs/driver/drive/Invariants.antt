use Rattle.std.proofs.Common.{◌≡◌, ◌+◌, ◌-◌, ◌≤◌}
use Rattle.warp_core.specs.Drive.{AreRounds}
use Rattle.warp_core.specs.World.{Scene, IsLeastTime, IsStart}
use Rattle.warp_core.proofs.driver.drive.Given as goal

-- each round has raised the least time
abbrev pub invariant-loop-least : goal.invariant-loop-least
invariant-loop-least l = record {
  circuit : l.world.circuit ≡ l.circuit;
  cut : l.world.cut ≡ l.cut;
  stimulus : l.world.stimulus ≡ l.stimulus;
  horizon : l.world.horizon ≡ l.horizon;
  least : IsLeastTime l.world l.least;
  few : l.rounds ≤ l.least;
  start : Scene;
  is_start : IsStart l.circuit l.cut l.stimulus l.horizon start;
  played : AreRounds l.order l.rounds start l.world;
}

abbrev pub decreases-loop-least : goal.decreases-loop-least
decreases-loop-least l = (l.horizon + 1) - l.least
