use Rattle.std.proofs.Common.{◌<◌, length}
use Rattle.warp_rounds.specs.Inner.Work.{AreVisits}
use Rattle.warp_rounds.proofs.drawn.go_over.Given as goal

abbrev pub invariant-loop : goal.invariant-loop
invariant-loop g l = record {
  block : l.block < length l.sites;
  played : AreVisits l.floor l.window l.played.least;
}
