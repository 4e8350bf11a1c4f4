use Rattle.net_waves.specs.Merging.{lefts}
use Rattle.net_waves.specs.Inner.Merging.{IsLeader}
use Rattle.net_waves.proofs.merging.leader.Given as goal

-- the run that leads those so far
abbrev pub invariant-loop-run : goal.invariant-loop-run
invariant-loop-run l = IsLeader (lefts l.runs) l.over l.run l.leader
