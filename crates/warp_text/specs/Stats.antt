-- What the counts of a run account for.
use Rattle.std.specs.Prelude.{ℕ, List, map, Result, Ok, Err, Vec}
use Rattle.std.specs.declared.alloc.Global.{Global}
use Rattle.gate_netlist.specs.Circuit.{Design}
use Rattle.gate_netlist.specs.Cut.{Ownership}
use Rattle.gate_stimulus.specs.Given.{Given}
use Rattle.warp_rounds.specs.declared.counts.Counts.{Counts}
use Rattle.warp_rounds.specs.Counts.{AccountsFor}
use Rattle.warp_text.specs.Answer.{IsCircuitOf}
use Rattle.warp_text.specs.declared.fault.Fault.{Fault}
use Rattle.warp_text.specs.declared.simulate.Simulated.{Simulated}
use Rattle.warp_text.specs.declared.stats.Stats.{Stats}

-- the dump of what is answered
abbrev pub dumped : Result Simulated Fault → Result (Vec ℕ Global) Fault
dumped (Ok simulated) = Ok simulated.dump
dumped (Err fault) = Err fault

-- what is counted of each block
abbrev pub counts_of : Stats → List Counts
counts_of stats = map (λ block. block.counts) stats.blocks.items

-- the counts are those of the blocks of some cut
abbrev pub Accounts : Design → Given → (until : ℕ) → Stats → Type 0
Accounts d g until stats = (cut : Ownership) × AccountsFor d cut g until (counts_of stats)

-- the same under some stimulus
abbrev pub IsAccountOf : Design → (until : ℕ) → Stats → Type 0
IsAccountOf d until stats = (g : Given) × Accounts d g until stats

-- the same of the circuit that two texts mean
abbrev pub AreCountsOf : (bench settings : List ℕ) → (until : ℕ) → Stats → Type 0
AreCountsOf bench text until stats = (d : Design) × IsCircuitOf bench text d × IsAccountOf d until stats
