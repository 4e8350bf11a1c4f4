-- What is counted of the turns of blocks.
use Rattle.std.specs.Prelude.{◌≡◌, ℕ, ◌+◌, ◌≤◌, List, [], ◌∷◌}
use Rattle.gate_netlist.specs.Circuit.{Design}
use Rattle.gate_netlist.specs.Cut.{Ownership}
use Rattle.gate_stimulus.specs.Given.{Given}
use Rattle.warp_process.specs.View.{View, Process, busy_times}
use Rattle.warp_core.specs.Matched.{AreMatched}
use Rattle.warp_rounds.specs.declared.counts.Counts.{Counts}

-- From a time on that isn't past a block's floor: of the event times that were finished, those that weren't taken back are the
-- block's, up to its mark.
pub record IsCounted (v : View) (c : Counts) : Type 0 where
  pub start : c.since ≤ v.floor
  pub finished : c.steps ≡ c.undone + busy_times v c.since v.mark

-- each block is counted
abbrev pub AreCounted : List Process → List Counts → Type 0
AreCounted [] [] = Unit {0}
AreCounted (p ∷ ps) (c ∷ cs) = IsCounted p.seen c × AreCounted ps cs
AreCounted [] (c ∷ cs) = ⊥
AreCounted (p ∷ ps) [] = ⊥

-- The counts of the blocks of a cut, as they are when all is done: each has the event times of a block whose log is that of the
-- circuit's values.
pub record AccountsFor (d : Design) (cut : Ownership) (g : Given) (horizon : ℕ) (counts : List Counts) : Type 0 where
  pub blocks : List Process
  pub matched : AreMatched d cut g horizon blocks
  pub counted : AreCounted blocks counts
