-- What is found of blocks, each alone.
use Rattle.std.specs.Prelude.{◌≡◌, ℕ, ◌<◌, List, length, get_or, MatchBool, MatchOption}
use Rattle.gate_netlist.specs.Circuit.{Design, CutFits}
use Rattle.gate_netlist.specs.Cut.{Ownership}
use Rattle.gate_stimulus.specs.Given.{Given}
use Rattle.warp_process.specs.View.{Process}
use Rattle.warp_core.specs.declared.gathering.findings.Finding.{Finding}
use Rattle.warp_core.specs.Matched.{seen_at, IsBlockOf, IsToldAt, AreTold, EachBlock}
use Rattle.warp_core.specs.Gather.{IsFirst}

-- the blocks are those of a circuit's cut, and go up to the horizon
pub record AreOfCut (d : Design) (cut : Ownership) (horizon : ℕ) (blocks : List Process) : Type 0 where
  pub fits : CutFits d cut
  pub parts : EachBlock cut blocks (IsBlockOf d cut horizon)

-- whether the block of a number is that of the cut, and where all blocks are, the first net that it wasn't told rightly
pub record IsFinding (d : Design) (cut : Ownership) (g : Given) (horizon : ℕ) (blocks : List Process) (b : ℕ) (f : Finding) : Type 0 where
  pub part : MatchBool f.is_other (¬ IsBlockOf d cut horizon b (seen_at blocks b)) (IsBlockOf d cut horizon b (seen_at blocks b))
  pub told : AreOfCut d cut horizon blocks → MatchOption f.untold (AreTold cut g horizon blocks (seen_at blocks b)) (IsFirst (IsToldAt cut g horizon blocks (seen_at blocks b)))

-- so for each block of the cut
pub record AreFound (d : Design) (cut : Ownership) (g : Given) (horizon : ℕ) (blocks : List Process) (found : List Finding) : Type 0 where
  pub count : length found ≡ cut.blocks
  pub each : (b : ℕ) (f : Finding) → b < cut.blocks → IsFinding d cut g horizon blocks b (get_or found b f)
