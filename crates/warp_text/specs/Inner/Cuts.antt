-- The cut that is made of a circuit before it is played in blocks.
use Rattle.std.specs.Prelude.{◌≡◌, ℕ, Option, Some, None, IsSome}
use Rattle.gate_netlist.specs.Circuit.{Design, CutFits}
use Rattle.gate_netlist.specs.Cut.{Ownership}
use Rattle.warp_text.specs.Replay.{cut_of}

-- the cut that was made is the circuit's; where none was, the settings have one, and no number of blocks is asked for
abbrev pub IsMade : Design → Option ℕ → Option Ownership → Type 0
IsMade d blocks (Some cut) = (cut ≡ cut_of d blocks) × CutFits d cut
IsMade d blocks None = (blocks ≡ None) × IsSome d.cut
