-- What is written of runs that are merged.
use Rattle.std.specs.Prelude.{ℕ, List}
use Rattle.net_waves.specs.declared.timeline.Stop.{Stop}
use Rattle.net_waves.specs.Inner.Merging.{AreRunsOf}
use Rattle.byte_sinks.specs.Sink.{Held}
use Rattle.byte_sinks.specs.Lots.{Lot}
use Rattle.vcd_dumps.specs.Inner.Walk.{IsWalked}

-- some stops of all have been written, the last one at the time `last`, and the runs have the others
pub record IsMerged (old new : Held) (from to : Lot) (last : ℕ) (runs : List (List Stop)) (all : List Stop) : Type 0 where
  pub rest : List Stop
  pub walked : IsWalked old new from to 0 last rest all
  pub left : AreRunsOf runs rest
