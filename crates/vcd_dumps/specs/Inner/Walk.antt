-- The line of the horizon, and what is put of changes one after another.
use Rattle.std.specs.List.{AllByRecursion}
use Rattle.byte_sinks.specs.Sink.{Held}
use Rattle.byte_sinks.specs.Lots.{Lot, Passes}
use Rattle.std.specs.Prelude.{◌≡◌, ◌<◌, ℕ, nat_lt, if◌then◌else◌, List, [], ◌++◌}
use Rattle.vcd_dumps.specs.Dump.{stamp}
use Rattle.vcd_dumps.specs.Walk.{walked, last_stop}
use Rattle.net_waves.specs.declared.timeline.Stop.{Stop}

-- the line of the horizon, where it is later than the last change
abbrev pub tail_line : ℕ → ℕ → List ℕ
tail_line last horizon = if nat_lt last horizon then stamp horizon else []

-- Some changes of all after one at the time `first` have been written, the last one at the time `last`, and the rest are left.
pub record IsWalked (old new : Held) (from to : Lot) (first last : ℕ) (rest all : List Stop) : Type 0 where
  pub text : List ℕ
  pub written : Passes old new from text to
  pub whole : text ++ walked last rest ≡ walked first all
  pub end : last_stop last rest ≡ last_stop first all
  pub known : AllByRecursion (λ (s : Stop). s.net < 1000000) rest

-- What was put goes on from one text to a longer one.
pub record GoesOn (old new : Held) (from : Lot) (first whole : List ℕ) (to : Lot) : Type 0 where
  pub text : List ℕ
  pub went : Passes old new from text to
  pub all : first ++ text ≡ whole
