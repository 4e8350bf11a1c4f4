-- What an engine's run is to what a block has received.
use Rattle.std.specs.Prelude.{◌≡◌, ℕ, max, Bool, not, ◌&&◌, Option}
use Rattle.std.specs.List.{list_any}
use Rattle.gate_values.specs.declared.logic.Logic.{Logic}
use Rattle.gate_values.specs.declared.logic.Logic.TheVariants.{X}
use Rattle.gate_values.specs.Behaviour.{initial_of}
use Rattle.gate_values.specs.Changes.{same}
use Rattle.warp_engine.specs.Runs.{Run, IsRun}
use Rattle.warp_engine.specs.Nexts.{AreParted}
use Rattle.warp_engine.specs.States.{values_before, contents_before}
use Rattle.warp_journal.specs.Books.{Book}
use Rattle.warp_part.specs.Portion.{Portion, source_of, is_used}
use Rattle.warp_part.specs.Placing.{place_source, place_given, place_cells}
use Rattle.warp_process.specs.Heard.{IsReceived, IsHeardFrom}
use Rattle.warp_process.specs.View.{View, Saved, IsLeast, given_by}

-- The run has played the sources of a part over what is given, from a floor on, up to a last time.
pub record IsRunOf (p : Portion) (given : ℕ → ℕ → Logic) (last floor : ℕ) (run : Run) : Type 0 where
  pub is : IsRun (place_source p) (place_given p given) floor run
  pub horizon : run.horizon ≡ last
  pub cells : run.book.gates.cells ≡ place_cells p
  pub parted : AreParted (place_source p) run.book

-- an engine of a part that has played nothing, whatever is given
pub record IsOpeningRun (p : Portion) (horizon : ℕ) (run : Run) : Type 0 where
  pub runs : (given : ℕ → ℕ → Logic) → IsRunOf p given horizon 0 run
  pub mark : run.book.mark ≡ 0

-- a net that is read begins with a known value
abbrev pub begins_of : Portion → Bool
begins_of p = list_any (λ n. is_used p n && not (same (initial_of (source_of p n)) X)) p.nets

-- What a block has received, and an engine that has played it up to its mark, from a floor on.
pub record IsEngineOf (v : View) (floor : ℕ) (engine : Run) : Type 0 where
  pub received : IsReceived v
  pub run : IsRunOf v.part (given_by v) v.horizon floor engine

-- what a run brings back of a moment
abbrev pub state_of : Book → ℕ → Saved
state_of book mark = record { mark = mark; values = values_before mark book; contents = contents_before mark book }

-- the same from some floor on
abbrev pub IsEngine : View → Run → Type 0
IsEngine v run = (floor : ℕ) × IsEngineOf v floor run

-- the least time, from a mark on and not below the floor, at which something is brought to a net from outside
abbrev pub IsNextBrought : View → ℕ → Option ℕ → Type 0
IsNextBrought v mark brought = IsLeast (IsHeardFrom v (max mark v.floor)) brought
