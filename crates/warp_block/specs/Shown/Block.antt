-- What contracts see of a block, and of its process.
use Rattle.std.specs.Prelude.{ℕ, max, List, map}
use Rattle.event_times.specs.Marks.{Played, marks_of}
use Rattle.warp_engine.specs.Runs.{Run}
use Rattle.warp_process.specs.View.{View, Saved, Process}
use Rattle.warp_process.specs.Played.{played_view}
use Rattle.part_engine.specs.Runs.{state_of}

-- everything below it is processed: what the engine has played, and what is committed
abbrev pub mark_by : View → Run → ℕ
mark_by v run = max run.book.mark v.floor

-- what was received, up to the mark, with the logs of what the engine has played
abbrev pub seen_by : View → Run → View
seen_by v run = record v { mark = mark_by v run; logs = (played_view v run.book.mark).logs }

-- the saved states: at each mark what the history brings back
abbrev pub saved_by : Run → Played → List Saved
saved_by run played = map (state_of run.book) (marks_of played)

abbrev pub process_by : View → Run → Played → Process
process_by v run played = record { seen = seen_by v run; saved = saved_by run played }
