-- What came true of a place up to the horizon.
use Rattle.std.proofs.Common.{◌≡◌, ◌∙◌, ℕ, suc, ◌+◌, ◌<◌, min, List, map, refl, ap, sym, arith}
use Rattle.gate_values.specs.declared.logic.Logic.{Logic}
use Rattle.gate_values.specs.declared.logic.Change.{Change}
use Rattle.gate_values.specs.Behaviour.{Source, source_delay, value}
use Rattle.gate_values.specs.Changes.{changes}
use Rattle.gate_values.proofs.ChangeLists.{before_time-changes}
use Rattle.warp_stores.specs.Words.{Move}
use Rattle.warp_stores.specs.Dated.{Dated}
use Rattle.warp_stores.specs.Lists.{changes_at}
use Rattle.place_moves.specs.Moves.{value_before}
use Rattle.place_moves.proofs.Moving.{moves-changes}
use Rattle.place_moves.proofs.Coming.{value-none}
use Rattle.place_moves.proofs.Logging.{log-driven}
use Rattle.warp_engine.specs.Logs.{log_up_to}
use Rattle.warp_engine.specs.Runs.{Run, IsRun}

-- where all up to the horizon is played, what came true of a driven place is its log
pub history_logs : (source : ℕ → Source) (given : ℕ → ℕ → Logic) (floor : ℕ) (run : Run) → IsRun source given floor run → run.book.mark ≡ suc run.horizon
    → (place : ℕ) → 0 < source_delay (source place) → changes_at place run.book.history ≡ log_up_to source given run.horizon run.book.mark place
history_logs source given floor run is mark place h =
    let delay : ℕ = source_delay (source place) in
    let all : List Change = changes (value source given place) (run.horizon + 1) in
    let end : run.book.mark ≡ min (run.book.mark + delay) (run.horizon + 1) = omega (arith, mark) in
    ap (map (λ (d : Dated Move). record { time = d.0; value = d.1.after })) (is.played.history.each place)
    ∙ moves-changes place (value_before source given place) (value source given place) (value-none source given place) (λ t. refl) run.book.mark
    ∙ ap (changes (value source given place)) end
    ∙ sym (before_time-changes (value source given place) (run.book.mark + delay) (run.horizon + 1))
    ∙ sym (log-driven (source place) run.book.mark all h)
