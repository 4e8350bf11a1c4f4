-- What an engine tells that has played all up to the horizon.
use Rattle.std.proofs.Common.{◌≡◌, ℕ, suc, ◌+◌, List, ap, sym, subst, arith}
use Rattle.warp_stores.specs.Words.{Move}
use Rattle.warp_stores.specs.Dated.{Dated}
use Rattle.warp_engine.specs.Runs.{Run}
use Rattle.warp_process.specs.View.{View, given_by}
use Rattle.warp_process.specs.Played.{played_view}
use Rattle.warp_part.specs.Portion.{Portion}
use Rattle.warp_process.specs.Heard.{IsReceived}
use Rattle.part_engine.specs.Runs.{IsEngine, IsEngineOf, IsRunOf, IsOpeningRun}
use Rattle.part_engine.specs.Histories.{TellLogs}
use Rattle.part_engine.proofs.RunLogs.{history_tells}

-- of each own net its log
tells : (v : View) (run : Run) → IsEngine v run → run.book.mark ≡ v.horizon + 1 → TellLogs (played_view v (v.horizon + 1)) run.book.history
tells v run engine end =
    let last : run.book.mark ≡ suc v.horizon = omega (arith, end) in
    subst (λ (m : ℕ). TellLogs (played_view v m) run.book.history) end (history_tells v run engine.0 engine.1 last)

-- the engine of a part that has played nothing
pub opened : (v : View) → IsReceived v → (p : Portion) (horizon : ℕ) (run : Run) → p ≡ v.part → v.horizon ≡ horizon → IsOpeningRun p horizon run → IsEngineOf v 0 run
opened v received p horizon run same far opening = record {
  received = received;
  run = subst (λ (h : ℕ). IsRunOf v.part (given_by v) h 0 run) (sym far) (subst (λ (q : Portion). IsRunOf q (given_by v) horizon 0 run) same (opening.runs (given_by v)));
}

-- the same of what is heard
pub tells_of : (v w : View) (run : Run) → v ≡ w → IsEngine v run → (mark : ℕ) → mark ≡ w.horizon + 1 → run.book.mark ≡ v.horizon + 1 → (history : List (Dated Move)) → history ≡ run.book.history
    → TellLogs (played_view w mark) history
tells_of v w run same engine mark is end history all =
    subst (λ (m : ℕ). TellLogs (played_view w m) history) (sym is)
    (subst (TellLogs (played_view w (w.horizon + 1))) (sym all)
    (subst (λ (u : View). TellLogs (played_view u (u.horizon + 1)) run.book.history) same (tells v run engine end)))
