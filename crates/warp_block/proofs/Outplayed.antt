-- A history that is played up to the horizon tells the logs.
use Rattle.std.proofs.Common.{◌≡◌, ◌∙◌, ℕ, suc, ◌+◌, ◌<◌, ◌≤◌, inl, inr, false, Option, Some, None, is_some, List, [], ◌∷◌, length, get_or, refl, sym, subst, arith}
use Rattle.std.proofs.lemmas.Bool.{cases_lt, true≢false, false_from_ne_true}
use Rattle.std.proofs.lemmas.List.{append-nil, get_or_past}
use Rattle.gate_values.specs.declared.logic.Change.{Change}
use Rattle.warp_stores.specs.Words.{Move}
use Rattle.warp_stores.specs.Dated.{Dated, undated}
use Rattle.warp_stores.specs.Lists.{AreLonger}
use Rattle.warp_engine.specs.Runs.{Run, makings}
use Rattle.part_engine.specs.Runs.{IsEngineOf}
use Rattle.part_engine.specs.Histories.{TellLogs}
use Rattle.part_engine.proofs.RunLogs.{logs_longer, history_tells}
use Rattle.warp_process.specs.Heard.{IsReceived}
use Rattle.warp_process.specs.View.{View, IsLeast, IsEventTime, IsDone, is_busy}
use Rattle.warp_process.specs.Played.{played_view}
use Rattle.warp_block.specs.Shown.Block.{seen_by}
use Rattle.warp_block.proofs.Resting.{quiet_from, next_was}

-- where no event time is left, nothing happens up to the horizon
pub none_quiet : (v : View) (m : ℕ) (next : Option ℕ) → is_some next ≡ false → IsLeast (IsEventTime (played_view v m)) next → (t : ℕ) → m ≤ t → t ≤ v.horizon → is_busy (played_view v m) t ≡ false
none_quiet v m None e least t a b = false_from_ne_true (is_busy (played_view v m) t) (λ busy. least t (a, b, busy))
none_quiet v m (Some time) e least t a b = absurd (true≢false e)

pub none_done : (v : View) (m : ℕ) (next : Option ℕ) → is_some next ≡ false → IsLeast (IsEventTime (played_view v m)) next → IsDone (played_view v m)
none_done v m None e least t event = least t event
none_done v m (Some time) e least t event = absurd (true≢false e)

-- nor does it from a later mark on
pub quiet_on : (v : View) → IsReceived v → (m n : ℕ) → m ≤ n → ((t : ℕ) → m ≤ t → t ≤ v.horizon → is_busy (played_view v m) t ≡ false) → (t : ℕ) → n ≤ t → t < v.horizon → is_busy (played_view v n) t ≡ false
quiet_on v r m n on quiet =
    quiet_from v r n v.horizon
    (λ t a b. let from : m ≤ t = omega (arith, on, a) in
    sym (next_was v r m t from (omega (arith, b)) (λ u f g busy. true≢false (sym busy ∙ quiet u f (omega (arith, g, b))))) ∙ quiet t from (omega (arith, b)))

-- no word at all
pub none_dated : (ds : List (Dated Move)) → length (undated ds) ≡ 0 → ds ≡ []
none_dated [] e = refl
none_dated (d ∷ ds) e = absurd (omega (arith, e))

-- logs behind which nothing was made
same_at : (logs all : List (List Change)) → AreLonger [] logs all → (place : ℕ) → get_or all place [] ≡ get_or logs place []
same_at logs all longer place = elim (cases_lt place (length logs)) [
  | inl l ↦ longer.each place l ∙ append-nil (get_or logs place [])
  | inr far ↦ get_or_past all place [] (let e = longer.same in omega (arith, far, e)) ∙ sym (get_or_past logs place [] far)
]

-- an engine that is past the horizon, and has made nothing since, tells the logs of before
pub out_tells : (v : View) (floor : ℕ) (old run : Run) → IsEngineOf v floor run → floor ≤ old.book.mark → old.book.mark ≤ run.book.mark → run.book.mark ≡ v.horizon + 1 → makings old.book.mark run ≡ [] → TellLogs (seen_by v old) run.book.history
out_tells v floor old run of low high mark none place driven =
    let end : run.book.mark ≡ suc v.horizon = omega (arith, mark) in
    history_tells v run floor of end place driven
    ∙ same_at (played_view v old.book.mark).logs (played_view v run.book.mark).logs
    (subst (λ (ws : List (Dated Move)). AreLonger ws (played_view v old.book.mark).logs (played_view v run.book.mark).logs) none (logs_longer v run floor of old.book.mark low high)) place
