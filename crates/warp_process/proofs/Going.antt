-- Nothing happens past the horizon, and saved states are up to the mark.
use Rattle.std.proofs.Common.{◌≡◌, ℕ, true, ◌&&◌, is_some, inl, inr, ◌-◌, ◌<◌, ◌≤◌, None, List, [], ◌∷◌, take, length, get_or, refl, ap, sym, ◌∙◌, arith}
use Rattle.std.specs.List.Sorted.{IsPartitionPoint}
use Rattle.std.proofs.lemmas.Bool.{cond-true, and_parts, cases_lt, true≢false}
use Rattle.std.proofs.lemmas.List.{take_all}
use Rattle.std.proofs.lemmas.List.Folds.{Any-from_list_any}
use Rattle.gate_values.specs.Changes.{pair_at}
use Rattle.warp_process.specs.Entries.{effective_of}
use Rattle.warp_part.specs.Portion.{is_driven, source_of, is_used}
use Rattle.warp_process.proofs.Running.{run_log, run_log-past, driven_or_not}
use Rattle.warp_process.proofs.Views.{timed, news_of-run}
use Rattle.warp_process.specs.View.{View, Saved, effective_at, news_of, is_busy, busy_times}
use Rattle.warp_process.specs.Lawful.{IsLawful, AreSaved}
use Rattle.warp_process.proofs.SavingStates.{spaced_until}
use Rattle.warp_process.proofs.SavingStep.{saved_marks}

-- nothing happens past the horizon
pub idle_past : (v : View) → IsLawful v → (t : ℕ) → v.horizon < t → ¬ (is_busy v t ≡ true)
idle_past v is t past busy =
    let some = Any-from_list_any (λ n. is_used v.part n && is_some (news_of v n t)) v.part.nets busy in
    let both = and_parts (is_used v.part some.1) (is_some (news_of v some.1 t)) some.4 in
    true≢false (sym both.1 ∙ ap is_some (none some.1))
  where
    none : (n : ℕ) → news_of v n t ≡ None
    none n = news_of-run v is n t ∙ elim (driven_or_not (source_of v.part n)) [
      | inl d ↦ cond-true (is_driven (source_of v.part n)) (pair_at (run_log (source_of v.part) (effective_at v) v.mark v.horizon n) t) (effective_at v n t) d
          ∙ run_log-past (source_of v.part) (timed v.part is.part) (effective_at v) v.mark v.horizon n t past
      | inr e ↦ rw e (ap effective_of (is.within n t past))
    ]

-- no time lies between a time and itself
pub no_times : (v : View) (m : ℕ) → busy_times v m m ≡ 0
no_times v m = let e : m - m ≡ 0 = omega arith in rw e refl

-- some state is saved
pub some_saved : (v : View) (ss : List Saved) → AreSaved v ss → 0 < length ss
some_saved v [] h = absurd h
some_saved v (s ∷ ss) h = omega arith

-- some state is saved, not past the mark
pub first_saved : (v : View) (ss : List Saved) (d : Saved) → AreSaved v ss → (0 < length ss) × ((get_or ss 0 d).mark ≤ v.mark)
first_saved v [] d h = absurd h
first_saved v (s ∷ ss) d h = (let until = spaced_until v s.mark ss h.1 in (omega arith, omega (arith, until)))

-- before time 0, where nothing was saved
abbrev unsaved : Saved
unsaved = record { mark = 0; values = []; contents = [] }

-- all saved states are up to the mark
pub all_taken : (v : View) (ss : List Saved) (k : ℕ) → AreSaved v ss → k ≤ length ss → IsPartitionPoint (λ (s : Saved). s.mark ≤ v.mark) (λ (s : Saved). v.mark < s.mark) ss k → take k ss ≡ ss
all_taken v ss k saved within point = elim (cases_lt k (length ss)) [
  | inl less ↦ (let late = point.1 k unsaved (omega arith) less in let until = saved_marks v ss saved k unsaved less in absurd (omega (arith, late, until)))
  | inr all ↦ take_all k ss all
]
