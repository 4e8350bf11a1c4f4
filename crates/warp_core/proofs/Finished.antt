-- The logs of blocks that have no event time left.
use Rattle.std.proofs.Common.{◌≡◌, ℕ, suc, ◌+◌, ◌≤◌, min, true, List, [], inl, inr, ap, sym, subst, ◌∙◌, arith}
use Rattle.std.proofs.lemmas.Bool.{cases_Bool, cases_lt, cond-true, cond-false}
use Rattle.gate_values.specs.declared.logic.Change.{Change}
use Rattle.gate_values.specs.Behaviour.{source_delay}
use Rattle.gate_values.specs.Changes.{changes, before_time, latest}
use Rattle.gate_values.specs.declared.logic.Logic.TheVariants.{X}
use Rattle.gate_values.proofs.ChangeLists.{before_time-changes}
use Rattle.gate_stimulus.specs.Given.{AreItsChanges, last_stamp}
use Rattle.net_waves.specs.Waves.{IsWave, IsUntil}
use Rattle.gate_stimulus.proofs.WaveValues.{changes-IsWave}
use Rattle.warp_process.specs.Limits.{most_horizon}
use Rattle.warp_part.specs.Portion.{source_of, owns}
use Rattle.warp_process.specs.View.{View, IsDone, log_of, effective_at, block_value}
use Rattle.warp_process.specs.Lawful.{IsLawful}
use Rattle.warp_process.proofs.Running.{run_log}
use Rattle.warp_process.proofs.Views.{log_of-lawful}
use Rattle.warp_process.proofs.Quiet.{quiet_log_to}

-- a list of changes, and its end
abbrev pub IsWaveUntil : ℕ → List Change → Type 0
IsWaveUntil horizon cs = IsWave cs × IsUntil horizon cs

module _ (v : View) (is : IsLawful v) where
  abbrev logged : ℕ → ℕ → List Change
  logged m n = run_log (source_of v.part) (effective_at v) m v.horizon n

  logged-own : (m n : ℕ) → owns v.part n ≡ true → logged m n ≡ changes (block_value v n) (min (m + source_delay (source_of v.part n)) (v.horizon + 1))
  logged-own m n own = cond-true (owns v.part n) _ [] own ∙ before_time-changes (block_value v n) (m + source_delay (source_of v.part n)) (v.horizon + 1)

  -- past the horizon nothing is missing
  logged-late : (m n : ℕ) → owns v.part n ≡ true → suc v.horizon ≤ m → logged m n ≡ changes (block_value v n) (v.horizon + 1)
  logged-late m n own late =
      logged-own m n own ∙ ap (changes (block_value v n)) (let e : min (m + source_delay (source_of v.part n)) (v.horizon + 1) ≡ v.horizon + 1 = omega arith in e)

  -- the log of a net, once no event time is left
  pub finished_log : IsDone v → (n : ℕ) → owns v.part n ≡ true → log_of v n ≡ changes (block_value v n) (v.horizon + 1)
  finished_log done n own = log_of-lawful v is n ∙ elim (cases_lt v.horizon v.mark) [
    | inl late ↦ logged-late v.mark n own (omega arith)
    | inr open_ ↦
        sym (quiet_log_to v is (suc v.horizon) n (omega arith) (omega arith) (λ t from below busy. done t (from, omega arith, busy)))
        ∙ logged-late (suc v.horizon) n own (omega arith)
  ]

  -- a log is a wave that ends by the horizon
  pub log_wave : (n : ℕ) → IsWaveUntil v.horizon (log_of v n)
  log_wave n = subst (IsWaveUntil v.horizon) (sym (log_of-lawful v is n)) (elim (cases_Bool (owns v.part n)) [
    | inl own ↦
        (let w = changes-IsWave (block_value v n) (min (v.mark + source_delay (source_of v.part n)) (v.horizon + 1)) in
        subst (IsWaveUntil v.horizon) (sym (logged-own v.mark n own)) (w.0, omega (arith, w.1)))
    | inr other ↦ subst (IsWaveUntil v.horizon) (sym (cond-false (owns v.part n) _ [] other)) (tt, omega arith)
  ])

-- what a stimulus gives up to a horizon
pub given_changes : (cs : List Change) (horizon : ℕ) → horizon ≤ most_horizon → AreItsChanges cs → before_time (horizon + 1) cs ≡ changes (latest X cs) (horizon + 1)
given_changes cs horizon short is =
    ap (before_time (horizon + 1)) is
    ∙ (before_time-changes (latest X cs) (horizon + 1) (last_stamp + 1)
    ∙ ap (changes (latest X cs)) (let e : min (horizon + 1) (last_stamp + 1) ≡ horizon + 1 = omega arith in e))

pub given_wave : (cs : List Change) (horizon : ℕ) → horizon ≤ most_horizon → AreItsChanges cs → IsWaveUntil horizon (before_time (horizon + 1) cs)
given_wave cs horizon short is =
    let w = changes-IsWave (latest X cs) (horizon + 1) in
    subst (IsWaveUntil horizon) (sym (given_changes cs horizon short is)) w
