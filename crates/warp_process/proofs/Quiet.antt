-- Times at which nothing happens to a net that is read change nothing.
use Rattle.std.proofs.Common.{◌≡◌, ℕ, zero, suc, ◌+◌, ◌-◌, ◌<◌, ◌≤◌, true, cond, Option, None, List, inl, inr, refl, ap, sym, ◌∙◌, subst, arith}
use Rattle.gate_values.specs.declared.logic.Logic.{Logic}
use Rattle.gate_values.specs.declared.logic.Logic.TheVariants.{Zero, One, X, Z}
use Rattle.gate_values.specs.declared.logic.Change.{Change}
use Rattle.gate_values.specs.Tables.{flip_of}
use Rattle.gate_values.specs.Behaviour.{Source, Flop, before, value, history}
use Rattle.gate_values.specs.Inner.Behaviour.{content}
use Rattle.gate_values.specs.Changes.{pair_at}
use Rattle.gate_values.proofs.Behaving.{content_is}
use Rattle.warp_part.specs.Portion.{is_driven, source_of}
use Rattle.warp_process.specs.View.{View, effective_at, is_busy}
use Rattle.warp_process.specs.Lawful.{IsLawful}
use Rattle.warp_process.specs.Inner.Advance.{IsQuiet}
use Rattle.warp_process.proofs.Running.{given, run_log, run_news, run_log-quiet, steady, le_cases}
use Rattle.warp_process.proofs.Views.{IsUsed, timed, over_used, news_of-run, quiet_news}

pub flip_quiet : (content v d : Logic) → flip_of content v v d ≡ content
unfolding flip_of
flip_quiet content Zero d = refl
flip_quiet content One d = refl
flip_quiet content X d = refl
flip_quiet content Z d = refl

module _ (v : View) (is : IsLawful v) where
  abbrev source : ℕ → Source
  source = source_of v.part

  abbrev at : ℕ → ℕ → Option Logic
  at = effective_at v

  -- what happens at a time past the mark, where the logs are still those at the mark
  news_past : (t n : ℕ) → run_log source at t v.horizon n ≡ run_log source at v.mark v.horizon n → ¬ (is_busy v t ≡ true) → IsUsed v.part n →
      run_news source (timed v.part is.part) at t v.horizon n t ≡ None
  news_past t n same quiet used =
      ap (λ (log : List Change). cond (is_driven (source n)) (pair_at log t) (at n t)) same ∙ (sym (news_of-run v is n t) ∙ quiet_news v is n t quiet used)

  -- going past quiet times changes no log
  pub quiet_log : (k n : ℕ) → v.mark + k ≤ suc v.horizon → IsQuiet v (v.mark + k) → run_log source at (v.mark + k) v.horizon n ≡ run_log source at v.mark v.horizon n
  quiet_log zero n h q = ap (λ m. run_log source at m v.horizon n) (let e : v.mark + 0 ≡ v.mark = omega arith in e)
  quiet_log (suc k) n h q =
      let t : ℕ = v.mark + k in
      let within : v.mark + k ≤ suc v.horizon = omega arith in
      let ends : v.mark + k ≤ v.horizon = omega arith in
      let below : IsQuiet v (v.mark + k) = λ u l m. q u l (omega arith) in
      let here : ¬ (is_busy v (v.mark + k) ≡ true) = q (v.mark + k) (omega arith) (omega arith) in
      ap (λ m. run_log source at m v.horizon n) (let e : v.mark + suc k ≡ suc (v.mark + k) = omega arith in e)
      ∙ (run_log-quiet source (timed v.part is.part) at (v.mark + k) v.horizon (IsUsed v.part) (over_used v.part is.part)
      (λ i used. steady source (timed v.part is.part) at (v.mark + k) v.horizon i (v.mark + k) (omega arith) ends (news_past (v.mark + k) i (quiet_log k i within below) here used)) n
      ∙ quiet_log k n within below)

  -- the same, up to a time
  pub quiet_log_to : (s n : ℕ) → v.mark ≤ s → s ≤ suc v.horizon → IsQuiet v s → run_log source at s v.horizon n ≡ run_log source at v.mark v.horizon n
  quiet_log_to s n l h q =
      let e : v.mark + (s - v.mark) ≡ s = omega arith in
      subst (λ (m : ℕ). run_log source at m v.horizon n ≡ run_log source at v.mark v.horizon n) e
      (quiet_log (s - v.mark) n (omega arith) (subst (IsQuiet v) (sym e) q))

  -- a net that is used keeps its value at a time that isn't busy
  pub quiet_value : (t i : ℕ) → t ≤ v.horizon → (v.mark < t → IsQuiet v t) → ¬ (is_busy v t ≡ true) → IsUsed v.part i →
      value source (given at) i t ≡ (before source (given at) t).value i
  quiet_value t i h q quiet used = elim (le_cases t v.mark) [
    | inl l ↦ steady source (timed v.part is.part) at v.mark v.horizon i t l h (sym (news_of-run v is i t) ∙ quiet_news v is i t quiet used)
    | inr g ↦ steady source (timed v.part is.part) at t v.horizon i t (omega arith) h (news_past t i (quiet_log_to t i (omega arith) (omega arith) (q g)) quiet used)
  ]

  -- from one mark that isn't past the block's to a later one, no time is busy
  abbrev pub IsQuietFrom : ℕ → ℕ → Type 0
  IsQuietFrom m s = (t : ℕ) → m ≤ t → t < s → ¬ (is_busy v t ≡ true)

  -- nets that are used, and contents, are as they were
  pub quiet_before : (m k : ℕ) → m ≤ v.mark → m + k ≤ suc v.horizon → IsQuietFrom m (m + k) →
      ((i : ℕ) → IsUsed v.part i → (before source (given at) (m + k)).value i ≡ (before source (given at) m).value i)
      × ((n delay d c : ℕ) (i : Logic) → source n ≡ Flop delay d c i → IsUsed v.part c → (before source (given at) (m + k)).content n ≡ (before source (given at) m).content n)
  unfolding history
  quiet_before m zero l h q =
      let e : m + 0 ≡ m = omega arith in
      ((λ i used. ap (λ t. (before source (given at) t).value i) e), (λ n delay d c i s used. ap (λ t. (before source (given at) t).content n) e))
  quiet_before m (suc k) l h q =
      let e : m + suc k ≡ suc (m + k) = omega arith in
      let past = quiet_before m k l (omega arith) (λ t a b. q t a (omega arith)) in
      let keeps : (i : ℕ) → IsUsed v.part i → value source (given at) i (m + k) ≡ (before source (given at) (m + k)).value i =
      λ i used. quiet_value (m + k) i (omega arith) (λ g t a b. q t (omega arith) (omega arith)) (q (m + k) (omega arith) (omega arith)) used in (
        (λ i used. ap (λ t. (before source (given at) t).value i) e ∙ (keeps i used ∙ past.0 i used)),
        (λ n delay d c i s used. ap (λ t. (before source (given at) t).content n) e
            ∙ (content_is source (given at) n (m + k) delay d c i s
            ∙ (ap (λ (x : Logic). flip_of ((before source (given at) (m + k)).content n) ((before source (given at) (m + k)).value c) x ((before source (given at) (m + k)).value d)) (keeps c used)
            ∙ (flip_quiet ((before source (given at) (m + k)).content n) ((before source (given at) (m + k)).value c) ((before source (given at) (m + k)).value d)
            ∙ past.1 n delay d c i s used)))),
      )

  pub quiet_to : (m s : ℕ) → m ≤ v.mark → m ≤ s → s ≤ suc v.horizon → IsQuietFrom m s →
      ((i : ℕ) → IsUsed v.part i → (before source (given at) s).value i ≡ (before source (given at) m).value i)
      × ((n delay d c : ℕ) (i : Logic) → source n ≡ Flop delay d c i → IsUsed v.part c → (before source (given at) s).content n ≡ (before source (given at) m).content n)
  quiet_to m s l k h q =
      let e : m + (s - m) ≡ s = omega arith in
      subst (λ (t : ℕ). ((i : ℕ) → IsUsed v.part i → (before source (given at) t).value i ≡ (before source (given at) m).value i)
      × ((n delay d c : ℕ) (i : Logic) → source n ≡ Flop delay d c i → IsUsed v.part c → (before source (given at) t).content n ≡ (before source (given at) m).content n)) e
      (quiet_before m (s - m) l (omega arith) (subst (IsQuietFrom m) (sym e) q))
