-- What happens to a net at a time that is processed, and which of these times are busy, whatever the mark is.
use Rattle.std.proofs.Common.{◌≡◌, ℕ, zero, suc, Bool, cond, ◌&&◌, leb, ◌≤◌, inl, inr, Option, None, is_some, List, [], ◌∷◌, refl, ap, sym, ◌∙◌, arith}
use Rattle.std.specs.List.{list_any}
use Rattle.std.proofs.lemmas.Bool.{cond-true, cond-false, le-leb, lt-leb}
use Rattle.gate_values.specs.declared.logic.Logic.{Logic}
use Rattle.gate_values.specs.declared.logic.Change.{Change}
use Rattle.gate_values.specs.Behaviour.{Source, value}
use Rattle.gate_values.specs.Changes.{pair_at, just_before}
use Rattle.gate_values.proofs.ChangeLists.{change_option}
use Rattle.warp_part.specs.Portion.{Portion, is_driven, source_of, is_used}
use Rattle.warp_process.specs.View.{View, effective_at, news_of, is_busy}
use Rattle.warp_process.specs.Lawful.{IsLawful}
use Rattle.warp_process.specs.Inner.Advance.{IsQuiet}
use Rattle.warp_process.proofs.Running.{IsTimed, given, run_log, run_log-pair, run_log-past, run_news, values_agree, driven_or_not, delayed, le_cases}
use Rattle.warp_process.proofs.Views.{timed, news_of-run}
use Rattle.warp_process.proofs.Quiet.{quiet_log_to}

-- what happens to a net at a time, by its values up to a horizon, or by its effective values
abbrev pub news : (ℕ → Source) → (ℕ → ℕ → Option Logic) → ℕ → ℕ → ℕ → Option Logic
news source at horizon n t = cond (is_driven (source n)) (cond (leb t horizon) (change_option (value source (given at) n) t) None) (at n t)

change_agree : (f g : ℕ → Logic) (t : ℕ) → ((u : ℕ) → u ≤ t → f u ≡ g u) → change_option f t ≡ change_option g t
change_agree f g t h = rw (h t (omega arith), before_agree t h) refl
  where
    before_agree : (t : ℕ) → ((u : ℕ) → u ≤ t → f u ≡ g u) → just_before f t ≡ just_before g t
    before_agree zero h = refl
    before_agree (suc t) h = h t (omega arith)

module _ (source : ℕ → Source) (timed : (n : ℕ) → IsTimed (source n)) where
  -- at a time that isn't past the mark
  news_is : (at : ℕ → ℕ → Option Logic) (mark horizon n t : ℕ) → t ≤ mark → run_news source timed at mark horizon n t ≡ news source at horizon n t
  news_is at mark horizon n t l = elim (driven_or_not (source n)) [
    | inl d ↦ (let pos = delayed (source n) (timed n) d in
        cond-true (is_driven (source n)) (pair_at (run_log source at mark horizon n) t) (at n t) d
        ∙ (elim (le_cases t horizon) [
          | inl within ↦ run_log-pair source timed at mark horizon n t d (omega (arith, l, pos)) within
              ∙ sym (cond-true (leb t horizon) (change_option (value source (given at) n) t) None (le-leb t horizon within))
          | inr past ↦ run_log-past source timed at mark horizon n t past
              ∙ sym (cond-false (leb t horizon) (change_option (value source (given at) n) t) None (lt-leb t horizon past))
        ]
        ∙ sym (cond-true (is_driven (source n)) (cond (leb t horizon) (change_option (value source (given at) n) t) None) (at n t) d)))
    | inr e ↦ rw e refl
  ]

  -- it depends on the effective values up to the time alone
  news_agree : (at at' : ℕ → ℕ → Option Logic) (horizon n t : ℕ) → ((k u : ℕ) → u ≤ t → at k u ≡ at' k u) → news source at horizon n t ≡ news source at' horizon n t
  news_agree at at' horizon n t h = elim (driven_or_not (source n)) [
    | inl d ↦ (let pos = delayed (source n) (timed n) d in
        let values : (u : ℕ) → u ≤ t → value source (given at) n u ≡ value source (given at') n u =
        λ u l. values_agree source timed at at' (suc t) (λ k w b. h k w (omega (arith, b))) n u d (omega (arith, l, pos)) in
        rw d (ap (λ o. cond (leb t horizon) o None) (change_agree (value source (given at) n) (value source (given at') n) t values)))
    | inr e ↦ rw e (h n t (omega arith))
  ]

any_agree : (f g : ℕ → Bool) (ns : List ℕ) → ((n : ℕ) → f n ≡ g n) → list_any f ns ≡ list_any g ns
any_agree f g [] h = refl
any_agree f g (n ∷ ns) h = rw (h n, any_agree f g ns h) refl

-- something happens to a net that is used
abbrev pub happens : Portion → (ℕ → ℕ → Option Logic) → ℕ → ℕ → Bool
happens p at horizon t = list_any (λ n. is_used p n && is_some (news (source_of p) at horizon n t)) p.nets

module _ (v : View) (is : IsLawful v) where
  busy_from : (t : ℕ) → ((n : ℕ) → news_of v n t ≡ news (source_of v.part) (effective_at v) v.horizon n t) → is_busy v t ≡ happens v.part (effective_at v) v.horizon t
  busy_from t h =
      any_agree (λ n. is_used v.part n && is_some (news_of v n t)) (λ n. is_used v.part n && is_some (news (source_of v.part) (effective_at v) v.horizon n t)) v.part.nets
      (λ n. ap (λ o. is_used v.part n && is_some o) (h n))

  -- at a time that isn't past the mark
  pub busy_is : (t : ℕ) → t ≤ v.mark → is_busy v t ≡ happens v.part (effective_at v) v.horizon t
  busy_is t l = busy_from t (λ n. news_of-run v is n t ∙ news_is (source_of v.part) (timed v.part is.part) (effective_at v) v.mark v.horizon n t l)

  -- at a time past the mark before which nothing happens
  pub busy_is-next : (t : ℕ) → v.mark ≤ t → t ≤ v.horizon → IsQuiet v t → is_busy v t ≡ happens v.part (effective_at v) v.horizon t
  busy_is-next t from until quiet =
      busy_from t (λ n. news_of-run v is n t
      ∙ (ap (λ (log : List Change). cond (is_driven (source_of v.part n)) (pair_at log t) (effective_at v n t)) (sym (quiet_log_to v is t n from (omega (arith, until)) quiet))
      ∙ news_is (source_of v.part) (timed v.part is.part) (effective_at v) t v.horizon n t (omega arith)))

-- the same time in two views whose effective values agree up to it
pub happens_agree : (v w : View) → IsLawful v → w.part ≡ v.part → w.horizon ≡ v.horizon → (t : ℕ) → ((n u : ℕ) → u ≤ t → effective_at v n u ≡ effective_at w n u) →
    happens v.part (effective_at v) v.horizon t ≡ happens w.part (effective_at w) w.horizon t
happens_agree v w is part horizon t h =
    any_agree (λ n. is_used v.part n && is_some (news (source_of v.part) (effective_at v) v.horizon n t)) (λ n. is_used v.part n && is_some (news (source_of v.part) (effective_at w) v.horizon n t)) v.part.nets
    (λ n. ap (λ o. is_used v.part n && is_some o) (news_agree (source_of v.part) (timed v.part is.part) (effective_at v) (effective_at w) v.horizon n t h))
    ∙ (ap (λ (p : Portion). happens p (effective_at w) v.horizon t) (sym part) ∙ ap (λ k. happens w.part (effective_at w) k t) (sym horizon))

pub busy_agree : (v w : View) → IsLawful v → IsLawful w → w.part ≡ v.part → w.horizon ≡ v.horizon → (t : ℕ) → t ≤ v.mark → t ≤ w.mark →
    ((n u : ℕ) → u ≤ t → effective_at v n u ≡ effective_at w n u) → is_busy v t ≡ is_busy w t
busy_agree v w isv isw part horizon t l k h = busy_is v isv t l ∙ (happens_agree v w isv part horizon t h ∙ sym (busy_is w isw t k))
