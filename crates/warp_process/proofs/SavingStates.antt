-- Saved states stay lawful, and spaced, when a block goes on and when it goes back.
use Rattle.std.proofs.Common.{◌≡◌, ℕ, zero, suc, ◌+◌, ◌-◌, ◌<◌, ◌≤◌, List, [], ◌∷◌, map, take, length, get_or, refl, ap, sym, ◌∙◌, subst, arith}
use Rattle.std.specs.List.{All}
use Rattle.std.specs.List.Sorted.{IsPartitionPoint}
use Rattle.std.proofs.lemmas.List.Elements.{All-nil, All-cons}
use Rattle.gate_values.specs.Behaviour.{before}
use Rattle.warp_part.specs.Portion.{Portion, source_of}
use Rattle.warp_process.specs.View.{View, Saved, effective_at, moment_before, is_busy, busy_times}
use Rattle.warp_process.specs.Lawful.{save_every, IsLawful, IsSaved, AreSpaced}
use Rattle.warp_process.proofs.Running.{given, moments_agree}
use Rattle.warp_process.proofs.Views.{timed}
use Rattle.warp_process.proofs.SavingTimes.{times-split, times-agree, times-one}

-- how often a state is saved
pub saves : save_every ≡ 8
saves = refl

-- two lists of what two functions give of each net
pub map_same : {A : Type 0} (f g : ℕ → A) (ns : List ℕ) → ((n : ℕ) → f n ≡ g n) → map f ns ≡ map g ns
map_same f g [] h = refl
map_same f g (n ∷ ns) h = rw (h n, map_same f g ns h) refl

-- the moments up to a time before which the effective values agree
moment_agree : (v w : View) → IsLawful v → w.part ≡ v.part → (u m n : ℕ) → m ≤ u → ((k t : ℕ) → t < u → effective_at v k t ≡ effective_at w k t) →
    ((moment_before v m).value n ≡ (moment_before w m).value n) × ((moment_before v m).content n ≡ (moment_before w m).content n)
moment_agree v w is part u m n l h =
    let agree = moments_agree (source_of v.part) (timed v.part is.part) (effective_at v) (effective_at w) u h m n l in (
      agree.0 ∙ ap (λ (p : Portion). (before (source_of p) (given (effective_at w)) m).value n) (sym part),
      agree.1 ∙ ap (λ (p : Portion). (before (source_of p) (given (effective_at w)) m).content n) (sym part),
    )

-- a state that was saved before a time below which the effective values agree
pub saved_kept : (v w : View) → IsLawful v → w.part ≡ v.part → (u : ℕ) → ((n t : ℕ) → t < u → effective_at v n t ≡ effective_at w n t) →
    (s : Saved) → s.mark ≤ u → IsSaved v s → IsSaved w s
saved_kept v w is part u h s l saved = record {
  values = saved.values ∙ (map_same (moment_before v s.mark).value (moment_before w s.mark).value v.part.nets (λ n. (moment_agree v w is part u s.mark n l h).0) ∙ ap (λ (p : Portion). map (moment_before w s.mark).value p.nets) (sym part));
  contents = saved.contents ∙ (map_same (moment_before v s.mark).content (moment_before w s.mark).content v.part.nets (λ n. (moment_agree v w is part u s.mark n l h).1) ∙ ap (λ (p : Portion). map (moment_before w s.mark).content p.nets) (sym part));
}

pub all_kept : (v w : View) → IsLawful v → w.part ≡ v.part → (u : ℕ) → ((n t : ℕ) → t < u → effective_at v n t ≡ effective_at w n t) →
    (ss : List Saved) → All (λ (s : Saved). s.mark ≤ u) ss → All (IsSaved v) ss → All (IsSaved w) ss
all_kept v w is part u h ss marks saved k d l = saved_kept v w is part u h (get_or ss k d) (marks k d l) (saved k d l)

-- no saved state is past the mark
pub spaced_until : (v : View) (m : ℕ) (ss : List Saved) → AreSpaced v m ss → m ≤ v.mark
spaced_until v m [] h = h.0
spaced_until v m (s ∷ ss) h = (let past = spaced_until v s.mark ss h.3 in let up = h.0 in omega (arith, past, up))

pub spaced_marks : (v : View) (m : ℕ) (ss : List Saved) → AreSpaced v m ss → All (λ (s : Saved). s.mark ≤ v.mark) ss
spaced_marks v m [] h = All-nil (λ (s : Saved). s.mark ≤ v.mark)
spaced_marks v m (s ∷ ss) h = All-cons (λ (s : Saved). s.mark ≤ v.mark) s ss (spaced_until v s.mark ss h.3) (spaced_marks v s.mark ss h.3)

-- since the newest saved state there were few busy times
pub spaced_last : (v : View) (s : Saved) (ss : List Saved) (d : Saved) → AreSpaced v s.mark ss →
    ((get_or (s ∷ ss) (length ss) d).mark ≤ v.mark) × (busy_times v (get_or (s ∷ ss) (length ss) d).mark v.mark < save_every)
spaced_last v s [] d h = h
spaced_last v s (r ∷ ss) d h = spaced_last v r ss d h.3

-- another view with the same busy times below its mark
module _ (v w : View) (same : (t : ℕ) → t < v.mark → t < w.mark → is_busy v t ≡ is_busy w t) where
  same_times : (a b : ℕ) → b ≤ v.mark → b ≤ w.mark → busy_times v a b ≡ busy_times w a b
  same_times a b l k = times-agree (is_busy v) (is_busy w) a b (λ t from until. same t (omega (arith, l, until)) (omega (arith, k, until)))

  same_busy : (s : ℕ) → 0 < s → s ≤ v.mark → s ≤ w.mark → is_busy v (s - 1) ≡ is_busy w (s - 1)
  same_busy s pos l k = same (s - 1) (omega (arith, pos, l)) (omega (arith, pos, k))

  -- at the same mark
  pub spaced_kept : w.mark ≡ v.mark → (m : ℕ) (ss : List Saved) → AreSpaced v m ss → AreSpaced w m ss
  spaced_kept mark m [] h =
      let count = same_times m v.mark (omega arith) (omega (arith, mark)) in
      (omega (arith, mark, h.0), subst (λ (e : ℕ). busy_times w m e < save_every) (sym mark) (subst (λ (k : ℕ). k < save_every) count h.1))
  spaced_kept mark m (s ∷ ss) h =
      let until = spaced_until v s.mark ss h.3 in (
        h.0,
        sym (same_times m s.mark until (omega (arith, mark, until))) ∙ h.1,
        sym (same_busy s.mark (omega (arith, h.0)) until (omega (arith, mark, until))) ∙ h.2,
        spaced_kept mark s.mark ss h.3,
      )

  -- those up to an earlier mark
  pub spaced_cut : w.mark ≤ v.mark → (m : ℕ) → m ≤ w.mark → (ss : List Saved) (k : ℕ) → IsPartitionPoint (λ (s : Saved). s.mark ≤ w.mark) (λ (s : Saved). w.mark < s.mark) ss k →
      AreSpaced v m ss → AreSpaced w m (take k ss)
  spaced_cut back m l [] k point h =
      let count = same_times m w.mark back (omega arith) in
      let split : busy_times v m v.mark ≡ busy_times v m w.mark + busy_times v w.mark v.mark = times-split (is_busy v) m w.mark v.mark l back in
      subst (λ (ss : List Saved). AreSpaced w m ss) (sym (take_nil k)) (l, (let few = h.1 in let less : busy_times w m w.mark ≤ busy_times v m v.mark = omega (arith, count, split) in omega (arith, few, less)))
    where
      take_nil : (k : ℕ) → ◌≡◌ {A = List Saved} (take k []) []
      take_nil zero = refl
      take_nil (suc k) = refl
  spaced_cut back m l (s ∷ ss) zero point h =
      let past : w.mark < s.mark = point.1 0 s (omega arith) (omega arith) in
      let until = spaced_until v s.mark ss h.3 in
      let count = same_times m w.mark back (omega arith) in
      let split : busy_times v m (s.mark - 1) ≡ busy_times v m w.mark + busy_times v w.mark (s.mark - 1) = times-split (is_busy v) m w.mark (s.mark - 1) l (omega (arith, past)) in
      let last : busy_times v m s.mark ≡ busy_times v m (s.mark - 1) + busy_times v (s.mark - 1) s.mark = times-split (is_busy v) m (s.mark - 1) s.mark (omega (arith, l, past)) (omega arith) in
      let one : busy_times v (s.mark - 1) s.mark ≡ 1 = times-one (is_busy v) (s.mark - 1) s.mark (omega (arith, past)) h.2 in
      let all : busy_times v m s.mark ≡ save_every = h.1 in
      (l, omega (arith, count, split, last, one, all))
  spaced_cut back m l (s ∷ ss) (suc k) point h =
      let until = spaced_until v s.mark ss h.3 in
      let here : s.mark ≤ w.mark = point.0 0 s (omega arith) (omega arith) in (
        h.0,
        sym (same_times m s.mark until here) ∙ h.1,
        sym (same_busy s.mark (omega (arith, h.0)) until here) ∙ h.2,
        spaced_cut back s.mark here ss k ((λ j d a b. point.0 (suc j) d (omega arith) (omega (arith, b))), (λ j d a b. point.1 (suc j) d (omega (arith, a)) (omega (arith, b)))) h.3,
      )
