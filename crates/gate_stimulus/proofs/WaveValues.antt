-- The values that waves give, and the changes of a function as a wave.
use Rattle.std.proofs.Common.{◌≡◌, ◌≢◌, ℕ, zero, suc, ◌+◌, ◌<◌, ◌≤◌, inl, inr, Bool, true, false, cond, nat_le, Some, None, List, [], ◌∷◌, ◌++◌, length, get_or, take, refl, sym, ◌∙◌, subst, arith}
use Rattle.std.proofs.lemmas.List.{append-nil}
use Rattle.gate_values.specs.declared.logic.Logic.{Logic}
use Rattle.gate_values.specs.declared.logic.Logic.TheVariants.{X}
use Rattle.gate_values.specs.declared.logic.Change.{Change}
use Rattle.gate_values.specs.Changes.{same, just_before, change_at, changes, latest, last_value, pair_at}
use Rattle.gate_values.proofs.ChangeLists.{change_option, same_refl, same_is, last_value-changes}
use Rattle.net_waves.specs.Waves.{end_time, Follows, IsWaveFrom, IsWave}
use Rattle.net_waves.proofs.Waving.{IsWaveFrom-push}
use Rattle.net_waves.proofs.Compared.{eq_true, eq_false, le_true, le_false, cases_three, cases_below}

same_not : (v w : Logic) → v ≢ w → same v w ≡ false
same_not v w h = go (same v w) refl
  where
    go : (b : Bool) → same v w ≡ b → b ≡ false
    go true e = absurd (h (same_is v w e))
    go false e = refl

latest-later : (v : Logic) (c : Change) (cs : List Change) (t : ℕ) → t < c.time → latest v (c ∷ cs) t ≡ latest v cs t
unfolding latest
latest-later v c cs t h = rw (le_false c.time t h) refl

latest-since : (v : Logic) (c : Change) (cs : List Change) (t : ℕ) → c.time ≤ t → latest v (c ∷ cs) t ≡ latest c.value cs t
unfolding latest
latest-since v c cs t h = rw (le_true c.time t h) refl

latest-none : (v : Logic) (t : ℕ) → latest v [] t ≡ v
unfolding latest
latest-none v t = refl

-- before its first time a wave has neither changes nor values
latest-early : (from : ℕ) (before v : Logic) (cs : List Change) (t : ℕ) → IsWaveFrom from before cs → t < from → latest v cs t ≡ v
latest-early from before v [] t w h = latest-none v t
latest-early from before v (c ∷ cs) t w h =
    let later : t < c.time = omega (arith, w.0) in
    latest-later v c cs t later ∙ latest-early (c.time + 1) c.value v cs t w.2 (omega arith)

pair_at-early : (from : ℕ) (before : Logic) (cs : List Change) (t : ℕ) → IsWaveFrom from before cs → t < from → pair_at cs t ≡ None
pair_at-early from before [] t w h = refl
pair_at-early from before (c ∷ cs) t w h =
    let later : t < c.time = omega (arith, w.0) in
    let ne : c.time ≢ t = omega arith in
    rw (eq_false c.time t ne) (pair_at-early (c.time + 1) c.value cs t w.2 (omega arith))

-- the value just before a time
abbrev prior : Logic → List Change → ℕ → Logic
prior before cs zero = before
prior before cs (suc t) = latest before cs t

prior-early : (from : ℕ) (before : Logic) (c : Change) (cs : List Change) (t : ℕ) → IsWaveFrom from before (c ∷ cs) → t ≤ c.time → prior before (c ∷ cs) t ≡ before
prior-early from before c cs zero w h = refl
prior-early from before c cs (suc t) w h =
    latest-later before c cs t (omega arith) ∙ latest-early (c.time + 1) c.value before cs t w.2 (omega arith)

prior-since : (before : Logic) (c : Change) (cs : List Change) (t : ℕ) → c.time < t → prior before (c ∷ cs) t ≡ prior c.value cs t
prior-since before c cs zero h = absurd (omega arith)
prior-since before c cs (suc t) h = latest-since before c cs t (omega arith)

-- a change stands in a wave just where its value changes
pair_at-from : (from : ℕ) (before : Logic) (cs : List Change) (t : ℕ) → IsWaveFrom from before cs → pair_at cs t ≡ cond (same (latest before cs t) (prior before cs t)) None (Some (latest before cs t))
pair_at-from from before [] zero w = rw (latest-none before 0, same_refl before) refl
pair_at-from from before [] (suc t) w = rw (latest-none before (suc t), latest-none before t, same_refl before) refl
pair_at-from from before (c ∷ cs) t w = elim (cases_three c.time t) [
  | inl early ↦ (
      let ne : c.time ≢ t = omega arith in
      let le : t ≤ c.time = omega arith in
      rw (eq_false c.time t ne, latest-later before c cs t early, latest-early (c.time + 1) c.value before cs t w.2 (omega arith), prior-early from before c cs t w le, same_refl before)
      (pair_at-early (c.time + 1) c.value cs t w.2 (omega arith)))
  | inr rest ↦ elim rest [
    | inl now ↦ (
        let le : c.time ≤ t = omega arith in
        let le_too : t ≤ c.time = omega arith in
        rw (eq_true c.time t now, latest-since before c cs t le, latest-early (c.time + 1) c.value c.value cs t w.2 (omega arith), prior-early from before c cs t w le_too, same_not c.value before w.1) refl)
    | inr late ↦ (
        let ne : c.time ≢ t = omega arith in
        let le : c.time ≤ t = omega arith in
        rw (eq_false c.time t ne, latest-since before c cs t le, prior-since before c cs t late) (pair_at-from (c.time + 1) c.value cs t w.2))
  ]
]

pub pair_at-wave : (cs : List Change) (t : ℕ) → IsWave cs → pair_at cs t ≡ change_option (latest X cs) t
pair_at-wave cs zero w = pair_at-from 0 X cs 0 w
pair_at-wave cs (suc t) w = pair_at-from 0 X cs (suc t) w

latest-append : (v : Logic) (xs ys : List Change) (t : ℕ) → latest v (xs ++ ys) t ≡ latest (latest v xs t) ys t
unfolding latest
latest-append v [] ys t = refl
latest-append v (x ∷ xs) ys t = latest-append (cond (nat_le x.time t) x.value v) xs ys t

-- what the change at a time leaves from that time on, and before
latest-change_at : (f : ℕ → Logic) (b t : ℕ) → b ≤ t → latest (just_before f b) (change_at f b) t ≡ f b
latest-change_at f b t h = go (same (f b) (just_before f b)) refl
  where
    go : (d : Bool) → same (f b) (just_before f b) ≡ d → latest (just_before f b) (cond d [] (record { time = b; value = f b } ∷ [])) t ≡ f b
    go true e = latest-none (just_before f b) t ∙ sym (same_is (f b) (just_before f b) e)
    go false e = latest-since (just_before f b) (record { time = b; value = f b }) [] t h ∙ latest-none (f b) t

latest-change_later : (f : ℕ → Logic) (v : Logic) (b t : ℕ) → t < b → latest v (change_at f b) t ≡ v
latest-change_later f v b t h = go (same (f b) (just_before f b))
  where
    go : (d : Bool) → latest v (cond d [] (record { time = b; value = f b } ∷ [])) t ≡ v
    go true = latest-none v t
    go false = latest-later v (record { time = b; value = f b }) [] t h ∙ latest-none v t

latest-changes_past : (f : ℕ → Logic) (b t : ℕ) → b ≤ t → latest X (changes f b) t ≡ just_before f b
unfolding changes
latest-changes_past f zero t h = latest-none X t
latest-changes_past f (suc b) t h = latest-append X (changes f b) (change_at f b) t ∙ rw (latest-changes_past f b t (omega arith)) (latest-change_at f b t (omega arith))

-- the changes of a function below an end give its values there
pub latest-changes : (f : ℕ → Logic) (b t : ℕ) → t < b → latest X (changes f b) t ≡ f t
unfolding changes
latest-changes f zero t h = absurd (omega arith)
latest-changes f (suc b) t h = latest-append X (changes f b) (change_at f b) t ∙ elim (cases_below t b h) [
  | inl below ↦ rw (latest-changes f b t below) (latest-change_later f (f t) b t below)
  | inr now ↦ subst (λ (u : ℕ). latest (latest X (changes f b) u) (change_at f b) u ≡ f u) (sym now) (rw (latest-changes_past f b b (omega arith)) (latest-change_at f b b (omega arith)))
]

end_time-push : (from : ℕ) (cs : List Change) (c : Change) → end_time from (cs ++ c ∷ []) ≡ c.time + 1
end_time-push from [] c = refl
end_time-push from (x ∷ cs) c = end_time-push (x.time + 1) cs c

-- the changes of a function are a wave, and end there
pub changes-IsWave : (f : ℕ → Logic) (b : ℕ) → IsWave (changes f b) × (end_time 0 (changes f b) ≤ b)
unfolding changes
changes-IsWave f zero = (tt, omega arith)
changes-IsWave f (suc b) = go (same (f b) (just_before f b)) refl (changes-IsWave f b)
  where
    go : (d : Bool) → same (f b) (just_before f b) ≡ d → IsWave (changes f b) × (end_time 0 (changes f b) ≤ b)
        → IsWave (changes f b ++ cond d [] (record { time = b; value = f b } ∷ [])) × (end_time 0 (changes f b ++ cond d [] (record { time = b; value = f b } ∷ [])) ≤ suc b)
    go true e w = rw (append-nil (changes f b)) (w.0, omega (arith, w.1))
    go false e w =
        let new : f b ≢ last_value X (changes f b) = λ h. differ e (h ∙ last_value-changes f b) in
        (IsWaveFrom-push 0 X (changes f b) (record { time = b; value = f b }) w.0 w.1 new, rw (end_time-push 0 (changes f b) (record { time = b; value = f b })) (omega arith))
      where
        differ : same (f b) (just_before f b) ≡ false → f b ≡ just_before f b → ⊥
        differ e equal = let both : same (just_before f b) (just_before f b) ≡ false = rw equal at e in let both_too : true ≡ false = sym (same_refl (just_before f b)) ∙ both in cc

-- the value at 0, by the first change
pub first-none : (cs : List Change) → length cs ≡ 0 → X ≡ latest X cs 0
first-none [] e = sym (latest-none X 0)
first-none (c ∷ cs) e = absurd (omega arith)

pub first-later : (cs : List Change) (d : Change) → IsWave cs → 0 < length cs → (get_or cs 0 d).time ≢ 0 → X ≡ latest X cs 0
first-later [] d w h late = absurd (omega arith)
first-later (c ∷ cs) d w h late =
    let later : 0 < c.time = omega arith in
    sym (latest-later X c cs 0 later ∙ latest-early (c.time + 1) c.value X cs 0 w.2 (omega arith))

pub first-now : (cs : List Change) (d : Change) → IsWave cs → 0 < length cs → (get_or cs 0 d).time ≡ 0 → (get_or cs 0 d).value ≡ latest X cs 0
first-now [] d w h now = absurd (omega arith)
first-now (c ∷ cs) d w h now =
    let le : c.time ≤ 0 = omega arith in
    sym (latest-since X c cs 0 le ∙ latest-early (c.time + 1) c.value c.value cs 0 w.2 (omega arith))

pub ruleset first_values = (first-none, first-later, first-now)

-- each change of a wave follows those before it
follows-from : (from : ℕ) (before : Logic) (cs : List Change) (i : ℕ) (d : Change) → IsWaveFrom from before cs → i < length cs → (end_time from (take i cs) ≤ (get_or cs i d).time) × ((get_or cs i d).value ≢ last_value before (take i cs))
follows-from from before [] i d w h = absurd (omega arith)
follows-from from before (c ∷ cs) zero d w h = (w.0, w.1)
follows-from from before (c ∷ cs) (suc i) d w h = follows-from (c.time + 1) c.value cs i d w.2 (omega arith)

pub Follows-take : (cs : List Change) (i : ℕ) (d : Change) → IsWave cs → i < length cs → Follows (take i cs) (get_or cs i d)
Follows-take cs i d w h = follows-from 0 X cs i d w h
