-- What stops say of nets at time 0 is what the lists say whose changes they are.
use Rattle.std.proofs.Common.{◌≡◌, ◌≢◌, ℕ, zero, suc, ◌+◌, ◌<◌, ◌≤◌, ◌⊎◌, inl, inr, Bool, true, false, cond, ◌&&◌, nat_eq, Option, Some, None, unwrap_or, List, [], ◌∷◌, ◌++◌, map, take, drop, length, get_or, refl, ap, sym, ◌∙◌, subst, arith}
use Rattle.std.proofs.lemmas.Bool.{cases_Bool, eqb-true}
use Rattle.std.proofs.lemmas.List.{append-nil, map-append, take_more, take_all, drop_all}
use Rattle.std.specs.List.{AllByRecursion}
use Rattle.gate_values.specs.declared.logic.Logic.{Logic}
use Rattle.gate_values.specs.declared.logic.Logic.TheVariants.{X}
use Rattle.gate_values.specs.declared.logic.Change.{Change}
use Rattle.gate_values.specs.Changes.{same, pair_at}
use Rattle.gate_values.proofs.ChangeLists.{same_refl, same_is}
use Rattle.net_waves.specs.declared.timeline.Stop.{Stop}
use Rattle.net_waves.specs.declared.by_time.ByTime.{ByTime}
use Rattle.net_waves.specs.Timeline.{one, count}
use Rattle.net_waves.specs.Stops.{marked, AreStopsOf}
use Rattle.net_waves.specs.Packed.{Packed, told, words_at, told_below, all_told, times}
use Rattle.net_waves.specs.Waves.{wave_of}
use Rattle.net_waves.specs.First.{first_by, first_from}
use Rattle.net_waves.proofs.Compared.{eq_true, eq_false, cases_eq}
use Rattle.net_waves.proofs.Counting.{one-self}

-- what is written back into a list of the same length
pub written : (len : ℕ) (new old : List Logic) → length new ≡ length old → length new ≤ len → take len (new ++ drop (length new) old) ≡ new
written len new old same fits =
    ap (λ (xs : List Logic). take len (new ++ xs)) (drop_all (length new) old (omega (arith, same)))
    ∙ ap (take len) (append-nil new)
    ∙ take_all len new fits

-- ---- stop by stop

pub first-append : (v : Logic) (a b : List Stop) (n : ℕ) → first_from v (a ++ b) n ≡ first_from (first_from v a n) b n
first-append v [] b n = refl
first-append v (s ∷ a) b n = first-append (first_by s v n) a b n

-- one stop more
pub first-more : (v : Logic) (ss : List Stop) (i : ℕ) (d : Stop) (n : ℕ) → i < length ss → first_from v (take (i + 1) ss) n ≡ first_by (get_or ss i d) (first_from v (take i ss) n) n
first-more v ss i d n l = ap (λ (xs : List Stop). first_from v xs n) (take_more ss i d l) ∙ first-append v (take i ss) (get_or ss i d ∷ []) n

-- what one word or key more tells
pub first-more-of : (f : ℕ → Stop) (v : Logic) (xs : List ℕ) (i d : ℕ) (s : Stop) (n : ℕ) → i < length xs → s ≡ f (get_or xs i d)
    → first_from v (map f (take (i + 1) xs)) n ≡ first_by s (first_from v (map f (take i xs)) n) n
first-more-of f v xs i d s n l e =
    ap (λ (ys : List ℕ). first_from v (map f ys) n) (take_more xs i d l)
    ∙ ap (λ (ss : List Stop). first_from v ss n) (map-append f (take i xs) (get_or xs i d ∷ []))
    ∙ first-append v (map f (take i xs)) (f (get_or xs i d) ∷ []) n
    ∙ ap (λ (x : Stop). first_by x (first_from v (map f (take i xs)) n) n) (sym e)

-- later stops say nothing of time 0
pub first-late : (v : Logic) (ss : List Stop) (n : ℕ) → AllByRecursion (λ (s : Stop). 0 < s.time) ss → first_from v ss n ≡ v
first-late v [] n late = refl
first-late v (s ∷ ss) n late = rw (eq_false s.time 0 (λ e. let l = late.0 in omega (arith, l, e))) (first-late v ss n late.1)

-- ---- words: those of time 0 say it all

late_words : (t : ℕ) (ws : List ℕ) → 0 < t → AllByRecursion (λ (s : Stop). 0 < s.time) (map (told t) ws)
late_words t [] l = tt
late_words t (w ∷ ws) l = (l, late_words t ws l)

first-below : (p : Packed) (t : ℕ) (v : Logic) (n : ℕ) → first_from v (told_below p (suc t)) n ≡ first_from v (map (told 0) (words_at p 0)) n
first-below p zero v n = refl
first-below p (suc t) v n =
    first-append v (told_below p (suc t)) (map (told (suc t)) (words_at p (suc t))) n
    ∙ first-late (first_from v (told_below p (suc t)) n) (map (told (suc t)) (words_at p (suc t))) n (late_words (suc t) (words_at p (suc t)) (omega arith))
    ∙ first-below p t v n

pub first-packed : (p : Packed) (v : Logic) (n : ℕ) → 0 < times p → first_from v (all_told p) n ≡ first_from v (map (told 0) (words_at p 0)) n
first-packed p v n some = go (times p) some
  where
    go : (k : ℕ) → 0 < k → first_from v (told_below p k) n ≡ first_from v (map (told 0) (words_at p 0)) n
    go zero l = absurd (omega (arith, l))
    go (suc k) l = first-below p k v n

pub first-empty : (p : Packed) (v : Logic) (n : ℕ) → times p ≡ 0 → first_from v (all_told p) n ≡ v
first-empty p v n none = ap (λ (k : ℕ). first_from v (told_below p k) n) none

-- ---- and the lists

-- a net takes a value at time 0
abbrev at_first : ℕ → Logic → Stop
at_first n v = record { time = 0; net = n; value = v }

hit_or_not : (s : Stop) (n : ℕ) → (s ≡ at_first n s.value) ⊎ (((s.time ≡ 0) × (s.net ≡ n)) → ⊥)
hit_or_not s n = elim (cases_eq s.time 0) [
  | inl t ↦ elim (cases_eq s.net n) [
    | inl m ↦ inl (λ i. record { time = t i; net = m i; value = s.value })
    | inr other ↦ inr (λ h. other h.1)
  ]
  | inr other ↦ inr (λ h. other h.0)
]

missed : (s : Stop) (v : Logic) (n : ℕ) → (((s.time ≡ 0) × (s.net ≡ n)) → ⊥) → first_by s v n ≡ v
missed s v n away = elim (cases_eq s.time 0) [
  | inl t ↦ rw (eq_true s.time 0 t, eq_false s.net n (λ m. away (t, m))) refl
  | inr other ↦ rw (eq_false s.time 0 other) refl
]

hit : (s : Stop) (v : Logic) (n : ℕ) → s ≡ at_first n s.value → first_by s v n ≡ s.value
hit s v n e = rw (eq_true s.time 0 (ap (λ (x : Stop). x.time) e), eq_true s.net n (ap (λ (x : Stop). x.net) e)) refl

once : (s : Stop) (n : ℕ) → s ≡ at_first n s.value → one (at_first n s.value) s ≡ 1
once s n e = ap (λ (x : Stop). one x s) (sym e) ∙ one-self s

one_missed : (s : Stop) (n : ℕ) (w : Logic) → (((s.time ≡ 0) × (s.net ≡ n)) → ⊥) → one (at_first n w) s ≡ 0
one_missed s n w away = elim (cases_eq 0 s.time) [
  | inl t ↦ rw (eq_true 0 s.time t, eq_false n s.net (λ m. away (sym t, sym m))) refl
  | inr other ↦ rw (eq_false 0 s.time other) refl
]

-- where no stop is of a net at time 0 it keeps its value
first-none : (ss : List Stop) (n : ℕ) (v : Logic) → ((w : Logic) → count (at_first n w) ss ≡ 0) → first_from v ss n ≡ v
first-none [] n v none = refl
first-none (s ∷ ss) n v none = elim (hit_or_not s n) [
  | inl is ↦ absurd (let zero_of = none s.value in let this = once s n is in omega (arith, zero_of, this))
  | inr other ↦ ap (λ (x : Logic). first_from x ss n) (missed s v n other) ∙ first-none ss n v (λ w. let zero_of = none w in omega (arith, zero_of))
]

-- where all that are have one value, and there is one, or it has that value before, it takes it
first-one : (ss : List Stop) (n : ℕ) (v d : Logic) → ((w : Logic) → w ≢ v → count (at_first n w) ss ≡ 0) → (d ≡ v) ⊎ (0 < count (at_first n v) ss) → first_from d ss n ≡ v
first-one [] n v d none (inl e) = e
first-one [] n v d none (inr l) = absurd (omega (arith, l))
first-one (s ∷ ss) n v d none some = elim (hit_or_not s n) [
  | inl is ↦ elim (cases_Bool (same s.value v)) [
    | inl e ↦
        (let value : s.value ≡ v = same_is s.value v e in
        first-one ss n v (first_by s d n) (λ w other. let zero_of = none w other in omega (arith, zero_of)) (inl (hit s d n is ∙ value)))
    | inr apart ↦ absurd
        (let differ : s.value ≢ v = λ e. differs (same s.value v) apart (ap (λ (w : Logic). same w v) e ∙ same_refl v) in
        let zero_of = none s.value differ in let this = once s n is in omega (arith, zero_of, this))
  ]
  | inr other ↦
      ap (λ (x : Logic). first_from x ss n) (missed s d n other)
      ∙ first-one ss n v d (λ w apart. let zero_of = none w apart in omega (arith, zero_of)) (still other some)
]
  where
    differs : (b : Bool) → b ≡ false → b ≡ true → ⊥
    differs b e f = cc

    still : (((s.time ≡ 0) × (s.net ≡ n)) → ⊥) → (d ≡ v) ⊎ (0 < count (at_first n v) (s ∷ ss)) → (d ≡ v) ⊎ (0 < count (at_first n v) ss)
    still other (inl e) = inl e
    still other (inr l) = inr (let this = one_missed s n v other in omega (arith, l, this))

-- what the stops of lists say of a net is what its list says
pub first-told : (lists : List (List Change)) (stops : List Stop) (n : ℕ) → AreStopsOf lists stops → first_from X stops n ≡ unwrap_or (pair_at (wave_of lists n) 0) X
first-told lists stops n step = go (pair_at (wave_of lists n) 0) refl
  where
    counted : (w : Logic) (o : Option Logic) → pair_at (wave_of lists n) 0 ≡ o → count (at_first n w) stops ≡ marked w o
    counted w o e = step (at_first n w) ∙ ap (marked w) e

    apart : (w v : Logic) → w ≢ v → same w v ≡ false
    apart w v other = elim (cases_Bool (same w v)) [ inl e ↦ absurd (other (same_is w v e)) | inr e ↦ e ]

    go : (o : Option Logic) → pair_at (wave_of lists n) 0 ≡ o → first_from X stops n ≡ unwrap_or (pair_at (wave_of lists n) 0) X
    go None e = first-none stops n X (λ w. counted w None e) ∙ sym (ap (λ (o : Option Logic). unwrap_or o X) e)
    go (Some v) e =
        first-one stops n v X (λ w other. counted w (Some v) e ∙ ap (λ (b : Bool). cond b 1 0) (apart w v other))
        (inr (let here : count (at_first n v) stops ≡ 1 = counted v (Some v) e ∙ ap (λ (b : Bool). cond b 1 0) (same_refl v) in omega (arith, here)))
        ∙ sym (ap (λ (o : Option Logic). unwrap_or o X) e)
