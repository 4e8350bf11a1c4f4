-- Laws of words that came at times.
use Rattle.std.proofs.Common.{◌≡◌, ℕ, ◌<◌, ◌≤◌, ◌⊎◌, inl, inr, List, [], ◌∷◌, ◌++◌, refl, ap, ◌∙◌, arith, nat_lt}
use Rattle.std.proofs.lemmas.List.Elements.{filter-append}
use Rattle.std.proofs.lemmas.List.{append-nil}
use Rattle.warp_stores.specs.Dated.{Dated, before, since, last_from, last_time, RisesFrom, Rises}
use Rattle.warp_stores.proofs.Telling.{lt_true, lt_false, le_true, le_false}

time_cases : (t k : ℕ) → (t < k) ⊎ (k ≤ t)
time_cases t k = grind arith

-- what rises from a time on has nothing before it
before-early : {T : Type 0} (t low : ℕ) (ds : List (Dated T)) → t ≤ low → RisesFrom low ds → before t ds ≡ []
before-early t low [] h r = refl
before-early t low (d ∷ ds) h r =
    let g : low ≤ d.0 = r.0 in
    rw (lt_false d.0 t (omega arith)) (before-early t d.0 ds (omega arith) r.1)

since-early : {T : Type 0} (t low : ℕ) (ds : List (Dated T)) → t ≤ low → RisesFrom low ds → since t ds ≡ ds
since-early t low [] h r = refl
since-early {T} t low (d ∷ ds) h r =
    let g : low ≤ d.0 = r.0 in
    rw (le_true t d.0 (omega arith)) (ap (λ (xs : List (Dated T)). d ∷ xs) (since-early t d.0 ds (omega arith) r.1))

pub before_since : {T : Type 0} (t low : ℕ) (ds : List (Dated T)) → RisesFrom low ds → before t ds ++ since t ds ≡ ds
before_since t low [] r = refl
before_since {T} t low (d ∷ ds) r =
    elim (time_cases d.0 t) [
      | inl l ↦ rw (lt_true d.0 t l, le_false t d.0 l) (ap (λ (xs : List (Dated T)). d ∷ xs) (before_since t d.0 ds r.1))
      | inr g ↦ rw (lt_false d.0 t g, le_true t d.0 g, before-early t d.0 ds g r.1) (ap (λ (xs : List (Dated T)). d ∷ xs) (since-early t d.0 ds g r.1))
    ]

pub since-before : {T : Type 0} (t : ℕ) (ds : List (Dated T)) → since t (before t ds) ≡ []
since-before t [] = refl
since-before t (d ∷ ds) =
    elim (time_cases d.0 t) [
      | inl l ↦ rw (lt_true d.0 t l, le_false t d.0 l) (since-before t ds)
      | inr g ↦ rw (lt_false d.0 t g) (since-before t ds)
    ]

last_from-push : {T : Type 0} (low t : ℕ) (ds : List (Dated T)) (w : T) → last_from low (ds ++ (t, w) ∷ []) ≡ t
last_from-push low t [] w = refl
last_from-push low t (d ∷ ds) w = last_from-push d.0 t ds w

-- the last is no earlier than the first
pub last_from-low : {T : Type 0} (low : ℕ) (ds : List (Dated T)) → RisesFrom low ds → low ≤ last_from low ds
last_from-low low [] r = omega arith
last_from-low low (d ∷ ds) r = let g : low ≤ d.0 = r.0 in let h : d.0 ≤ last_from d.0 ds = last_from-low d.0 ds r.1 in omega arith

-- all is before what is later than the last
before-late : {T : Type 0} (t low : ℕ) (ds : List (Dated T)) → RisesFrom low ds → last_from low ds < t → before t ds ≡ ds
before-late t low [] r h = refl
before-late {T} t low (d ∷ ds) r h =
    let g : d.0 ≤ last_from d.0 ds = last_from-low d.0 ds r.1 in
    rw (lt_true d.0 t (omega arith)) (ap (λ (xs : List (Dated T)). d ∷ xs) (before-late t d.0 ds r.1 h))

pub before-push : {T : Type 0} (ds : List (Dated T)) (t : ℕ) (w : T) → Rises ds → last_time ds < t → before (last_time (ds ++ (t, w) ∷ [])) (ds ++ (t, w) ∷ []) ≡ ds
before-push {T} ds t w r h =
    rw (last_from-push 0 t ds w)
    (filter-append (λ (d : Dated T). nat_lt d.0 t) ds ((t, w) ∷ [])
    ∙ rw (before-late t 0 ds r h, lt_false t t (omega arith)) (append-nil ds))
