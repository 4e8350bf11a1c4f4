-- What is read of a history up to the time of its first word is at that time.
use Rattle.std.proofs.Common.{◌≡◌, ◌∙◌, ℕ, ◌+◌, ◌<◌, ◌≤◌, inl, inr, Bool, true, false, cond, Option, Some, None, List, [], ◌∷◌, length, refl, ap, subst, arith, nat_lt, nat_le}
use Rattle.std.specs.List.{filter, AllByRecursion}
use Rattle.std.proofs.lemmas.Bool.{ltb-true, cases_Bool}
use Rattle.warp_stores.proofs.Telling.{le_false}
use Rattle.warp_stores.specs.Dated.{Dated, at, before, undated, since, first_time, Rises, RisesFrom}

rises_low : {T : Type 0} (low time : ℕ) (ds : List (Dated T)) → low ≤ time → RisesFrom time ds → AllByRecursion (λ d. low ≤ d.0) ds
rises_low low time [] l h = tt
rises_low low time (d ∷ ds) l h = (omega (arith, l, h.0), rises_low low d.0 ds (omega (arith, l, h.0)) h.1)

-- what is ahead is at the time of the first, or later
ahead_from : {T : Type 0} (time : ℕ) (ds : List (Dated T)) → Rises ds → first_time ds ≡ Some time → AllByRecursion (λ d. time ≤ d.0) ds
ahead_from time [] h e = tt
ahead_from time (d ∷ ds) h e = (let same : d.0 ≡ time = some_is d.0 time e in subst (λ t. AllByRecursion (λ w. t ≤ w.0) (d ∷ ds)) same (omega arith, rises_low d.0 d.0 ds (omega arith) h.1))
  where
    some_is : (a b : ℕ) → Some a ≡ Some b → a ≡ b
    some_is a b e = cc

read_at : {T : Type 0} (time : ℕ) (ds : List (Dated T)) → AllByRecursion (λ d. time ≤ d.0) ds → at time (undated (before (time + 1) ds)) ≡ before (time + 1) ds
read_at time [] h = refl
read_at {T} time (d ∷ ds) h = go (nat_lt d.0 (time + 1)) (λ e. ltb-true d.0 (time + 1) e) (read_at time ds h.1)
  where
    go : (b : Bool) → (b ≡ true → d.0 < time + 1) → at time (undated (before (time + 1) ds)) ≡ before (time + 1) ds
        → at time (undated (cond b (d ∷ before (time + 1) ds) (before (time + 1) ds))) ≡ cond b (d ∷ before (time + 1) ds) (before (time + 1) ds)
    go true l rest = (let same : time ≡ d.0 = (let early = l refl in let from = h.0 in omega (arith, early, from)) in ap (λ (t : ℕ). (t, d.1) ∷ at time (undated (before (time + 1) ds))) same ∙ ap (λ (ws : List (Dated T)). d ∷ ws) rest)
    go false l rest = rest

pub read_now : {T : Type 0} (time : ℕ) (ds : List (Dated T)) → Rises ds → first_time ds ≡ Some time → at time (undated (before (time + 1) ds)) ≡ before (time + 1) ds
read_now time ds h e = read_at time ds (ahead_from time ds h e)

filter_few : {X : Type 0} (p : X → Bool) (xs : List X) → length (filter p xs) ≤ length xs
filter_few p [] = omega arith
filter_few {X} p (x ∷ xs) = elim (cases_Bool (p x)) [
  | inl e ↦ (rw e (omega (arith, filter_few p xs)))
  | inr e ↦ (rw e (omega (arith, filter_few p xs)))
]

some_at : (a b : ℕ) → Some a ≡ Some b → a ≡ b
some_at a b e = cc

none_some : {A : Type 0} (x : A) → ◌≡◌ {A = Option A} None (Some x) → ⊥
none_some x e = cc

-- and so less is left
pub read_less : {T : Type 0} (time : ℕ) (ds : List (Dated T)) → first_time ds ≡ Some time → length (since (time + 1) ds) < length ds
read_less time [] e = absurd (none_some time e)
read_less {T} time (d ∷ ds) e =
    let late : nat_le (time + 1) d.0 ≡ false = le_false (time + 1) d.0 (let same : d.0 ≡ time = some_at d.0 time e in omega (arith, same)) in
    rw late (omega (arith, filter_few (λ (w : Dated T). nat_le (time + 1) w.0) ds))
