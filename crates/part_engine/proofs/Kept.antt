-- What passes a test is among all.
use Rattle.std.proofs.Common.{ℕ, Bool, true, false, cond, nat_eq, Option, Some, List, [], ◌∷◌, refl, IsSome}
use Rattle.std.specs.List.{filter}
use Rattle.gate_values.specs.declared.logic.Logic.{Logic}
use Rattle.gate_values.specs.declared.logic.Change.{Change}
use Rattle.gate_values.specs.Changes.{pair_at}

either : (b : Bool) (v : Logic) (o k : Option Logic) → (IsSome o → IsSome k) → IsSome (cond b (Some v) o) → IsSome (cond b (Some v) k)
either true v o k f h = refl
either false v o k f h = f h

later : (b : Bool) (v : Logic) (o : Option Logic) → IsSome o → IsSome (cond b (Some v) o)
later true v o h = refl
later false v o h = h

pub pair_at-filter : (p : Change → Bool) (xs : List Change) (t : ℕ) → IsSome (pair_at (filter p xs) t) → IsSome (pair_at xs t)
pair_at-filter p [] t h = h
pair_at-filter p (x ∷ xs) t h = go (p x) (pair_at-filter p xs t) h
  where
    go : (b : Bool) → (IsSome (pair_at (filter p xs) t) → IsSome (pair_at xs t)) → IsSome (pair_at (cond b (x ∷ filter p xs) (filter p xs)) t) → IsSome (pair_at (x ∷ xs) t)
    go true f k = either (nat_eq x.time t) x.value (pair_at (filter p xs) t) (pair_at xs t) f k
    go false f k = later (nat_eq x.time t) x.value (pair_at xs t) (f k)
