-- One change more ends one list later.
use Rattle.std.proofs.Common.{◌≡◌, ◌≢◌, ℕ, ◌+◌, ◌<◌, ◌≤◌, ◌⊎◌, inl, inr, List, [], ◌∷◌, ◌++◌, length, slice_set, refl, arith, get_or-set_same, get_or-set_other}
use Rattle.gate_values.specs.declared.logic.Change.{Change}
use Rattle.net_waves.specs.Waves.{wave_of, end_time}

end_time-push : (from : ℕ) (cs : List Change) (c : Change) → end_time from (cs ++ c ∷ []) ≡ c.time + 1
end_time-push from [] c = refl
end_time-push from (d ∷ ds) c = end_time-push (d.time + 1) ds c

pub pushed : (lists new : List (List Change)) (net time : ℕ) (c : Change) → net < length lists → c.time ≡ time → new ≡ slice_set lists net (wave_of lists net ++ c ∷ [])
    → ((n : ℕ) → end_time 0 (wave_of lists n) ≤ time + 1) → (n : ℕ) → end_time 0 (wave_of new n) ≤ time + 1
pushed lists new net time c known at is before n =
    elim (same n net) [
      | inl e ↦ rw (is, e, get_or-set_same lists net (wave_of lists net ++ c ∷ []) [] known, end_time-push 0 (wave_of lists net) c) (omega arith)
      | inr other ↦ rw (is, get_or-set_other lists net n (wave_of lists net ++ c ∷ []) [] other) (before n)
    ]
  where
    same : (n m : ℕ) → (n ≡ m) ⊎ (n ≢ m)
    same n m = grind arith
