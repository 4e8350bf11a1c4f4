-- The log of a function rises.
use Rattle.std.proofs.Common.{◌≡◌, ℕ, zero, suc, ◌+◌, ◌-◌, ◌<◌, Bool, true, false, cond, min, List, [], ◌∷◌, ◌++◌, length, get_or, Option, inl, inr, refl, sym, subst, arith, length-append}
use Rattle.std.specs.List.{AllPairs}
use Rattle.std.proofs.lemmas.Bool.{cases_lt}
use Rattle.std.proofs.lemmas.List.{append-nil, get_or_append_left, get_or-append_right}
use Rattle.std.proofs.lemmas.List.Quantifiers.{all_pairs_push}
use Rattle.gate_values.specs.declared.logic.Logic.{Logic}
use Rattle.gate_values.specs.declared.logic.Change.{Change}
use Rattle.gate_values.specs.Behaviour.{Source, value, source_delay}
use Rattle.gate_values.specs.Changes.{changes, before_time, just_before, same}
use Rattle.gate_values.proofs.ChangeLists.{before_time-changes}
use Rattle.warp_part.specs.Portion.{is_driven}
use Rattle.warp_process.specs.Inner.Logs.{IsLog}
use Rattle.warp_process.proofs.Running.{run_log, given}

-- all changes are before a time
abbrev AreBefore : ℕ → List Change → Type 0
AreBefore end cs = (k : ℕ) (d : Change) → k < length cs → (get_or cs k d).time < end

single : (c e : Change) (k : ℕ) → k < 1 → get_or (c ∷ []) k e ≡ c
single c e zero h = refl
single c e (suc k) h = absurd (omega arith)

before_push : (end : ℕ) (cs : List Change) (c : Change) → AreBefore end cs → c.time < end → AreBefore end (cs ++ c ∷ [])
before_push end cs c b l k d h = elim (cases_lt k (length cs)) [
  | inl less ↦ rw (get_or_append_left cs (c ∷ []) d k less) (b k d less)
  | inr more ↦ (let short : k - length cs < 1 = omega (arith, length-append cs (c ∷ [])) in
      rw (get_or-append_right cs (c ∷ []) (length cs) k d refl more, single c d (k - length cs) short) l)
]

rises : (f : ℕ → Logic) (b : ℕ) → AllPairs (λ (x y : Change). x.time < y.time) (changes f b) × AreBefore b (changes f b)
unfolding changes
rises f zero = ((λ i j d l h. absurd (omega arith)), (λ k d h. absurd (omega arith)))
rises f (suc b) = go (same (f b) (just_before f b)) (rises f b)
  where
    go : (t : Bool) → AllPairs (λ (x y : Change). x.time < y.time) (changes f b) × AreBefore b (changes f b) →
        AllPairs (λ (x y : Change). x.time < y.time) (changes f b ++ cond t [] (record { time = b; value = f b } ∷ [])) × AreBefore (suc b) (changes f b ++ cond t [] (record { time = b; value = f b } ∷ []))
    go true h = rw (append-nil (changes f b)) (h.0, λ k d l. (let q = h.1 k d l in omega (arith, q)))
    go false h = (
      all_pairs_push (λ (x y : Change). x.time < y.time) (changes f b) (record { time = b; value = f b }) h.0 (λ k d l. h.1 k d l),
      before_push (suc b) (changes f b) (record { time = b; value = f b }) (λ k d l. (let q = h.1 k d l in omega (arith, q))) (omega arith),
    )

pub IsLog-changes : (f : ℕ → Logic) (b : ℕ) → IsLog (changes f b)
IsLog-changes f b = record { in_order = (rises f b).0 }

-- no change of a function is past its end
pub changes-before : (f : ℕ → Logic) (b k : ℕ) (d : Change) → k < length (changes f b) → (get_or (changes f b) k d).time < b
changes-before f b k d h = (rises f b).1 k d h

pub IsLog-none : IsLog []
IsLog-none = record { in_order = λ i j d l h. absurd (omega arith) }

pub IsLog-run : (source : ℕ → Source) (at : ℕ → ℕ → Option Logic) (mark horizon n : ℕ) → IsLog (run_log source at mark horizon n)
unfolding changes
IsLog-run source at mark horizon n = go (is_driven (source n))
  where
    go : (b : Bool) → IsLog (cond b (before_time (mark + source_delay (source n)) (changes (value source (given at) n) (horizon + 1))) [])
    go false = IsLog-none
    go true = subst IsLog (sym (before_time-changes (value source (given at) n) (mark + source_delay (source n)) (horizon + 1)))
        (IsLog-changes (value source (given at) n) (min (mark + source_delay (source n)) (horizon + 1)))
