-- What a walk over the rows finds, from one time to the next.
use Rattle.std.proofs.Common.{◌≡◌, ◌≢◌, ℕ, ◌+◌, ◌<◌, ◌≤◌, true, Some, None, inl, inr, subst, arith}
use Rattle.std.proofs.lemmas.Bool.{cases_lt, cases_eq}
use Rattle.warp_process.specs.declared.by_time.Rows.{Rows}
use Rattle.warp_process.specs.Inner.Rows.{is_listed}
use Rattle.warp_process.specs.View.{IsLeast}

-- what is so at no time at which no row stands
module _ (rows : Rows) (from : ℕ) (P : ℕ → Type 0) (listed : (t : ℕ) → P t → is_listed rows t ≡ true) where
  -- it isn't so from the first time on and before a start
  abbrev pub IsPassed : ℕ → Type 0
  IsPassed start = (t : ℕ) → from ≤ t → t < start → P t → ⊥

  module _ (start : ℕ) (later : from ≤ start) (passed : IsPassed start) where
    pub over : ((t : ℕ) → start ≤ t → P t → ⊥) → IsLeast (λ t. (from ≤ t) × P t) None
    over none t h = elim (cases_lt t start) [
      | inl l ↦ passed t h.0 l h.1
      | inr m ↦ none t m h.1
    ]

    pub none_left : IsLeast (λ t. (start ≤ t) × (is_listed rows t ≡ true)) None → IsLeast (λ t. (from ≤ t) × P t) None
    none_left none = over (λ t m h. none t (m, listed t h))

    module _ (time : ℕ) (least : IsLeast (λ t. (start ≤ t) × (is_listed rows t ≡ true)) (Some time)) where
      before_time : (t : ℕ) → from ≤ t → t < time → P t → ⊥
      before_time t l k h = elim (cases_lt t start) [
        | inl b ↦ passed t l b h
        | inr m ↦ (let below = least.1 t (m, listed t h) in omega (arith, below, k))
      ]

      pub past : ((t : ℕ) → time ≤ t → P t → ⊥) → IsLeast (λ t. (from ≤ t) × P t) None
      past none t h = elim (cases_lt t time) [
        | inl l ↦ before_time t h.0 l h.1
        | inr m ↦ none t m h.1
      ]

      pub found : P time → IsLeast (λ t. (from ≤ t) × P t) (Some time)
      found h = (
        ((let k = least.0.0 in omega (arith, k, later)), h),
        λ u k. elim (cases_lt u time) [ inl l ↦ absurd (before_time u k.0 l k.1) | inr m ↦ m ],
      )

      pub more : (P time → ⊥) → IsPassed (time + 1)
      more quiet t l k h = elim (cases_eq t time) [
        | inl same ↦ quiet (subst P same h)
        | inr other ↦ (let ne : t ≢ time = other in before_time t l (omega (arith, k, ne)) h)
      ]
