-- The least event time of a block, found place by place.
use Rattle.std.proofs.Common.{◌≡◌, ℕ, ◌+◌, ◌<◌, ◌≤◌, ◌⊎◌, ◌&&◌, true, false, min, Option, Some, None, length, get_or, inl, inr, ap, sym, ◌∙◌, arith, is_some}
use Rattle.std.proofs.lemmas.Bool.{true≢false, and_from, and_parts, cases_eq, cases_lt}
use Rattle.std.proofs.lemmas.List.{get_or_default}
use Rattle.std.proofs.lemmas.List.Folds.{list_any_at, Any-from_list_any}
use Rattle.warp_part.specs.Portion.{is_used}
use Rattle.warp_process.specs.View.{View, news_of, is_busy, IsLeast}
use Rattle.warp_process.specs.Inner.View.{earlier_of}
use Rattle.warp_process.specs.Inner.Advance.{IsBusyFrom}
use Rattle.warp_process.proofs.Rows.{same_least}

-- something happens, from a time on, to one of the first nets that a gate of the block reads
pub record HasNews (v : View) (start i t : ℕ) : Type 0 where
  pub from : start ≤ t
  pub place : ℕ
  pub below : place < i
  pub used : is_used v.part (get_or v.part.nets place 0) ≡ true
  pub news : is_some (news_of v (get_or v.part.nets place 0) t) ≡ true

pub next_none : (v : View) (start : ℕ) → IsLeast (HasNews v start 0) None
next_none v start = λ t h. absurd (let b = h.below in omega (arith, b))

further : (v : View) (start i t : ℕ) → HasNews v start i t → HasNews v start (i + 1) t
further v start i t h = record { from = h.from; place = h.place; below = (let b = h.below in omega (arith, b)); used = h.used; news = h.news }

-- a net that no gate reads makes no difference
pub next_skip : (v : View) (start i : ℕ) (r : Option ℕ) → is_used v.part (get_or v.part.nets i 0) ≡ false → IsLeast (HasNews v start i) r → IsLeast (HasNews v start (i + 1)) r
next_skip v start i r unused h = same_least (HasNews v start i) (HasNews v start (i + 1)) r (further v start i) back h
  where
    back : (t : ℕ) → HasNews v start (i + 1) t → HasNews v start i t
    back t n = elim (cases_eq n.place i) [
      | inl same ↦ absurd (true≢false (sym n.used ∙ (ap (λ k. is_used v.part (get_or v.part.nets k 0)) same ∙ unused)))
      | inr other ↦ record { from = n.from; place = n.place; below = (let b = n.below in let ne : n.place ≡ i → ⊥ = other in omega (arith, b, ne)); used = n.used; news = n.news }
    ]

earlier_least : (P Q : ℕ → Type 0) (a b : Option ℕ) → IsLeast P a → IsLeast Q b → IsLeast (λ t. P t ⊎ Q t) (earlier_of a b)
earlier_least P Q None None p q = λ t h. elim h [ inl x ↦ p t x | inr y ↦ q t y ]
earlier_least P Q None (Some b) p q = (inr q.0, λ u h. elim h [ inl x ↦ absurd (p u x) | inr y ↦ q.1 u y ])
earlier_least P Q (Some a) None p q = (inl p.0, λ u h. elim h [ inl x ↦ p.1 u x | inr y ↦ absurd (q u y) ])
earlier_least P Q (Some a) (Some b) p q = elim (cases_lt b a) [
  | inl less ↦ (let e : min a b ≡ b = omega arith in rw e (inr q.0, λ u h. elim h [ inl x ↦ (let k = p.1 u x in omega (arith, k)) | inr y ↦ q.1 u y ]))
  | inr more ↦ (let e : min a b ≡ a = omega arith in rw e (inl p.0, λ u h. elim h [ inl x ↦ p.1 u x | inr y ↦ (let k = q.1 u y in omega (arith, k)) ]))
]

-- one place more
pub next_more : (v : View) (start i : ℕ) (a b : Option ℕ) → is_used v.part (get_or v.part.nets i 0) ≡ true → IsLeast (HasNews v start i) a →
    IsLeast (λ t. (start ≤ t) × (is_some (news_of v (get_or v.part.nets i 0) t) ≡ true)) b → IsLeast (HasNews v start (i + 1)) (earlier_of a b)
next_more v start i a b used p q =
    same_least (λ t. HasNews v start i t ⊎ ((start ≤ t) × (is_some (news_of v (get_or v.part.nets i 0) t) ≡ true))) (HasNews v start (i + 1)) (earlier_of a b) to back
    (earlier_least (HasNews v start i) (λ t. (start ≤ t) × (is_some (news_of v (get_or v.part.nets i 0) t) ≡ true)) a b p q)
  where
    to : (t : ℕ) → HasNews v start i t ⊎ ((start ≤ t) × (is_some (news_of v (get_or v.part.nets i 0) t) ≡ true)) → HasNews v start (i + 1) t
    to t (inl h) = further v start i t h
    to t (inr h) = record { from = h.0; place = i; below = (let l : i < i + 1 = omega arith in l); used = used; news = h.1 }

    back : (t : ℕ) → HasNews v start (i + 1) t → HasNews v start i t ⊎ ((start ≤ t) × (is_some (news_of v (get_or v.part.nets i 0) t) ≡ true))
    back t n = elim (cases_eq n.place i) [
      | inl same ↦ inr (n.from, ap (λ k. is_some (news_of v (get_or v.part.nets k 0) t)) (sym same) ∙ n.news)
      | inr other ↦ inl (record { from = n.from; place = n.place; below = (let b = n.below in let ne : n.place ≡ i → ⊥ = other in omega (arith, b, ne)); used = n.used; news = n.news })
    ]

-- news at some place make a time busy, and there are none at one that isn't
busy_from : (v : View) (start t : ℕ) → HasNews v start (length v.part.nets) t → is_busy v t ≡ true
busy_from v start t n = list_any_at (λ k. is_used v.part k && is_some (news_of v k t)) v.part.nets n.place 0 n.below
    (and_from (is_used v.part (get_or v.part.nets n.place 0)) (is_some (news_of v (get_or v.part.nets n.place 0) t)) n.used n.news)

busy_to : (v : View) (start t : ℕ) → start ≤ t → is_busy v t ≡ true → HasNews v start (length v.part.nets) t
busy_to v start t h e =
    let some = Any-from_list_any (λ k. is_used v.part k && is_some (news_of v k t)) v.part.nets e in
    let at : get_or v.part.nets some.0 0 ≡ some.1 = get_or_default v.part.nets some.0 0 some.1 some.2 ∙ some.3 in
    let both = and_parts (is_used v.part some.1) (is_some (news_of v some.1 t)) some.4 in
    record { from = h; place = some.0; below = some.2; used = ap (is_used v.part) at ∙ both.0; news = ap (λ k. is_some (news_of v k t)) at ∙ both.1 }

pub next_some : (v : View) (start t : ℕ) → IsLeast (HasNews v start (length v.part.nets)) (Some t) → t ≤ v.horizon → IsLeast (IsBusyFrom v start) (Some t)
next_some v start t h within = ((h.0.from, within, busy_from v start t h.0), λ u e. h.1 u (busy_to v start u e.0 e.2))

pub next_past : (v : View) (start t : ℕ) → IsLeast (HasNews v start (length v.part.nets)) (Some t) → v.horizon < t → IsLeast (IsBusyFrom v start) None
next_past v start t h past = λ u e. (let k = h.1 u (busy_to v start u e.0 e.2) in let w = e.1 in absurd (omega (arith, k, w)))

pub next_never : (v : View) (start : ℕ) → IsLeast (HasNews v start (length v.part.nets)) None → IsLeast (IsBusyFrom v start) None
next_never v start h = λ u e. h u (busy_to v start u e.0 e.2)
