-- Laws of lists of changes.
use Rattle.std.proofs.Common.{◌≡◌, ◌≢◌, ℕ, zero, suc, Bool, true, false, cond, ◌<◌, ◌≤◌, ◌⊎◌, inl, inr, min, Option, Some, None, unwrap_or, List, [], ◌∷◌, ◌++◌, refl, ap, sym, ◌∙◌, subst, arith, nat_lt, nat_eq}
use Rattle.std.proofs.lemmas.Grind.{common_steps}
use Rattle.gate_values.specs.declared.logic.Logic.{Logic}
use Rattle.gate_values.specs.declared.logic.Logic.TheVariants.{Zero, One, X, Z}
use Rattle.gate_values.specs.declared.logic.Change.{Change}
use Rattle.gate_values.specs.Changes.{same, just_before, change_at, changes, pair_at, held, before_time, last_value}

pub same_refl : (v : Logic) → same v v ≡ true
same_refl Zero = refl
same_refl One = refl
same_refl X = refl
same_refl Z = refl

pub same_is : (v w : Logic) → same v w ≡ true → v ≡ w
same_is Zero Zero e = refl
same_is One One e = refl
same_is X X e = refl
same_is Z Z e = refl
same_is Zero One e = cc
same_is Zero X e = cc
same_is Zero Z e = cc
same_is One Zero e = cc
same_is One X e = cc
same_is One Z e = cc
same_is X Zero e = cc
same_is X One e = cc
same_is X Z e = cc
same_is Z Zero e = cc
same_is Z One e = cc
same_is Z X e = cc

-- a time without a change adds nothing
pub changes-quiet : (f : ℕ → Logic) (t : ℕ) → f t ≡ just_before f t → changes f (suc t) ≡ changes f t
unfolding changes
changes-quiet f t e = rw (e, same_refl) (let nil : (xs : List Change) → xs ++ [] ≡ xs = λ xs. grind (arith, common_steps) in nil (changes f t))

-- functions that agree below an end have the same changes there
pub changes-agree : (f g : ℕ → Logic) (b : ℕ) → ((t : ℕ) → t < b → f t ≡ g t) → changes f b ≡ changes g b
unfolding changes
changes-agree f g zero h = refl
changes-agree f g (suc zero) h = rw (h 0 (omega arith)) refl
changes-agree f g (suc (suc t)) h =
    rw (changes-agree f g (suc t) (λ k l. h k (omega arith)), h (suc t) (omega arith), h t (omega arith)) refl

pub before_time-append : (k : ℕ) (xs ys : List Change) → before_time k (xs ++ ys) ≡ before_time k xs ++ before_time k ys
before_time-append k [] ys = refl
before_time-append k (x ∷ xs) ys =
    elim (nat_lt x.time k) as (λ b. cond b (x ∷ before_time k (xs ++ ys)) (before_time k (xs ++ ys)) ≡ cond b (x ∷ before_time k xs) (before_time k xs) ++ before_time k ys)
    [ true ↦ ap (λ zs. x ∷ zs) (before_time-append k xs ys) | false ↦ before_time-append k xs ys ]

before_time-one : (k t : ℕ) (f : ℕ → Logic) → before_time k (change_at f t) ≡ (cond (nat_lt t k) (change_at f t) [])
before_time-one k t f =
    elim (same (f t) (just_before f t)) as (λ b. before_time k (cond b [] (record { time = t; value = f t } ∷ [])) ≡ cond (nat_lt t k) (cond b [] (record { time = t; value = f t } ∷ [])) [])
    [ true ↦ (elim (nat_lt t k) as (λ c. ◌≡◌ {A = List Change} [] (cond c [] [])) [ true ↦ refl | false ↦ refl ]) | false ↦ refl ]

append-nil : (xs : List Change) → xs ++ [] ≡ xs
append-nil xs = grind (arith, common_steps)

lt_true : (t k : ℕ) → t < k → nat_lt t k ≡ true
lt_true t k h = grind (arith, common_steps)

lt_false : (t k : ℕ) → k ≤ t → nat_lt t k ≡ false
lt_false t k h = grind (arith, common_steps)

lt_cases : (t k : ℕ) → (t < k) ⊎ (k ≤ t)
lt_cases t k = grind arith

-- the changes before a time, of those below an end
pub before_time-changes : (f : ℕ → Logic) (k b : ℕ) → before_time k (changes f b) ≡ changes f (min k b)
unfolding changes
before_time-changes f k zero = ap (changes f) (let e : 0 ≡ min k 0 = omega arith in e)
before_time-changes f k (suc t) =
    before_time-append k (changes f t) (change_at f t)
    ∙ elim (lt_cases t k) [
      | inl l ↦ (let e : min k (suc t) ≡ suc t = omega arith in let e2 : min k t ≡ t = omega arith in
          rw (before_time-changes f k t, before_time-one k t f, lt_true t k l, e, e2) refl)
      | inr g ↦ (let e : min k (suc t) ≡ min k t = omega arith in
          rw (before_time-changes f k t, before_time-one k t f, lt_false t k g, e, append-nil (changes f (min k t))) refl)
    ]

-- the change at a time, as an option
abbrev pub change_option : (ℕ → Logic) → ℕ → Option Logic
change_option f t = cond (same (f t) (just_before f t)) None (Some (f t))

pair_at-append : (xs ys : List Change) (t : ℕ) → pair_at xs t ≡ None → pair_at (xs ++ ys) t ≡ pair_at ys t
pair_at-append [] ys t e = refl
pair_at-append (x ∷ xs) ys t e = go (nat_eq x.time t) (pair_at-append xs ys t) e
  where
    go : (b : Bool) → (pair_at xs t ≡ None → pair_at (xs ++ ys) t ≡ pair_at ys t) → cond b (Some x.value) (pair_at xs t) ≡ None → cond b (Some x.value) (pair_at (xs ++ ys) t) ≡ pair_at ys t
    go true h e = cc
    go false h e = h e

pair_at-append_later : (xs ys : List Change) (t : ℕ) → pair_at ys t ≡ None → pair_at (xs ++ ys) t ≡ pair_at xs t
pair_at-append_later [] ys t e = e
pair_at-append_later (x ∷ xs) ys t e = ap (cond (nat_eq x.time t) (Some x.value)) (pair_at-append_later xs ys t e)

eq_same : (t : ℕ) → nat_eq t t ≡ true
eq_same t = grind (arith, common_steps)

eq_other : (s t : ℕ) → s ≢ t → nat_eq s t ≡ false
eq_other s t h = grind (arith, common_steps)

pair_at-one : (f : ℕ → Logic) (t : ℕ) → pair_at (change_at f t) t ≡ change_option f t
pair_at-one f t =
    elim (same (f t) (just_before f t)) as (λ b. pair_at (cond b [] (record { time = t; value = f t } ∷ [])) t ≡ cond b None (Some (f t)))
    [ true ↦ refl | false ↦ rw (eq_same t) refl ]

pair_at-other : (f : ℕ → Logic) (s t : ℕ) → s ≢ t → pair_at (change_at f s) t ≡ None
pair_at-other f s t h =
    elim (same (f s) (just_before f s)) as (λ b. pair_at (cond b [] (record { time = s; value = f s } ∷ [])) t ≡ None)
    [ true ↦ refl | false ↦ rw (eq_other s t h) refl ]

-- no change stands from the end on
pub pair_at-late : (f : ℕ → Logic) (b t : ℕ) → b ≤ t → pair_at (changes f b) t ≡ None
unfolding changes
pair_at-late f zero t h = refl
pair_at-late f (suc b) t h =
    let ne : b ≢ t = omega arith in
    pair_at-append_later (changes f b) (change_at f b) t (pair_at-other f b t ne) ∙ pair_at-late f b t (omega arith)

-- below the end there is one just where the value changes
pub pair_at-changes : (f : ℕ → Logic) (b t : ℕ) → t < b → pair_at (changes f b) t ≡ change_option f t
unfolding changes
pair_at-changes f zero t h = absurd (omega arith)
pair_at-changes f (suc b) t h =
    elim (lt_cases t b) [
      | inl l ↦ (let ne : b ≢ t = omega arith in pair_at-append_later (changes f b) (change_at f b) t (pair_at-other f b t ne) ∙ pair_at-changes f b t l)
      | inr g ↦ (let e : b ≡ t = omega arith in
          subst (λ (k : ℕ). pair_at (changes f k ++ change_at f k) t ≡ change_option f t) (sym e)
          (pair_at-append (changes f t) (change_at f t) t (pair_at-late f t t (omega arith)) ∙ pair_at-one f t))
    ]

pub change_option-or : (f : ℕ → Logic) (t : ℕ) → unwrap_or (change_option f t) (just_before f t) ≡ f t
change_option-or f t = go (same (f t) (just_before f t)) refl
  where
    go : (b : Bool) → same (f t) (just_before f t) ≡ b → unwrap_or (cond b None (Some (f t))) (just_before f t) ≡ f t
    go true e = sym (same_is (f t) (just_before f t) e)
    go false e = refl

-- a function that has values just where another one changes, keeps that one's values
pub held-changes : (at : ℕ → Option Logic) (f : ℕ → Logic) (b : ℕ) → ((t : ℕ) → t < b → at t ≡ change_option f t) → (t : ℕ) → t < b → held at t ≡ f t
unfolding held
held-changes at f b h zero l = rw (h 0 l) (change_option-or f 0)
held-changes at f b h (suc t) l = rw (h (suc t) l, held-changes at f b h t (omega arith)) (change_option-or f (suc t))

-- what is held below an end depends on nothing else
pub held-agree : (at at' : ℕ → Option Logic) (b : ℕ) → ((t : ℕ) → t < b → at t ≡ at' t) → (t : ℕ) → t < b → held at t ≡ held at' t
unfolding held
held-agree at at' b h zero l = rw (h 0 l) refl
held-agree at at' b h (suc t) l = rw (h (suc t) l, held-agree at at' b h t (omega arith)) refl

-- without a value at a time the one before is kept
pub held-none : (at : ℕ → Option Logic) (t : ℕ) → at t ≡ None → held at t ≡ just_before (held at) t
unfolding held
held-none at zero e = rw e refl
held-none at (suc t) e = rw e refl

last_value-append : (v : Logic) (xs : List Change) (c : Change) → last_value v (xs ++ c ∷ []) ≡ c.value
last_value-append v [] c = refl
last_value-append v (x ∷ xs) c = last_value-append x.value xs c

-- the changes below a time leave the value just before it
pub last_value-changes : (f : ℕ → Logic) (t : ℕ) → last_value X (changes f t) ≡ just_before f t
unfolding changes
last_value-changes f zero = refl
last_value-changes f (suc t) = go (same (f t) (just_before f t)) (last_value-changes f t) refl
  where
    go : (b : Bool) → last_value X (changes f t) ≡ just_before f t → same (f t) (just_before f t) ≡ b → last_value X (changes f t ++ cond b [] (record { time = t; value = f t } ∷ [])) ≡ f t
    go true ih e = rw (append-nil (changes f t)) (ih ∙ sym (same_is (f t) (just_before f t) e))
    go false ih e = last_value-append X (changes f t) (record { time = t; value = f t })
