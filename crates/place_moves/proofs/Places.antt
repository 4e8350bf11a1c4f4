-- What words do, place by place.
use Rattle.std.proofs.Common.{◌≡◌, ◌∙◌, ℕ, ◌<◌, ◌≤◌, ◌==◌, inl, inr, Bool, true, false, cond, List, [], ◌∷◌, length, set, refl, ap, sym, subst}
use Rattle.std.specs.List.{filter, AllByRecursion}
use Rattle.std.proofs.lemmas.Bool.{cases_lt, cases_eq, eq-eqb, ne_eqb}
use Rattle.std.proofs.lemmas.List.{length-set, get_or-set_same, get_or-set_other}
use Rattle.gate_values.specs.declared.logic.Logic.{Logic}
use Rattle.gate_values.specs.declared.logic.Logic.TheVariants.{X}
use Rattle.warp_stores.specs.Words.{Move}
use Rattle.warp_stores.specs.Dated.{Dated, at, undated}
use Rattle.warp_stores.specs.Lists.{words_at}
use Rattle.warp_gates.specs.Cells.{value_at, moved, unmoved}
use Rattle.place_moves.specs.Moves.{of_place, last_after, first_before}
use Rattle.place_moves.proofs.Filtering.{filter-map}

pub words-undated : (place : ℕ) (ds : List (Dated Move)) → words_at place (undated ds) ≡ undated (of_place place ds)
words-undated place ds = filter-map (λ (w : Move). w.place == place) (λ (d : Dated Move). d.1) ds

pub place-at : (place t : ℕ) (ws : List Move) → of_place place (at t ws) ≡ at t (words_at place ws)
place-at place t ws = filter-map (λ (d : Dated Move). d.1.place == place) (λ (w : Move). (t, w)) ws

-- ---- what is true of the words of each place

eqb_same : (n : ℕ) → (n == n) ≡ true
eqb_same n = eq-eqb n n refl

module _ {T : Type 0} (key : T → ℕ) where
  rest_of : (p : ℕ) (x : T) (xs : List T) (P : T → Type 0) → AllByRecursion P (filter (λ y. key y == p) (x ∷ xs)) → AllByRecursion P (filter (λ y. key y == p) xs)
  rest_of p x xs P h = go (key x == p) h
    where
      go : (b : Bool) → AllByRecursion P (cond b (x ∷ filter (λ y. key y == p) xs) (filter (λ y. key y == p) xs)) → AllByRecursion P (filter (λ y. key y == p) xs)
      go true k = k.1
      go false k = k

  first_of_place : (x : T) (xs : List T) (P : T → Type 0) → AllByRecursion P (filter (λ y. key y == key x) (x ∷ xs)) → P x
  first_of_place x xs P h = go (key x == key x) (eqb_same (key x)) h
    where
      go : (b : Bool) → b ≡ true → AllByRecursion P (cond b (x ∷ filter (λ y. key y == key x) xs) (filter (λ y. key y == key x) xs)) → P x
      go true e k = k.0
      go false e k = cc

  -- what is true of those of each place is true of all
  pub every-place : (P : T → Type 0) (xs : List T) → ((p : ℕ) → AllByRecursion P (filter (λ y. key y == p) xs)) → AllByRecursion P xs
  every-place P [] h = tt
  every-place P (x ∷ xs) h = (first_of_place x xs P (h (key x)), every-place P xs (λ p. rest_of p x xs P (h p)))

  -- where none is of a place from an end on, all are of places below it
  pub every-within : (n : ℕ) (xs : List T) → ((p : ℕ) → n ≤ p → filter (λ y. key y == p) xs ≡ []) → AllByRecursion (λ x. key x < n) xs
  every-within n [] h = tt
  every-within n (x ∷ xs) h = (here (key x == key x) (eqb_same (key x)) (h (key x)), every-within n xs (λ p l. rest (key x == p) p (h p l)))
    where
      here : (b : Bool) → b ≡ true → (n ≤ key x → cond b (x ∷ filter (λ y. key y == key x) xs) (filter (λ y. key y == key x) xs) ≡ []) → key x < n
      here true e k = elim (cases_lt (key x) n) [ inl l ↦ l | inr g ↦ (let none : x ∷ filter (λ y. key y == key x) xs ≡ [] = k g in absurd (filled none)) ]
        where
          filled : {y : T} {ys : List T} → y ∷ ys ≡ [] → ⊥
          filled e = cc
      here false e k = cc

      rest : (b : Bool) (p : ℕ) → cond b (x ∷ filter (λ y. key y == p) xs) (filter (λ y. key y == p) xs) ≡ [] → filter (λ y. key y == p) xs ≡ []
      rest true p k = cc
      rest false p k = k

-- ---- what words make of values

pub length-moved : (ws : List Move) (vs : List Logic) → length (moved ws vs) ≡ length vs
length-moved [] vs = refl
length-moved (w ∷ ws) vs = length-moved ws (set vs w.place w.after) ∙ length-set vs w.place w.after

pub length-unmoved : (ws : List Move) (vs : List Logic) → length (unmoved ws vs) ≡ length vs
length-unmoved [] vs = refl
length-unmoved (w ∷ ws) vs = length-set (unmoved ws vs) w.place w.before ∙ length-unmoved ws vs

-- a place takes what the last of its words tells
pub value-moved : (place : ℕ) (ws : List Move) (vs : List Logic) → AllByRecursion (λ w. w.place < length vs) ws → value_at (moved ws vs) place ≡ last_after (value_at vs place) (words_at place ws)
value-moved place [] vs h = refl
value-moved place (w ∷ ws) vs h =
    let vs' : List Logic = set vs w.place w.after in
    let len : length vs' ≡ length vs = length-set vs w.place w.after in
    value-moved place ws vs' (subst (λ (n : ℕ). AllByRecursion (λ v. v.place < n) ws) (sym len) h.1)
    ∙ elim (cases_eq w.place place) [
      | inl e ↦
          ap (λ (v : Logic). last_after v (words_at place ws)) (ap (value_at vs') (sym e) ∙ get_or-set_same vs w.place w.after X h.0)
          ∙ ap (λ (b : Bool). last_after (value_at vs place) (cond b (w ∷ words_at place ws) (words_at place ws))) (sym (eq-eqb w.place place e))
      | inr n ↦
          ap (λ (v : Logic). last_after v (words_at place ws)) (get_or-set_other vs w.place place w.after X (λ e. n (sym e)))
          ∙ ap (λ (b : Bool). last_after (value_at vs place) (cond b (w ∷ words_at place ws) (words_at place ws))) (sym (ne_eqb w.place place n))
    ]

-- and what stood before the first of them, where they are taken back
pub value-unmoved : (place : ℕ) (ws : List Move) (vs : List Logic) → AllByRecursion (λ w. w.place < length vs) ws → value_at (unmoved ws vs) place ≡ first_before (value_at vs place) (words_at place ws)
value-unmoved place [] vs h = refl
value-unmoved place (w ∷ ws) vs h =
    let vs' : List Logic = unmoved ws vs in
    let len : length vs' ≡ length vs = length-unmoved ws vs in
    elim (cases_eq w.place place) [
      | inl e ↦
          ap (value_at (set vs' w.place w.before)) (sym e) ∙ get_or-set_same vs' w.place w.before X (subst (λ (n : ℕ). w.place < n) (sym len) h.0)
          ∙ ap (λ (b : Bool). first_before (value_at vs place) (cond b (w ∷ words_at place ws) (words_at place ws))) (sym (eq-eqb w.place place e))
      | inr n ↦
          get_or-set_other vs' w.place place w.before X (λ e. n (sym e)) ∙ value-unmoved place ws vs h.1
          ∙ ap (λ (b : Bool). first_before (value_at vs place) (cond b (w ∷ words_at place ws) (words_at place ws))) (sym (ne_eqb w.place place n))
    ]
