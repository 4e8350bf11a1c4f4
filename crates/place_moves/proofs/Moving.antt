-- Laws of the moves of a place.
use Rattle.std.proofs.Common.{◌≡◌, ◌≢◌, ◌∙◌, ℕ, zero, suc, ◌+◌, ◌<◌, ◌≤◌, ◌==◌, inl, inr, Bool, true, false, cond, List, [], ◌∷◌, ◌++◌, map, refl, ap, sym, subst, arith, append_assoc}
use Rattle.std.specs.List.{filter, AllByRecursion}
use Rattle.std.proofs.lemmas.Bool.{cases_lt, eq-eqb}
use Rattle.std.proofs.lemmas.List.{append-nil, map-append}
use Rattle.std.proofs.lemmas.List.Elements.{filter-append}
use Rattle.gate_values.specs.declared.logic.Logic.{Logic}
use Rattle.gate_values.specs.declared.logic.Logic.TheVariants.{X}
use Rattle.gate_values.specs.declared.logic.Change.{Change}
use Rattle.gate_values.specs.Changes.{same, just_before, changes}
use Rattle.gate_values.proofs.ChangeLists.{same_refl, same_is}
use Rattle.warp_stores.specs.Words.{Move}
use Rattle.warp_stores.specs.Dated.{Dated, at, undated}
use Rattle.place_moves.specs.Moves.{move_of, moves, of_place, delayed, last_after, first_before, AreChained}
use Rattle.place_moves.proofs.Filtering.{filter-all, filter-none, every-append, every-weaker}

-- ---- one move

one_move : ℕ → Logic → Logic → Move
one_move place from to = record { place = place; before = from; after = to }

pub move_of-same : (place : ℕ) (v : Logic) → move_of place v v ≡ []
move_of-same place v = rw (same_refl v) refl

-- where nothing moves, the values are the same
pub move_of-none : (place : ℕ) (from to : Logic) → move_of place from to ≡ [] → to ≡ from
move_of-none place from to h = go (same to from) refl h
  where
    go : (b : Bool) → same to from ≡ b → ◌≡◌ {A = List Move} (cond b [] (record { place = place; before = from; after = to } ∷ [])) [] → to ≡ from
    go true e h = same_is to from e
    go false e h = cc

pub every-move : (P : Move → Type 0) (place : ℕ) (from to : Logic) → P (record { place = place; before = from; after = to }) → AllByRecursion P (move_of place from to)
every-move P place from to h = go (same to from)
  where
    go : (b : Bool) → AllByRecursion P (cond b [] (record { place = place; before = from; after = to } ∷ []))
    go true = tt
    go false = (h, tt)

-- ---- what came at one time

pub undated-at : (t : ℕ) (ws : List Move) → undated (at t ws) ≡ ws
undated-at t [] = refl
undated-at t (w ∷ ws) = ap (λ (xs : List Move). w ∷ xs) (undated-at t ws)

pub delayed-at : (delay t : ℕ) (ws : List Move) → delayed delay (at t ws) ≡ at (t + delay) ws
delayed-at delay t [] = refl
delayed-at delay t (w ∷ ws) = ap (λ (xs : List (Dated Move)). (t + delay, w) ∷ xs) (delayed-at delay t ws)

pub every-dated : (P : Dated Move → Type 0) (t : ℕ) (ws : List Move) → AllByRecursion (λ w. P (t, w)) ws → AllByRecursion P (at t ws)
every-dated P t [] h = tt
every-dated P t (w ∷ ws) h = (h.0, every-dated P t ws h.1)

pub every-at_time : (P : Dated Move → Type 0) (t : ℕ) (ws : List Move) → ((w : Move) → P (t, w)) → AllByRecursion P (at t ws)
every-at_time P t [] h = tt
every-at_time P t (w ∷ ws) h = (h w, every-at_time P t ws h)

pub at-yes : (test : ℕ → Bool) (t : ℕ) (ws : List Move) → test t ≡ true → filter (λ (d : Dated Move). test d.0) (at t ws) ≡ at t ws
at-yes test t ws h = filter-all (λ (d : Dated Move). test d.0) (at t ws) (every-at_time (λ d. test d.0 ≡ true) t ws (λ w. h))

pub at-no : (test : ℕ → Bool) (t : ℕ) (ws : List Move) → test t ≡ false → filter (λ (d : Dated Move). test d.0) (at t ws) ≡ []
at-no test t ws h = filter-none (λ (d : Dated Move). test d.0) (at t ws) (every-at_time (λ d. test d.0 ≡ false) t ws (λ w. h))

-- ---- the moves below an end

module _ (place : ℕ) (shown : ℕ → Logic) where
  pub moves-times : (end : ℕ) → AllByRecursion (λ d. d.0 < end) (moves place shown end)
  unfolding moves
  moves-times zero = tt
  moves-times (suc t) =
      every-append (λ (d : Dated Move). d.0 < suc t) (moves place shown t) (at t (move_of place (shown t) (shown (suc t))))
      (every-weaker (λ d. d.0 < t) (λ d. d.0 < suc t) (moves place shown t) (λ d h. omega arith) (moves-times t))
      (every-at_time (λ d. d.0 < suc t) t (move_of place (shown t) (shown (suc t))) (λ w. omega arith))

  pub moves-quiet : (t : ℕ) → shown (suc t) ≡ shown t → moves place shown (suc t) ≡ moves place shown t
  unfolding moves
  moves-quiet t e =
      ap (λ (v : Logic). moves place shown t ++ at t (move_of place (shown t) v)) e
      ∙ ap (λ (ws : List Move). moves place shown t ++ at t ws) (move_of-same place (shown t)) ∙ append-nil (moves place shown t)

  -- what never changes has no move
  pub moves-still : (end : ℕ) → ((t : ℕ) → shown (suc t) ≡ shown t) → moves place shown end ≡ []
  unfolding moves
  moves-still zero h = refl
  moves-still (suc t) h = moves-quiet t (h t) ∙ moves-still t h

  pub moves-all : (test : ℕ → Bool) (end : ℕ) → ((s : ℕ) → s < end → test s ≡ true) → filter (λ (d : Dated Move). test d.0) (moves place shown end) ≡ moves place shown end
  moves-all test end h =
      filter-all (λ (d : Dated Move). test d.0) (moves place shown end)
      (every-weaker (λ d. d.0 < end) (λ d. test d.0 ≡ true) (moves place shown end) (λ d l. h d.0 l) (moves-times end))

  pub moves-none : (test : ℕ → Bool) (end : ℕ) → ((s : ℕ) → s < end → test s ≡ false) → filter (λ (d : Dated Move). test d.0) (moves place shown end) ≡ []
  moves-none test end h =
      filter-none (λ (d : Dated Move). test d.0) (moves place shown end)
      (every-weaker (λ d. d.0 < end) (λ d. test d.0 ≡ false) (moves place shown end) (λ d l. h d.0 l) (moves-times end))

  -- what is before a time
  pub moves-cut : (test : ℕ → Bool) (t end : ℕ) → t ≤ end → ((s : ℕ) → s < t → test s ≡ true) → ((s : ℕ) → t ≤ s → test s ≡ false) → filter (λ (d : Dated Move). test d.0) (moves place shown end) ≡ moves place shown t
  unfolding moves
  moves-cut test t zero l on off = ap (moves place shown) (let e : 0 ≡ t = omega arith in e)
  moves-cut test t (suc end) l on off =
      elim (cases_lt end t) [
        | inl here ↦ moves-all test (suc end) (λ s k. on s (omega arith)) ∙ ap (moves place shown) (let e : suc end ≡ t = omega arith in e)
        | inr past ↦
            filter-append (λ (d : Dated Move). test d.0) (moves place shown end) (at end (move_of place (shown end) (shown (suc end))))
            ∙ ap (λ (ws : List (Dated Move)). filter (λ (d : Dated Move). test d.0) (moves place shown end) ++ ws) (at-no test end (move_of place (shown end) (shown (suc end))) (off end past))
            ∙ append-nil (filter (λ (d : Dated Move). test d.0) (moves place shown end)) ∙ moves-cut test t end past on off
      ]

  -- what is before a time, and then the rest
  pub moves-split : (test : ℕ → Bool) (t end : ℕ) → t ≤ end → ((s : ℕ) → s < t → test s ≡ false) → ((s : ℕ) → t ≤ s → test s ≡ true)
      → moves place shown end ≡ moves place shown t ++ filter (λ (d : Dated Move). test d.0) (moves place shown end)
  unfolding moves
  moves-split test t zero l off on = ap (moves place shown) (let e : 0 ≡ t = omega arith in e) ∙ sym (append-nil (moves place shown t))
  moves-split test t (suc end) l off on =
      let last : List (Dated Move) = at end (move_of place (shown end) (shown (suc end))) in
      let P : Dated Move → Bool = λ d. test d.0 in
      elim (cases_lt end t) [
        | inl here ↦
            ap (moves place shown) (let e : suc end ≡ t = omega arith in e)
            ∙ sym (append-nil (moves place shown t)) ∙ ap (λ (ws : List (Dated Move)). moves place shown t ++ ws) (sym (moves-none test (suc end) (λ s k. off s (omega arith))))
        | inr past ↦
            ap (λ (ws : List (Dated Move)). ws ++ last) (moves-split test t end past off on)
            ∙ append_assoc (moves place shown t) (filter P (moves place shown end)) last
            ∙ ap (λ (ws : List (Dated Move)). moves place shown t ++ (filter P (moves place shown end) ++ ws)) (sym (at-yes test end (move_of place (shown end) (shown (suc end))) (on end past)))
            ∙ ap (λ (ws : List (Dated Move)). moves place shown t ++ ws) (sym (filter-append P (moves place shown end) last))
      ]

  -- what is at one time
  pub moves-one : (test : ℕ → Bool) (t end : ℕ) → t < end → ((s : ℕ) → s ≢ t → test s ≡ false) → test t ≡ true
      → filter (λ (d : Dated Move). test d.0) (moves place shown end) ≡ at t (move_of place (shown t) (shown (suc t)))
  unfolding moves
  moves-one test t zero l off on = absurd (omega arith)
  moves-one test t (suc end) l off on =
      let P : Dated Move → Bool = λ d. test d.0 in
      let last : List (Dated Move) = at end (move_of place (shown end) (shown (suc end))) in
      filter-append P (moves place shown end) last
      ∙ elim (cases_lt t end) [
        | inl before ↦
            ap (λ (ws : List (Dated Move)). filter P (moves place shown end) ++ ws) (at-no test end (move_of place (shown end) (shown (suc end))) (off end (omega arith)))
            ∙ append-nil (filter P (moves place shown end)) ∙ moves-one test t end before off on
        | inr now ↦
            let e : end ≡ t = omega arith in
            ap (λ (ws : List (Dated Move)). ws ++ filter P last) (moves-none test end (λ s k. off s (omega arith)))
            ∙ at-yes test end (move_of place (shown end) (shown (suc end))) (ap test e ∙ on)
            ∙ ap (λ (s : ℕ). at s (move_of place (shown s) (shown (suc s)))) e
      ]

-- moves are all of their place
pub moves-of_place : (place : ℕ) (shown : ℕ → Logic) (end : ℕ) → of_place place (moves place shown end) ≡ moves place shown end
unfolding moves
moves-of_place place shown end = filter-all (λ (d : Dated Move). d.1.place == place) (moves place shown end) (all_of end)
  where
    all_of : (end : ℕ) → AllByRecursion (λ (d : Dated Move). (d.1.place == place) ≡ true) (moves place shown end)
    all_of zero = tt
    all_of (suc t) =
        every-append (λ (d : Dated Move). (d.1.place == place) ≡ true) (moves place shown t) (at t (move_of place (shown t) (shown (suc t)))) (all_of t)
        (every-dated (λ (d : Dated Move). (d.1.place == place) ≡ true) t (move_of place (shown t) (shown (suc t))) (every-move (λ (w : Move). (w.place == place) ≡ true) place (shown t) (shown (suc t)) (eq-eqb place place refl)))

-- functions that agree up to an end have the same moves below it
pub moves-agree : (place : ℕ) (f g : ℕ → Logic) (end : ℕ) → ((t : ℕ) → t ≤ end → f t ≡ g t) → moves place f end ≡ moves place g end
unfolding moves
moves-agree place f g zero h = refl
moves-agree place f g (suc t) h = rw (moves-agree place f g t (λ s l. h s (omega arith)), h t (omega arith), h (suc t) (omega arith)) refl

-- the moves of what one function shows a delay after another
pub moves-later : (place delay : ℕ) (f g : ℕ → Logic) → ((t : ℕ) → f (t + delay) ≡ g t) → (end : ℕ) → moves place f (end + delay) ≡ moves place f delay ++ delayed delay (moves place g end)
unfolding moves
moves-later place delay f g h zero = ap (moves place f) (let e : 0 + delay ≡ delay = omega arith in e) ∙ sym (append-nil (moves place f delay))
moves-later place delay f g h (suc t) =
    let e : suc t + delay ≡ suc (t + delay) = omega arith in
    let next : f (suc (t + delay)) ≡ g (suc t) = ap f (sym e) ∙ h (suc t) in
    let shift : Dated Move → Dated Move = λ d. (d.0 + delay, d.1) in
    let last : List Move = move_of place (g t) (g (suc t)) in
    ap (moves place f) e
    ∙ ap (λ (ws : List (Dated Move)). ws ++ at (t + delay) (move_of place (f (t + delay)) (f (suc (t + delay))))) (moves-later place delay f g h t)
    ∙ rw (h t, next) (append_assoc (moves place f delay) (delayed delay (moves place g t)) (at (t + delay) last))
    ∙ ap (λ (ws : List (Dated Move)). moves place f delay ++ (delayed delay (moves place g t) ++ ws)) (sym (delayed-at delay t last))
    ∙ ap (λ (ws : List (Dated Move)). moves place f delay ++ ws) (sym (map-append shift (moves place g t) (at t last)))

-- ---- the values that moves tell

last_after-append : (v : Logic) (xs ys : List Move) → last_after v (xs ++ ys) ≡ last_after (last_after v xs) ys
last_after-append v [] ys = refl
last_after-append v (x ∷ xs) ys = last_after-append x.after xs ys

pub first_before-append : (v : Logic) (xs ys : List Move) → first_before v (xs ++ ys) ≡ first_before (first_before v ys) xs
first_before-append v [] ys = refl
first_before-append v (x ∷ xs) ys = refl

AreChained-append : (v : Logic) (xs ys : List Move) → AreChained v xs → AreChained (last_after v xs) ys → AreChained v (xs ++ ys)
AreChained-append v [] ys h k = k
AreChained-append v (x ∷ xs) ys h k = (h.0, AreChained-append x.after xs ys h.1 k)

pub move_of-last : (place : ℕ) (from to : Logic) → last_after from (move_of place from to) ≡ to
move_of-last place from to = go (same to from) refl
  where
    go : (b : Bool) → same to from ≡ b → last_after from (cond b [] (record { place = place; before = from; after = to } ∷ [])) ≡ to
    go true e = sym (same_is to from e)
    go false e = refl

pub move_of-first : (place : ℕ) (from to : Logic) → first_before to (move_of place from to) ≡ from
move_of-first place from to = go (same to from) refl
  where
    go : (b : Bool) → same to from ≡ b → first_before to (cond b [] (record { place = place; before = from; after = to } ∷ [])) ≡ from
    go true e = same_is to from e
    go false e = refl

move_of-chained : (place : ℕ) (from to : Logic) → AreChained from (move_of place from to)
move_of-chained place from to = go (same to from)
  where
    go : (b : Bool) → AreChained from (cond b [] (record { place = place; before = from; after = to } ∷ []))
    go true = tt
    go false = (refl, tt)

module _ (place : ℕ) (shown : ℕ → Logic) where
  undated-moves : (t : ℕ) → undated (moves place shown (suc t)) ≡ undated (moves place shown t) ++ move_of place (shown t) (shown (suc t))
  unfolding moves
  undated-moves t =
      map-append (λ (d : Dated Move). d.1) (moves place shown t) (at t (move_of place (shown t) (shown (suc t))))
      ∙ ap (λ (ws : List Move). undated (moves place shown t) ++ ws) (undated-at t (move_of place (shown t) (shown (suc t))))

  -- the last move tells the value
  pub moves-last : (end : ℕ) → last_after (shown 0) (undated (moves place shown end)) ≡ shown end
  unfolding moves
  moves-last zero = refl
  moves-last (suc t) =
      ap (last_after (shown 0)) (undated-moves t)
      ∙ last_after-append (shown 0) (undated (moves place shown t)) (move_of place (shown t) (shown (suc t)))
      ∙ ap (λ (v : Logic). last_after v (move_of place (shown t) (shown (suc t)))) (moves-last t) ∙ move_of-last place (shown t) (shown (suc t))

  -- each goes from the value that the one before it left
  pub moves-chained : (end : ℕ) → AreChained (shown 0) (undated (moves place shown end))
  unfolding moves
  moves-chained zero = tt
  moves-chained (suc t) =
      subst (AreChained (shown 0)) (sym (undated-moves t))
      (AreChained-append (shown 0) (undated (moves place shown t)) (move_of place (shown t) (shown (suc t))) (moves-chained t)
      (subst (λ (v : Logic). AreChained v (move_of place (shown t) (shown (suc t)))) (sym (moves-last t)) (move_of-chained place (shown t) (shown (suc t)))))

  -- the first move from a time on tells the value before it
  pub moves-first : (test : ℕ → Bool) (t end : ℕ) → t ≤ end → ((s : ℕ) → s < t → test s ≡ false) → ((s : ℕ) → t ≤ s → test s ≡ true)
      → first_before (shown end) (undated (filter (λ (d : Dated Move). test d.0) (moves place shown end))) ≡ shown t
  unfolding moves
  moves-first test t zero l off on = ap shown (let e : 0 ≡ t = omega arith in e)
  moves-first test t (suc end) l off on =
      let P : Dated Move → Bool = λ d. test d.0 in
      let step : List Move = move_of place (shown end) (shown (suc end)) in
      elim (cases_lt end t) [
        | inl here ↦
            ap (λ (ws : List (Dated Move)). first_before (shown (suc end)) (undated ws)) (moves-none place shown test (suc end) (λ s k. off s (omega arith)))
            ∙ ap shown (let e : suc end ≡ t = omega arith in e)
        | inr past ↦
            ap (λ (ws : List (Dated Move)). first_before (shown (suc end)) (undated ws))
            (filter-append P (moves place shown end) (at end step) ∙ ap (λ (ws : List (Dated Move)). filter P (moves place shown end) ++ ws) (at-yes test end step (on end past)))
            ∙ ap (first_before (shown (suc end))) (map-append (λ (d : Dated Move). d.1) (filter P (moves place shown end)) (at end step) ∙ ap (λ (ws : List Move). undated (filter P (moves place shown end)) ++ ws) (undated-at end step))
            ∙ first_before-append (shown (suc end)) (undated (filter P (moves place shown end))) step
            ∙ ap (λ (v : Logic). first_before v (undated (filter P (moves place shown end)))) (move_of-first place (shown end) (shown (suc end)))
            ∙ moves-first test t end past off on
      ]

-- ---- the changes that moves tell

-- a move as a change
abbrev change_of : Dated Move → Change
change_of d = record { time = d.0; value = d.1.after }

change-one : (place t : ℕ) (from to : Logic) → map change_of (at t (move_of place from to)) ≡ (cond (same to from) [] (record { time = t; value = to } ∷ []))
change-one place t from to = elim (same to from) as (λ b. map change_of (at t (cond b [] (record { place = place; before = from; after = to } ∷ []))) ≡ cond b [] (record { time = t; value = to } ∷ [])) [ true ↦ refl | false ↦ refl ]

pub moves-changes : (place : ℕ) (shown f : ℕ → Logic) → shown 0 ≡ X → ((t : ℕ) → shown (suc t) ≡ f t) → (end : ℕ) → map change_of (moves place shown end) ≡ changes f end
unfolding moves changes
moves-changes place shown f first next zero = refl
moves-changes place shown f first next (suc t) =
    map-append change_of (moves place shown t) (at t (move_of place (shown t) (shown (suc t))))
    ∙ ap (λ (cs : List Change). cs ++ map change_of (at t (move_of place (shown t) (shown (suc t))))) (moves-changes place shown f first next t)
    ∙ ap (λ (cs : List Change). changes f t ++ cs) (change-one place t (shown t) (shown (suc t)) ∙ rw (next t, was t) refl)
  where
    was : (t : ℕ) → shown t ≡ just_before f t
    was zero = first
    was (suc t) = next t
