-- Words in order of places, and words in order of time and place.
use Rattle.std.proofs.Common.{◌≡◌, ◌∙◌, ℕ, zero, suc, ◌+◌, ◌<◌, ◌≤◌, ◌==◌, inl, inr, Bool, true, false, cond, List, [], ◌∷◌, ◌++◌, length, get_or, refl, ap, sym, arith, nat_le}
use Rattle.std.specs.List.{filter, fold, AllByRecursion}
use Rattle.std.proofs.lemmas.Bool.{cases_eq, eq-eqb, ne_eqb}
use Rattle.std.proofs.lemmas.List.{append-nil, nil_from_length}
use Rattle.gate_values.specs.declared.logic.Logic.{Logic}
use Rattle.gate_values.specs.Changes.{same}
use Rattle.warp_stores.specs.Words.{Move}
use Rattle.warp_stores.specs.Dated.{Dated, at}
use Rattle.warp_stores.specs.Lists.{words_at}
use Rattle.warp_stores.specs.Order.{put_by_place, by_place, AreApart}
use Rattle.warp_stores.specs.Inner.Order.{Climb}
use Rattle.warp_stores.proofs.Ordering.{by_place-Climb}
use Rattle.place_moves.specs.Moves.{move_of, IsAhead, Ascend}
use Rattle.place_moves.proofs.Filtering.{every-append, every-weaker, every-filter}
use Rattle.place_moves.proofs.Moving.{every-dated}

-- ---- the words of each place stay where words are put in order

word_here : (p : ℕ) (w : Move) (ws : List Move) → w.place ≡ p → words_at p (w ∷ ws) ≡ w ∷ words_at p ws
word_here p w ws e = ap (λ (b : Bool). cond b (w ∷ words_at p ws) (words_at p ws)) (eq-eqb w.place p e)

word_other : (p : ℕ) (w : Move) (ws : List Move) → (w.place ≡ p → ⊥) → words_at p (w ∷ ws) ≡ words_at p ws
word_other p w ws n = ap (λ (b : Bool). cond b (w ∷ words_at p ws) (words_at p ws)) (ne_eqb w.place p n)

put-other : (p : ℕ) (vs : List Move) (w : Move) → (w.place ≡ p → ⊥) → words_at p (put_by_place vs w) ≡ words_at p vs
put-other p [] w n = word_other p w [] n
put-other p (v ∷ vs) w n = go (nat_le v.place w.place) (put-other p vs w n)
  where
    go : (b : Bool) → words_at p (put_by_place vs w) ≡ words_at p vs → words_at p (cond b (v ∷ put_by_place vs w) (w ∷ v ∷ vs)) ≡ words_at p (v ∷ vs)
    go true k = ap (λ (ws : List Move). cond (v.place == p) (v ∷ ws) ws) k
    go false k = word_other p w (v ∷ vs) n

none_here : (p : ℕ) (v : Move) (vs : List Move) → words_at p (v ∷ vs) ≡ [] → (v.place ≡ p → ⊥)
none_here p v vs h e = let some : v ∷ words_at p vs ≡ [] = sym (word_here p v vs e) ∙ h in cc

put-same : (p : ℕ) (vs : List Move) (w : Move) → w.place ≡ p → words_at p vs ≡ [] → words_at p (put_by_place vs w) ≡ w ∷ []
put-same p [] w e h = word_here p w [] e
put-same p (v ∷ vs) w e h = go (nat_le v.place w.place) (put-same p vs w e (sym (word_other p v vs (none_here p v vs h)) ∙ h))
  where
    go : (b : Bool) → words_at p (put_by_place vs w) ≡ w ∷ [] → words_at p (cond b (v ∷ put_by_place vs w) (w ∷ v ∷ vs)) ≡ w ∷ []
    go true k = word_other p v (put_by_place vs w) (none_here p v vs h) ∙ k
    go false k = word_here p w (v ∷ vs) e ∙ ap (λ (ws : List Move). w ∷ ws) h

fold-words : (p : ℕ) (acc ws : List Move) → length (words_at p acc) + length (words_at p ws) ≤ 1 → words_at p (fold put_by_place acc ws) ≡ words_at p acc ++ words_at p ws
fold-words p acc [] h = sym (append-nil (words_at p acc))
fold-words p acc (w ∷ ws) h =
    elim (cases_eq w.place p) [
      | inl e ↦
          let more : length (words_at p (w ∷ ws)) ≡ suc (length (words_at p ws)) = ap length (word_here p w ws e) in
          let none : words_at p acc ≡ [] = nil_from_length (words_at p acc) (omega arith) in
          let put : words_at p (put_by_place acc w) ≡ w ∷ [] = put-same p acc w e none in
          let one : length (words_at p (put_by_place acc w)) ≡ 1 = ap length put in
          fold-words p (put_by_place acc w) ws (omega arith) ∙ ap (λ (vs : List Move). vs ++ words_at p ws) put
          ∙ sym (ap (λ (vs : List Move). vs ++ words_at p (w ∷ ws)) none ∙ word_here p w ws e)
      | inr n ↦
          let less : length (words_at p (w ∷ ws)) ≡ length (words_at p ws) = ap length (word_other p w ws n) in
          let put : words_at p (put_by_place acc w) ≡ words_at p acc = put-other p acc w n in
          let one : length (words_at p (put_by_place acc w)) ≡ length (words_at p acc) = ap length put in
          fold-words p (put_by_place acc w) ws (omega arith) ∙ ap (λ (vs : List Move). vs ++ words_at p ws) put ∙ ap (λ (vs : List Move). words_at p acc ++ vs) (sym (word_other p w ws n))
    ]

pub words-by_place : (p : ℕ) (ws : List Move) → length (words_at p ws) ≤ 1 → words_at p (by_place ws) ≡ words_at p ws
words-by_place p ws h = fold-words p [] ws (omega arith)

-- ---- where each place has at most one word, no two are of one place

has_word : (p : ℕ) (ws : List Move) (k : ℕ) (d : Move) → k < length ws → (get_or ws k d).place ≡ p → 0 < length (words_at p ws)
has_word p [] k d l e = absurd (omega arith)
has_word p (w ∷ ws) zero d l e = let one : length (words_at p (w ∷ ws)) ≡ suc (length (words_at p ws)) = ap length (word_here p w ws e) in omega arith
has_word p (w ∷ ws) (suc k) d l e = go (w.place == p) (has_word p ws k d (omega arith) e)
  where
    go : (b : Bool) → 0 < length (words_at p ws) → 0 < length (cond b (w ∷ words_at p ws) (words_at p ws))
    go true h = omega arith
    go false h = h

fewer : (p : ℕ) (w : Move) (ws : List Move) → length (words_at p (w ∷ ws)) ≤ 1 → length (words_at p ws) ≤ 1
fewer p w ws h = go (w.place == p) h
  where
    go : (b : Bool) → length (cond b (w ∷ words_at p ws) (words_at p ws)) ≤ 1 → length (words_at p ws) ≤ 1
    go true k = omega arith
    go false k = k

pub apart-from : (ws : List Move) → ((p : ℕ) → length (words_at p ws) ≤ 1) → AreApart ws
apart-from [] h i j d l m = absurd (omega arith)
apart-from (w ∷ ws) h i zero d l m = absurd (omega arith)
apart-from (w ∷ ws) h zero (suc j) d l m =
    λ e. let two : length (words_at w.place (w ∷ ws)) ≡ suc (length (words_at w.place ws)) = ap length (word_here w.place w ws refl) in
    let most : length (words_at w.place (w ∷ ws)) ≤ 1 = h w.place in
    let some : 0 < length (words_at w.place ws) = has_word w.place ws j d (omega arith) (sym e) in
    absurd (omega arith)
apart-from (w ∷ ws) h (suc i) (suc j) d l m = apart-from ws (λ p. fewer p w ws (h p)) i j d (omega arith) (omega arith)

pub move_of-few : (place : ℕ) (from to : Logic) → length (move_of place from to) ≤ 1
move_of-few place from to = go (same to from)
  where
    go : (b : Bool) → length {A = Move} (cond b [] (record { place = place; before = from; after = to } ∷ [])) ≤ 1
    go true = omega arith
    go false = omega arith

-- ---- words in order of time and place

climb-low : (low : ℕ) (ws : List Move) → Climb low ws → AllByRecursion (λ w. low ≤ w.place) ws
climb-low low [] h = tt
climb-low low (w ∷ ws) h = (h.0, every-weaker (λ v. suc w.place ≤ v.place) (λ v. low ≤ v.place) ws (λ v l. omega (arith, h.0)) (climb-low (suc w.place) ws h.1))

ascend-at : (t low : ℕ) (ws : List Move) → Climb low ws → Ascend (at t ws)
ascend-at t low [] h = tt
ascend-at t low (w ∷ ws) h =
    (every-dated (IsAhead (t, w)) t ws (every-weaker (λ v. suc w.place ≤ v.place) (λ v. IsAhead (t, w) (t, v)) ws (λ v l. inr (refl, l)) (climb-low (suc w.place) ws h.1)), ascend-at t (suc w.place) ws h.1)

pub ascend-append : (xs ys : List (Dated Move)) → Ascend xs → Ascend ys → AllByRecursion (λ d. AllByRecursion (IsAhead d) ys) xs → Ascend (xs ++ ys)
ascend-append [] ys h k a = k
ascend-append (x ∷ xs) ys h k a = (every-append (IsAhead x) xs ys h.0 a.0, ascend-append xs ys h.1 k a.1)

pub ascend-filter : (test : Dated Move → Bool) (xs : List (Dated Move)) → Ascend xs → Ascend (filter test xs)
ascend-filter test [] h = tt
ascend-filter test (x ∷ xs) h = go (test x) (ascend-filter test xs h.1)
  where
    go : (b : Bool) → Ascend (filter test xs) → Ascend (cond b (x ∷ filter test xs) (filter test xs))
    go true k = (every-filter test (IsAhead x) xs h.0, k)
    go false k = k

-- words that are in order of places, and of a time, behind words that came earlier
pub ascend-more : (t : ℕ) (xs : List (Dated Move)) (ws : List Move) → Ascend xs → AllByRecursion (λ d. d.0 < t) xs → Ascend (at t ws) → Ascend (xs ++ at t ws)
ascend-more t xs ws h early order =
    ascend-append xs (at t ws) h order
    (every-weaker (λ d. d.0 < t) (λ d. AllByRecursion (IsAhead d) (at t ws)) xs (λ d l. every-dated (IsAhead d) t ws (all_ws d l ws)) early)
  where
    all_ws : (d : Dated Move) → d.0 < t → (vs : List Move) → AllByRecursion (λ w. IsAhead d (t, w)) vs
    all_ws d l [] = tt
    all_ws d l (v ∷ vs) = (inl l, all_ws d l vs)

-- words of which each place has at most one are in order once they are put so
pub in_order : (t : ℕ) (ws : List Move) → ((p : ℕ) → length (words_at p ws) ≤ 1) → Ascend (at t (by_place ws))
in_order t ws h = ascend-at t 0 (by_place ws) (by_place-Climb ws (apart-from ws h))
