-- Stops that count one word more, and what they tell.
use Rattle.std.proofs.Common.{◌≡◌, ℕ, suc, ◌+◌, ◌-◌, ◌<◌, ◌≤◌, ◌⊎◌, inl, inr, List, [], ◌∷◌, ◌++◌, length, take, drop, map, refl, ap, sym, ◌∙◌, subst, arith, append_assoc, length-append, length-drop}
use Rattle.std.specs.List.{All}
use Rattle.std.proofs.lemmas.List.Elements.{All-nil, All-cons, All-head, All-tail, All-push}
use Rattle.std.proofs.lemmas.List.{take-append-drop, take_more, take-append-le, drop-append-le, take_all, drop_all, append-nil, map-append, set_split, length_push, length-take-le}
use Rattle.warp_stores.specs.Dated.{Dated, last_from, RisesFrom}
use Rattle.warp_stores.specs.Shown.StopBits.{Tally}
use Rattle.warp_stores.specs.Inner.Stops.{total, Climbs, AreFull, IsJoined, HaveOneMore}
use Rattle.warp_stores.specs.Shown.Stops.{dated}
use Rattle.warp_stores.proofs.Parts.{All-left}
use Rattle.warp_stores.proofs.Stops.{total-append}
use Rattle.warp_stores.proofs.Telling.{dated-append}

-- how some stops have one word more: behind those in front one has a word more, or stands anew
pub record Growth (fixed time : ℕ) (ss ss' : List Tally) : Type 0 where
  pub front : List Tally
  pub count : ℕ
  pub was : ((ss ≡ front) × (count ≡ 0)) ⊎ (ss ≡ front ++ record { time = time; count = count } ∷ [])
  pub is : ss' ≡ front ++ record { time = time; count = count + 1 } ∷ []
  pub behind : fixed ≤ length front

growth_joined : (fixed time : ℕ) (ss ss' : List Tally) (last : Tally) → IsJoined fixed time ss ss' last → Growth fixed time ss ss'
growth_joined fixed time ss ss' last j =
    let some : fixed < length ss = j.some in
    let n : ℕ = length ss - 1 in
    let in' : length ss - 1 < length ss = omega arith in
    let back : (length ss - 1) + 1 ≡ length ss = omega arith in
    let is_last : last ≡ record { time = time; count = last.count } = ap (λ (t : ℕ). let s : Tally = record { time = t; count = last.count } in s) j.at_time in
    let all : take ((length ss - 1) + 1) ss ≡ ss = take_all ((length ss - 1) + 1) ss (omega arith) in
    let was : ss ≡ take (length ss - 1) ss ++ record { time = time; count = last.count } ∷ [] =
    sym all ∙ take_more ss (length ss - 1) last in' ∙ ap (λ (s : Tally). take (length ss - 1) ss ++ s ∷ []) (sym j.is_last ∙ is_last) in
    let none : drop (suc (length ss - 1)) ss ≡ [] = drop_all (suc (length ss - 1)) ss (omega arith) in
    let one : Tally = record { time = time; count = last.count + 1 } in
    record {
      front = take (length ss - 1) ss;
      count = last.count;
      was = inr was;
      is = j.after ∙ set_split ss (length ss - 1) (record { time = time; count = last.count + 1 }) in' ∙ ap (λ (ys : List Tally). take (length ss - 1) ss ++ record { time = time; count = last.count + 1 } ∷ ys) none;
      behind = omega (arith, length-take-le (length ss - 1) ss (omega arith));
    }

pub growth_of : (fixed time : ℕ) (ss ss' : List Tally) → fixed ≤ length ss → HaveOneMore fixed time ss ss' → Growth fixed time ss ss'
growth_of fixed time ss ss' f h =
    elim h [
      | inl e ↦ record { front = ss; count = 0; was = inl (refl, refl); is = e; behind = f }
      | inr j ↦ growth_joined fixed time ss ss' j.0 j.1
    ]

-- what one stop tells of as many words
pub one_stop : {T : Type 0} (time count : ℕ) (ws : List T) → length ws ≡ count → dated (record { time = time; count = count } ∷ []) ws ≡ map (λ w. (time, w)) ws
one_stop time count ws h = rw (take_all count ws (omega arith)) (append-nil (map (λ w. (time, w)) ws))

-- the last stop tells the last words
dated-last : {T : Type 0} (front : List Tally) (time count : ℕ) (ws : List T) → total front + count ≡ length ws → dated (front ++ record { time = time; count = count } ∷ []) ws ≡ dated front (take (total front) ws) ++ map (λ w. (time, w)) (drop (total front) ws)
dated-last {T} front time count ws h =
    let first : total front ≡ length (take (total front) ws) = sym (length-take-le (total front) ws (omega arith)) in
    let many : length (drop (total front) ws) ≡ count = omega (arith, length-drop (total front) ws) in
    ap (λ (xs : List T). dated (front ++ record { time = time; count = count } ∷ []) xs) (sym (take-append-drop (total front) ws))
    ∙ dated-append front (record { time = time; count = count } ∷ []) (take (total front) ws) (drop (total front) ws) first
    ∙ ap (λ (xs : List (Dated T)). dated front (take (total front) ws) ++ xs) (one_stop time count (drop (total front) ws) many)

-- one word more in the last stop is told last
pub dated-more : {T : Type 0} (front : List Tally) (time count : ℕ) (ws : List T) (w : T) → total front + count ≡ length ws → dated (front ++ record { time = time; count = count + 1 } ∷ []) (ws ++ w ∷ []) ≡ dated (front ++ record { time = time; count = count } ∷ []) ws ++ (time, w) ∷ []
dated-more {T} front time count ws w h =
    let within : total front ≤ length ws = omega arith in
    let more : total front + (count + 1) ≡ length (ws ++ w ∷ []) = omega (arith, length_push ws w) in
    dated-last front time (count + 1) (ws ++ w ∷ []) more
    ∙ rw (take-append-le (total front) ws (w ∷ []) within, drop-append-le (total front) ws (w ∷ []) within, map-append {B = Dated T} (λ x. (time, x)) (drop (total front) ws) (w ∷ []))
    (sym (append_assoc (dated front (take (total front) ws)) (map (λ x. (time, x)) (drop (total front) ws)) ((time, w) ∷ []))
    ∙ ap (λ (xs : List (Dated T)). xs ++ (time, w) ∷ []) (sym (dated-last front time count ws h)))

-- a stop of no words tells nothing
dated-empty : {T : Type 0} (front : List Tally) (time : ℕ) (ws : List T) → total front ≡ length ws → dated (front ++ record { time = time; count = 0 } ∷ []) ws ≡ dated front ws
dated-empty {T} front time ws h =
    ap (λ (xs : List T). dated (front ++ record { time = time; count = 0 } ∷ []) xs) (sym (append-nil ws))
    ∙ dated-append front (record { time = time; count = 0 } ∷ []) ws [] h
    ∙ append-nil (dated front ws)

-- what stops tell that have one word more
pub dated-growth : {T : Type 0} (fixed time : ℕ) (ss ss' : List Tally) (ws : List T) (w : T) → Growth fixed time ss ss' → total ss ≡ length ws → dated ss' (ws ++ w ∷ []) ≡ dated ss ws ++ (time, w) ∷ []
dated-growth {T} fixed time ss ss' ws w g whole =
    let is : dated ss' (ws ++ w ∷ []) ≡ dated (g.front ++ record { time = time; count = g.count + 1 } ∷ []) (ws ++ w ∷ []) = ap (λ (xs : List Tally). dated xs (ws ++ w ∷ [])) g.is in
    elim g.was [
      | inl e ↦ (
          let sum : total g.front ≡ length ws = ap total (sym e.0) ∙ whole in
          let more : total g.front + g.count ≡ length ws = (let z : g.count ≡ 0 = e.1 in omega arith) in
          let zero_count : dated (g.front ++ record { time = time; count = g.count } ∷ []) ws ≡ dated g.front ws = ap (λ (k : ℕ). dated (g.front ++ record { time = time; count = k } ∷ []) ws) e.1 ∙ dated-empty g.front time ws sum in
          is ∙ dated-more g.front time g.count ws w more ∙ ap (λ (xs : List (Dated T)). xs ++ (time, w) ∷ []) (zero_count ∙ ap (λ (xs : List Tally). dated xs ws) (sym e.0)))
      | inr e ↦ (
          let sum : total g.front + total (record { time = time; count = g.count } ∷ []) ≡ length ws = sym (total-append g.front (record { time = time; count = g.count } ∷ [])) ∙ ap total (sym e) ∙ whole in
          is ∙ dated-more g.front time g.count ws w (omega arith) ∙ ap (λ (xs : List Tally). dated xs ws ++ (time, w) ∷ []) (sym e))
    ]

pub total-growth : (fixed time : ℕ) (ss ss' : List Tally) → Growth fixed time ss ss' → total ss' ≡ total ss + 1
total-growth fixed time ss ss' g =
    let is : total ss' ≡ total g.front + (g.count + 1 + 0) = ap total g.is ∙ total-append g.front (record { time = time; count = g.count + 1 } ∷ []) in
    elim g.was [
      | inl e ↦ (let f : total ss ≡ total g.front = ap total e.0 in let z : g.count ≡ 0 = e.1 in omega arith)
      | inr e ↦ (let f : total ss ≡ total g.front + (g.count + 0) = ap total e ∙ total-append g.front (record { time = time; count = g.count } ∷ []) in omega arith)
    ]

-- what stands in front is as it was
pub take-growth : (fixed time : ℕ) (ss ss' : List Tally) → Growth fixed time ss ss' → (k : ℕ) → k ≤ fixed → take k ss' ≡ take k ss
take-growth fixed time ss ss' g k h =
    let behind : fixed ≤ length g.front = g.behind in
    let is : take k ss' ≡ take k g.front = ap (take k) g.is ∙ take-append-le k g.front (record { time = time; count = g.count + 1 } ∷ []) (omega arith) in
    elim g.was [
      | inl e ↦ is ∙ ap (take k) (sym e.0)
      | inr e ↦ is ∙ sym (ap (take k) e ∙ take-append-le k g.front (record { time = time; count = g.count } ∷ []) (omega arith))
    ]

-- all but the first few grow alike
pub drop-growth : (fixed time : ℕ) (ss ss' : List Tally) → Growth fixed time ss ss' → (k : ℕ) → k ≤ fixed → Growth 0 time (drop k ss) (drop k ss')
drop-growth fixed time ss ss' g k h =
    let behind : fixed ≤ length g.front = g.behind in
    let is : drop k ss' ≡ drop k g.front ++ record { time = time; count = g.count + 1 } ∷ [] = ap (drop k) g.is ∙ drop-append-le k g.front (record { time = time; count = g.count + 1 } ∷ []) (omega arith) in
    let was : ((drop k ss ≡ drop k g.front) × (g.count ≡ 0)) ⊎ (drop k ss ≡ drop k g.front ++ record { time = time; count = g.count } ∷ []) =
    elim g.was [
      | inl e ↦ inl (ap (drop k) e.0, e.1)
      | inr e ↦ inr (ap (drop k) e ∙ drop-append-le k g.front (record { time = time; count = g.count } ∷ []) (omega arith))
    ] in
    record { front = drop k g.front; count = g.count; was = was; is = is; behind = omega arith }

pub length-growth : (fixed time : ℕ) (ss ss' : List Tally) → Growth fixed time ss ss' → length ss ≤ length ss'
length-growth fixed time ss ss' g =
    let is : length ss' ≡ length g.front + 1 = ap length g.is ∙ length-append g.front (record { time = time; count = g.count + 1 } ∷ []) in
    elim g.was [
      | inl e ↦ (let f : length ss ≡ length g.front = ap length e.0 in omega arith)
      | inr e ↦ (let f : length ss ≡ length g.front + 1 = ap length e ∙ length-append g.front (record { time = time; count = g.count } ∷ []) in omega arith)
    ]

pub AreFull-growth : (fixed time : ℕ) (ss ss' : List Tally) → Growth fixed time ss ss' → AreFull ss → AreFull ss'
AreFull-growth fixed time ss ss' g full =
    let P : Tally → Type 0 = λ s. 0 < s.count in
    let front : AreFull g.front =
    elim g.was [
      | inl e ↦ subst (λ (xs : List Tally). AreFull xs) e.0 full
      | inr e ↦ (let all : AreFull (g.front ++ record { time = time; count = g.count } ∷ []) = subst (λ (xs : List Tally). AreFull xs) e full in All-left P g.front (record { time = time; count = g.count } ∷ []) all)
    ] in
    subst (λ (xs : List Tally). AreFull xs) (sym g.is) (All-push P g.front (record { time = time; count = g.count + 1 }) front (omega arith))

-- the last time of some words of one time and others
last_from-at_once : {T : Type 0} (low time : ℕ) (us : List T) (ds : List (Dated T)) → 0 < length us → last_from low (map (λ w. (time, w)) us ++ ds) ≡ last_from time ds
last_from-at_once low time [] ds h = absurd (omega arith)
last_from-at_once low time (u ∷ []) ds h = refl
last_from-at_once low time (u ∷ v ∷ us) ds h = last_from-at_once time time (v ∷ us) ds (omega arith)

-- stops of one time that isn't before another
Climbs-once : (low time : ℕ) (ss : List Tally) → low ≤ time → All (λ s. s.time ≡ time) ss → Climbs low ss
Climbs-once low time [] h all = tt
Climbs-once low time (s ∷ ss) h all =
    let P : Tally → Type 0 = λ x. x.time ≡ time in
    let first : s.time ≡ time = All-head P s ss all in
    (omega arith, Climbs-once s.time time ss (omega arith) (All-tail P s ss all))

-- stops of a time that isn't before what is told last may stand behind
pub Climbs-extend : {T : Type 0} (low : ℕ) (ss : List Tally) (ws : List T) (time : ℕ) (added : List Tally) → Climbs low ss → AreFull ss → total ss ≡ length ws → last_from low (dated ss ws) ≤ time → All (λ s. s.time ≡ time) added → Climbs low (ss ++ added)
Climbs-extend low [] ws time added c full whole h once = Climbs-once low time added h once
Climbs-extend low (s ∷ ss) ws time added c full whole h once =
    let P : Tally → Type 0 = λ x. 0 < x.count in
    let some : 0 < s.count = All-head P s ss full in
    let many : length (take s.count ws) ≡ s.count = length-take-le s.count ws (omega arith) in
    let rest : total ss ≡ length (drop s.count ws) = omega (arith, length-drop s.count ws) in
    let last : last_from low (map (λ w. (s.time, w)) (take s.count ws) ++ dated ss (drop s.count ws)) ≡ last_from s.time (dated ss (drop s.count ws)) = last_from-at_once low s.time (take s.count ws) (dated ss (drop s.count ws)) (omega arith) in
    (c.0, Climbs-extend s.time ss (drop s.count ws) time added c.1 (All-tail P s ss full) rest (omega arith) once)

-- a stop's count is nothing to the order
Climbs-recount : (low : ℕ) (front : List Tally) (time count count' : ℕ) → Climbs low (front ++ record { time = time; count = count } ∷ []) → Climbs low (front ++ record { time = time; count = count' } ∷ [])
Climbs-recount low [] time count count' c = c
Climbs-recount low (s ∷ ss) time count count' c = (c.0, Climbs-recount s.time ss time count count' c.1)

pub Climbs-growth : {T : Type 0} (fixed time : ℕ) (ss ss' : List Tally) (ws : List T) → Growth fixed time ss ss' → Climbs 0 ss → AreFull ss → total ss ≡ length ws → last_from 0 (dated ss ws) ≤ time → Climbs 0 ss'
Climbs-growth fixed time ss ss' ws g c full whole h =
    let grown : Climbs 0 (g.front ++ record { time = time; count = g.count + 1 } ∷ []) =
    elim g.was [
      | inl e ↦ subst (λ (xs : List Tally). Climbs 0 (xs ++ record { time = time; count = g.count + 1 } ∷ [])) e.0 (Climbs-extend 0 ss ws time (record { time = time; count = g.count + 1 } ∷ []) c full whole h (All-cons (λ (s : Tally). s.time ≡ time) (record { time = time; count = g.count + 1 }) [] refl (All-nil (λ (s : Tally). s.time ≡ time))))
      | inr e ↦ Climbs-recount 0 g.front time g.count (g.count + 1) (subst (λ (xs : List Tally). Climbs 0 xs) e c)
    ] in
    subst (λ (xs : List Tally). Climbs 0 xs) (sym g.is) grown

-- words of one time and then others that are no earlier
RisesFrom-at_once : {T : Type 0} (low time : ℕ) (us : List T) (ds : List (Dated T)) → low ≤ time → RisesFrom time ds → RisesFrom low (map (λ w. (time, w)) us ++ ds)
RisesFrom-at_once low time [] [] h r = tt
RisesFrom-at_once low time [] (d ∷ ds) h r = (let g : time ≤ d.0 = r.0 in omega arith, r.1)
RisesFrom-at_once low time (u ∷ us) ds h r = (h, RisesFrom-at_once time time us ds (omega arith) r)

-- the times of what stops tell never fall
pub RisesFrom-dated : {T : Type 0} (low : ℕ) (ss : List Tally) (ws : List T) → Climbs low ss → RisesFrom low (dated ss ws)
RisesFrom-dated low [] ws c = tt
RisesFrom-dated low (s ∷ ss) ws c = RisesFrom-at_once low s.time (take s.count ws) (dated ss (drop s.count ws)) c.0 (RisesFrom-dated s.time ss (drop s.count ws) c.1)

pub last_from-append : {T : Type 0} (low : ℕ) (a b : List (Dated T)) → last_from low (a ++ b) ≡ last_from (last_from low a) b
last_from-append low [] b = refl
last_from-append low (d ∷ a) b = last_from-append d.0 a b

last_from-once : {T : Type 0} (low time : ℕ) (us : List T) → 0 < length us → last_from low (map (λ w. (time, w)) us) ≡ time
last_from-once low time [] h = absurd (omega arith)
last_from-once low time (u ∷ []) h = refl
last_from-once low time (u ∷ v ∷ us) h = last_from-once time time (v ∷ us) (omega arith)

-- what is told last is told by the last stop
pub last_from-dated : {T : Type 0} (low : ℕ) (front : List Tally) (s : Tally) (ws : List T) → 0 < s.count → total (front ++ s ∷ []) ≡ length ws → last_from low (dated (front ++ s ∷ []) ws) ≡ s.time
last_from-dated {T} low front s ws some whole =
    let sum : total front + (s.count + 0) ≡ length ws = sym (total-append front (s ∷ [])) ∙ whole in
    let many : 0 < length (drop (total front) ws) = omega (arith, length-drop (total front) ws) in
    ap (last_from low) (dated-last front s.time s.count ws (omega arith))
    ∙ last_from-append low (dated front (take (total front) ws)) (map (λ w. (s.time, w)) (drop (total front) ws))
    ∙ last_from-once (last_from low (dated front (take (total front) ws))) s.time (drop (total front) ws) many
