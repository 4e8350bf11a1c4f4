-- Stops and places between them.
use Rattle.std.proofs.Common.{◌≡◌, ℕ, ◌+◌, ◌-◌, ◌<◌, ◌≤◌, List, [], ◌∷◌, ◌++◌, length, get_or, take, drop, refl, ap, sym, ◌∙◌, subst, arith, add_assoc, zero-add}
use Rattle.std.specs.List.{All, between}
use Rattle.std.proofs.lemmas.List.Elements.{All-nil, All-cons, All-push, All-weaker}
use Rattle.std.proofs.lemmas.List.{take-append-drop, take_more}
use Rattle.std.proofs.lemmas.List.Edits.{between_more}
use Rattle.warp_stores.specs.declared.place.Place.{Place}
use Rattle.warp_stores.specs.Shown.StopBits.{Tally}
use Rattle.warp_stores.specs.Inner.Stops.{total, AreSince, AreBefore, Climbs, IsPlace}
use Rattle.warp_stores.proofs.Parts.{take_between, between_append, between_cons}

pub total-append : (a b : List Tally) → total (a ++ b) ≡ total a + total b
total-append [] b = sym (zero-add (total b))
total-append (s ∷ ss) b = ap (λ n. s.count + n) (total-append ss b) ∙ sym (add_assoc s.count (total ss) (total b))

-- the stops between two places have the words between them
pub total-between : (ss : List Tally) (i j : ℕ) → i ≤ j → total (take j ss) ≡ total (take i ss) + total (between i j ss)
total-between ss i j h = ap total (take_between ss i j h) ∙ total-append (take i ss) (between i j ss)

-- the first stops have no more words than all
pub total-take : (ss : List Tally) (i : ℕ) → total (take i ss) ≤ total ss
total-take ss i =
    let e : total (take i ss) + total (drop i ss) ≡ total ss = sym (total-append (take i ss) (drop i ss)) ∙ ap total (take-append-drop i ss) in
    omega arith

-- one stop further
pub total-more : (ss : List Tally) (i : ℕ) (d : Tally) → i < length ss → total (take (i + 1) ss) ≡ total (take i ss) + (get_or ss i d).count
total-more ss i d h =
    ap total (take_more ss i d h) ∙ total-append (take i ss) (get_or ss i d ∷ []) ∙ (let e : (get_or ss i d).count + 0 ≡ (get_or ss i d).count = omega arith in ap (λ (n : ℕ). total (take i ss) + n) e)

-- all from a stop on are no earlier than it
climbs_all : (low : ℕ) (ss : List Tally) → Climbs low ss → AreSince low ss
climbs_all low [] c = All-nil (λ (s : Tally). low ≤ s.time)
climbs_all low (s ∷ ss) c =
    All-cons (λ (x : Tally). low ≤ x.time) s ss c.0
    (All-weaker (λ (x : Tally). s.time ≤ x.time) (λ (x : Tally). low ≤ x.time) (λ x h. omega (arith, c.0)) ss (climbs_all s.time ss c.1))

pub Climbs-weaker : (low low' : ℕ) (ss : List Tally) → low' ≤ low → Climbs low ss → Climbs low' ss
Climbs-weaker low low' [] h c = tt
Climbs-weaker low low' (s ∷ ss) h c = (let g : low ≤ s.time = c.0 in omega arith, c.1)

-- those behind a stop, that are no earlier than it
pub climbs_behind : (low : ℕ) (a : List Tally) (s : Tally) (b : List Tally) → Climbs low (a ++ s ∷ b) → AreSince s.time (s ∷ b)
climbs_behind low [] s b c = climbs_all s.time (s ∷ b) (omega arith, c.1)
climbs_behind low (x ∷ a) s b c = climbs_behind x.time a s b c.1

-- those ahead of a stop, that are no later than it
pub climbs_ahead : (low : ℕ) (a : List Tally) (s : Tally) (b : List Tally) → Climbs low (a ++ s ∷ b) → All (λ x. x.time ≤ s.time) (a ++ s ∷ [])
climbs_ahead low [] s b c = All-cons (λ (x : Tally). x.time ≤ s.time) s [] (omega arith) (All-nil (λ (x : Tally). x.time ≤ s.time))
climbs_ahead low (x ∷ a) s b c =
    let rest : All (λ (y : Tally). y.time ≤ s.time) (a ++ s ∷ []) = climbs_ahead x.time a s b c.1 in
    All-cons (λ (y : Tally). y.time ≤ s.time) x (a ++ s ∷ []) (first x a c.1) rest
  where
    first : (x : Tally) (a : List Tally) → Climbs x.time (a ++ s ∷ b) → x.time ≤ s.time
    first x [] c = c.0
    first x (y ∷ a) c = let h : x.time ≤ y.time = c.0 in let g : y.time ≤ s.time = first y a c.1 in omega arith

pub Climbs-append : (low : ℕ) (a b : List Tally) → Climbs low (a ++ b) → Climbs low a
Climbs-append low [] b c = tt
Climbs-append low (x ∷ a) b c = (c.0, Climbs-append x.time a b c.1)

pub Climbs-behind : (low : ℕ) (a b : List Tally) → Climbs low (a ++ b) → Climbs low b
Climbs-behind low [] b c = c
Climbs-behind low (x ∷ a) b c = Climbs-weaker x.time low b c.0 (Climbs-behind x.time a b c.1)

-- one stop further
pub IsPlace-more : (ss : List Tally) (p : Place) (s : Tally) → IsPlace ss p → p.stops < length ss → s ≡ get_or ss p.stops s → IsPlace ss (record { stops = p.stops + 1; words = p.words + s.count })
IsPlace-more ss p s at l e = record {
  within = omega arith;
  words = total-more ss p.stops s l ∙ (let n : (get_or ss p.stops s).count ≡ s.count = ap (λ (x : Tally). x.count) (sym e) in let w : total (take p.stops ss) ≡ p.words = at.words in omega arith);
}

-- one stop back
pub IsPlace-less : (ss : List Tally) (p : Place) (s : Tally) → IsPlace ss p → 0 < p.stops → s ≡ get_or ss (p.stops - 1) s → (s.count ≤ p.words) × IsPlace ss (record { stops = p.stops - 1; words = p.words - s.count })
IsPlace-less ss p s at l e =
    let within : p.stops ≤ length ss = at.within in
    let back : (p.stops - 1) + 1 ≡ p.stops = omega arith in
    let more : total (take ((p.stops - 1) + 1) ss) ≡ total (take (p.stops - 1) ss) + (get_or ss (p.stops - 1) s).count = total-more ss (p.stops - 1) s (omega arith) in
    let all : total (take p.stops ss) ≡ total (take (p.stops - 1) ss) + (get_or ss (p.stops - 1) s).count = rw back at more in
    let n : (get_or ss (p.stops - 1) s).count ≡ s.count = ap (λ (x : Tally). x.count) (sym e) in
    let w : total (take p.stops ss) ≡ p.words = at.words in
    (omega arith, record { within = omega arith; words = omega arith })

pub before_more : (t : ℕ) (ss : List Tally) (i j : ℕ) (s : Tally) → i ≤ j → j < length ss → s ≡ get_or ss j s → s.time < t → AreBefore t (between i j ss) → AreBefore t (between i (j + 1) ss)
before_more t ss i j s h l e lt all =
    let P : Tally → Type 0 = λ x. x.time < t in
    rw (between_more ss i j s h l, ← e) (All-push P (between i j ss) s all lt)

pub since_more : (t : ℕ) (ss : List Tally) (i k : ℕ) (s : Tally) → 0 < i → i ≤ k → k ≤ length ss → s ≡ get_or ss (i - 1) s → t ≤ s.time → AreSince t (between i k ss) → AreSince t (between (i - 1) k ss)
since_more t ss i k s pos h l e le all =
    let P : Tally → Type 0 = λ x. t ≤ x.time in
    let back : (i - 1) + 1 ≡ i = omega arith in
    let cons : between (i - 1) k ss ≡ get_or ss (i - 1) s ∷ between ((i - 1) + 1) k ss = between_cons ss (i - 1) k s (omega arith) l in
    let cons' : between (i - 1) k ss ≡ s ∷ between i k ss = cons ∙ rw (back, ← e) refl in
    rw cons' (All-cons P s (between i k ss) le all)

-- from the first stop on that isn't before a time, none is
pub since_from : (t : ℕ) (ss : List Tally) (p r q : ℕ) (s : Tally) → p ≤ r → r < q → q ≤ length ss → Climbs 0 (between p q ss) → s ≡ get_or ss r s → t ≤ s.time → AreSince t (between r q ss)
since_from t ss p r q s h g l c e le =
    let cons : between r q ss ≡ s ∷ between (r + 1) q ss = between_cons ss r q s g l ∙ rw (← e) refl in
    let parts : between p q ss ≡ between p r ss ++ (s ∷ between (r + 1) q ss) = between_append ss p r q h (omega arith) (omega arith) ∙ ap (λ (ys : List Tally). between p r ss ++ ys) cons in
    let c' : Climbs 0 (between p r ss ++ (s ∷ between (r + 1) q ss)) = subst (λ (ys : List Tally). Climbs 0 ys) parts c in
    let all : AreSince s.time (s ∷ between (r + 1) q ss) = climbs_behind 0 (between p r ss) s (between (r + 1) q ss) c' in
    rw cons (All-weaker (λ (x : Tally). s.time ≤ x.time) (λ (x : Tally). t ≤ x.time) (λ x k. omega arith) (s ∷ between (r + 1) q ss) all)

-- up to the last stop that is before a time, each is
pub before_upto : (t : ℕ) (ss : List Tally) (p r q : ℕ) (s : Tally) → p < r → r ≤ q → q ≤ length ss → Climbs 0 (between p q ss) → s ≡ get_or ss (r - 1) s → s.time < t → AreBefore t (between p r ss)
before_upto t ss p r q s h g l c e lt =
    let back : (r - 1) + 1 ≡ r = omega arith in
    let cons : between (r - 1) q ss ≡ s ∷ between r q ss = between_cons ss (r - 1) q s (omega arith) l ∙ rw (back, ← e) refl in
    let parts : between p q ss ≡ between p (r - 1) ss ++ (s ∷ between r q ss) = between_append ss p (r - 1) q (omega arith) (omega arith) (omega arith) ∙ ap (λ (ys : List Tally). between p (r - 1) ss ++ ys) cons in
    let c' : Climbs 0 (between p (r - 1) ss ++ (s ∷ between r q ss)) = subst (λ (ys : List Tally). Climbs 0 ys) parts c in
    let all : All (λ x. x.time ≤ s.time) (between p (r - 1) ss ++ s ∷ []) = climbs_ahead 0 (between p (r - 1) ss) s (between r q ss) c' in
    let push : between p ((r - 1) + 1) ss ≡ between p (r - 1) ss ++ s ∷ [] = between_more ss p (r - 1) s (omega arith) (omega arith) ∙ rw (← e) refl in
    let push' : between p r ss ≡ between p (r - 1) ss ++ s ∷ [] = rw back at push in
    rw push' (All-weaker (λ (x : Tally). x.time ≤ s.time) (λ (x : Tally). x.time < t) (λ x k. omega arith) (between p (r - 1) ss ++ s ∷ []) all)
