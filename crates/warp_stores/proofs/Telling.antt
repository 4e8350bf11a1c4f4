-- What stops tell.
use Rattle.std.proofs.Common.{◌≡◌, ℕ, Bool, true, false, ◌+◌, ◌-◌, ◌<◌, ◌≤◌, List, [], ◌∷◌, ◌++◌, length, get_or, take, drop, map, refl, ap, sym, ◌∙◌, arith, nat_lt, nat_le, append_assoc, length-drop}
use Rattle.std.specs.List.{All, between, filter}
use Rattle.std.proofs.lemmas.List.Elements.{All-head, All-tail, filter-append}
use Rattle.std.proofs.lemmas.List.{take-append-drop, take-append-le, drop-append-le, append-nil, nil_from_length, map-append, take_all, length-map}
use Rattle.std.proofs.lemmas.List.Edits.{between_none, length-between}
use Rattle.warp_stores.proofs.Parts.{between_append, between-take, between-drop}
use Rattle.warp_stores.proofs.Stops.{total-between, total-take}
use Rattle.std.proofs.lemmas.Grind.{common_steps}
use Rattle.warp_stores.specs.declared.place.Place.{Place}
use Rattle.warp_stores.specs.Dated.{Dated, before, since, undated}
use Rattle.warp_stores.specs.Shown.StopBits.{Tally}
use Rattle.warp_stores.specs.Inner.Stops.{total, AreSince, AreBefore, IsPlace, IsSpan, IsParted}
use Rattle.warp_stores.specs.Shown.Stops.{dated, told, end_of}

pub dated-append : {T : Type 0} (a b : List Tally) (u v : List T) → total a ≡ length u → dated (a ++ b) (u ++ v) ≡ dated a u ++ dated b v
dated-append [] b u v h = rw (nil_from_length u (sym h)) refl
dated-append (s ∷ ss) b u v h =
    let le : s.count ≤ length u = omega arith in
    let rest : total ss ≡ length (drop s.count u) = omega (arith, length-drop s.count u) in
    rw (take-append-le s.count u v le, drop-append-le s.count u v le, dated-append ss b (drop s.count u) v rest)
    (sym (append_assoc (map (λ w. (s.time, w)) (take s.count u)) (dated ss (drop s.count u)) (dated b v)))

pub lt_true : (t k : ℕ) → t < k → nat_lt t k ≡ true
lt_true t k h = grind (arith, common_steps)

pub lt_false : (t k : ℕ) → k ≤ t → nat_lt t k ≡ false
lt_false t k h = grind (arith, common_steps)

pub le_true : (t k : ℕ) → t ≤ k → nat_le t k ≡ true
le_true t k h = grind (arith, common_steps)

pub le_false : (t k : ℕ) → k < t → nat_le t k ≡ false
le_false t k h = grind (arith, common_steps)

-- words of one time, by a test of the time
at_once_all : {T : Type 0} (test : ℕ → Bool) (time : ℕ) (ws : List T) → test time ≡ true → filter (λ (d : Dated T). test d.0) (map (λ w. (time, w)) ws) ≡ map (λ w. (time, w)) ws
at_once_all test time [] h = refl
at_once_all test time (w ∷ ws) h = rw h (ap (λ ds. (time, w) ∷ ds) (at_once_all test time ws h))

at_once_none : {T : Type 0} (test : ℕ → Bool) (time : ℕ) (ws : List T) → test time ≡ false → filter (λ (d : Dated T). test d.0) (map (λ w. (time, w)) ws) ≡ []
at_once_none test time [] h = refl
at_once_none test time (w ∷ ws) h = rw h (at_once_none test time ws h)

-- words of stops whose times pass a test
tested_all : {T : Type 0} (test : ℕ → Bool) (ss : List Tally) (ws : List T) → All (λ s. test s.time ≡ true) ss → filter (λ (d : Dated T). test d.0) (dated ss ws) ≡ dated ss ws
tested_all test [] ws all = refl
tested_all test (s ∷ ss) ws all =
    let P : Tally → Type 0 = λ x. test x.time ≡ true in
    filter-append (λ d. test d.0) (map (λ w. (s.time, w)) (take s.count ws)) (dated ss (drop s.count ws))
    ∙ rw (at_once_all test s.time (take s.count ws) (All-head P s ss all), tested_all test ss (drop s.count ws) (All-tail P s ss all)) refl

tested_none : {T : Type 0} (test : ℕ → Bool) (ss : List Tally) (ws : List T) → All (λ s. test s.time ≡ false) ss → filter (λ (d : Dated T). test d.0) (dated ss ws) ≡ []
tested_none test [] ws all = refl
tested_none test (s ∷ ss) ws all =
    let P : Tally → Type 0 = λ x. test x.time ≡ false in
    filter-append (λ d. test d.0) (map (λ w. (s.time, w)) (take s.count ws)) (dated ss (drop s.count ws))
    ∙ rw (at_once_none test s.time (take s.count ws) (All-head P s ss all), tested_none test ss (drop s.count ws) (All-tail P s ss all)) refl

pub before-all : {T : Type 0} (t : ℕ) (ss : List Tally) (ws : List T) → AreBefore t ss → before t (dated ss ws) ≡ dated ss ws
before-all t ss ws all = tested_all (λ k. nat_lt k t) ss ws (λ k d h. lt_true (get_or ss k d).time t (all k d h))

pub before-none : {T : Type 0} (t : ℕ) (ss : List Tally) (ws : List T) → AreSince t ss → before t (dated ss ws) ≡ []
before-none t ss ws all = tested_none (λ k. nat_lt k t) ss ws (λ k d h. lt_false (get_or ss k d).time t (all k d h))

pub since-all : {T : Type 0} (t : ℕ) (ss : List Tally) (ws : List T) → AreSince t ss → since t (dated ss ws) ≡ dated ss ws
since-all t ss ws all = tested_all (λ k. nat_le t k) ss ws (λ k d h. le_true t (get_or ss k d).time (all k d h))

pub since-none : {T : Type 0} (t : ℕ) (ss : List Tally) (ws : List T) → AreBefore t ss → since t (dated ss ws) ≡ []
since-none t ss ws all = tested_none (λ k. nat_le t k) ss ws (λ k d h. le_false t (get_or ss k d).time (all k d h))

-- the words of stops, without the times
pub undated-dated : {T : Type 0} (ss : List Tally) (ws : List T) → total ss ≡ length ws → undated (dated ss ws) ≡ ws
undated-dated [] ws h = sym (nil_from_length ws (sym h))
undated-dated (s ∷ ss) ws h =
    let rest : total ss ≡ length (drop s.count ws) = omega (arith, length-drop s.count ws) in
    map-append (λ d. d.1) (map (λ w. (s.time, w)) (take s.count ws)) (dated ss (drop s.count ws))
    ∙ rw (plain s.time (take s.count ws), undated-dated ss (drop s.count ws) rest) (take-append-drop s.count ws)
  where
    plain : {T : Type 0} (time : ℕ) (us : List T) → undated (map (λ w. (time, w)) us) ≡ us
    plain time [] = refl
    plain time (w ∷ us) = ap (λ ws. w ∷ ws) (plain time us)

-- the stops between two places have the words between them
pub total-span : (ss : List Tally) (p q : Place) → IsSpan ss p q → p.words + total (between p.stops q.stops ss) ≡ q.words
total-span ss p q span =
    let more : total (take q.stops ss) ≡ total (take p.stops ss) + total (between p.stops q.stops ss) = total-between ss p.stops q.stops span.order in
    let from : total (take p.stops ss) ≡ p.words = span.begin.words in
    let to : total (take q.stops ss) ≡ q.words = span.end.words in
    omega arith

pub length-span : {T : Type 0} (ss : List Tally) (ws : List T) (p q : Place) → IsSpan ss p q → total ss ≡ length ws → (p.words ≤ q.words) × (q.words ≤ length ws) × (total (between p.stops q.stops ss) ≡ length (between p.words q.words ws))
length-span ss ws p q span whole =
    let more : p.words + total (between p.stops q.stops ss) ≡ q.words = total-span ss p q span in
    let to : total (take q.stops ss) ≡ q.words = span.end.words in
    let all : total (take q.stops ss) ≤ total ss = total-take ss q.stops in
    let within : q.words ≤ length ws = omega arith in
    let many : length (between p.words q.words ws) ≡ q.words - p.words = length-between ws p.words q.words within in
    (omega arith, within, omega arith)

-- what is told between two places, by one between them
pub told-append : {T : Type 0} (ss : List Tally) (ws : List T) (p q r : Place) → IsSpan ss p q → IsSpan ss q r → total ss ≡ length ws → told ss ws p r ≡ told ss ws p q ++ told ss ws q r
told-append ss ws p q r first second whole =
    let one : (p.words ≤ q.words) × (q.words ≤ length ws) × (total (between p.stops q.stops ss) ≡ length (between p.words q.words ws)) = length-span ss ws p q first whole in
    let two : (q.words ≤ r.words) × (r.words ≤ length ws) × (total (between q.stops r.stops ss) ≡ length (between q.words r.words ws)) = length-span ss ws q r second whole in
    rw (between_append ss p.stops q.stops r.stops first.order second.order first.end.within, between_append ws p.words q.words r.words one.0 two.0 one.1)
    (dated-append (between p.stops q.stops ss) (between q.stops r.stops ss) (between p.words q.words ws) (between q.words r.words ws) one.2)

-- what is told before a time
pub before-told : {T : Type 0} (t : ℕ) (ss : List Tally) (ws : List T) (p q r : Place) → IsParted t ss p q r → total ss ≡ length ws → before t (told ss ws p q) ≡ told ss ws p r
before-told t ss ws p q r parted whole =
    rw (told-append ss ws p r q parted.low parted.high whole)
    (filter-append (λ d. nat_lt d.0 t) (told ss ws p r) (told ss ws r q)
    ∙ rw (before-all t (between p.stops r.stops ss) (between p.words r.words ws) parted.earlier, before-none t (between r.stops q.stops ss) (between r.words q.words ws) parted.later)
    (append-nil (told ss ws p r)))

-- what is told at a time or later
pub since-told : {T : Type 0} (t : ℕ) (ss : List Tally) (ws : List T) (p q r : Place) → IsParted t ss p q r → total ss ≡ length ws → since t (told ss ws p q) ≡ told ss ws r q
since-told t ss ws p q r parted whole =
    rw (told-append ss ws p r q parted.low parted.high whole)
    (filter-append (λ d. nat_le t d.0) (told ss ws p r) (told ss ws r q)
    ∙ rw (since-none t (between p.stops r.stops ss) (between p.words r.words ws) parted.earlier, since-all t (between r.stops q.stops ss) (between r.words q.words ws) parted.later) refl)

-- what is told, without the times
pub undated-told : {T : Type 0} (ss : List Tally) (ws : List T) (p q : Place) → IsSpan ss p q → total ss ≡ length ws → undated (told ss ws p q) ≡ between p.words q.words ws
undated-told ss ws p q span whole = undated-dated (between p.stops q.stops ss) (between p.words q.words ws) ((length-span ss ws p q span whole).2)

-- how much is told
pub length-told : {T : Type 0} (ss : List Tally) (ws : List T) (p q : Place) → IsSpan ss p q → total ss ≡ length ws → length (told ss ws p q) ≡ q.words - p.words
length-told ss ws p q span whole =
    let one : (p.words ≤ q.words) × (q.words ≤ length ws) × (total (between p.stops q.stops ss) ≡ length (between p.words q.words ws)) = length-span ss ws p q span whole in
    sym (length-map (told ss ws p q) (λ d. d.1)) ∙ ap length (undated-told ss ws p q span whole) ∙ length-between ws p.words q.words one.1

-- nothing is told between a place and itself
pub told-none : {T : Type 0} (ss : List Tally) (ws : List T) (p : Place) → told ss ws p p ≡ []
told-none ss ws p = rw (between_none ss p.stops) refl

-- stops and words that were cut tell the same ahead of the cut
pub told-take : {T : Type 0} (ss : List Tally) (ws : List T) (p q k : Place) → q.stops ≤ k.stops → q.words ≤ k.words → told (take k.stops ss) (take k.words ws) p q ≡ told ss ws p q
told-take ss ws p q k h g = rw (between-take ss p.stops q.stops k.stops h, between-take ws p.words q.words k.words g) refl

-- stops and words whose first ones were dropped tell the same behind them
pub told-drop : {T : Type 0} (ss : List Tally) (ws : List T) (n m i j k l : ℕ) → told (drop n ss) (drop m ws) (record { stops = i; words = j }) (record { stops = k; words = l }) ≡ told ss ws (record { stops = n + i; words = m + j }) (record { stops = n + k; words = m + l })
told-drop ss ws n m i j k l = rw (between-drop ss n i k, between-drop ws m j l) refl

-- the place behind all stops
pub IsPlace-end : {T : Type 0} (ss : List Tally) (ws : List T) → total ss ≡ length ws → IsPlace ss (end_of ss ws)
IsPlace-end ss ws whole = record { within = omega arith; words = ap total (take_all (length ss) ss (omega arith)) ∙ whole }
