-- Lists that take in what waits for them, a bundle at a time.
use Rattle.std.proofs.Common.{◌≡◌, ◌≢◌, ℕ, zero, suc, ◌+◌, ◌*◌, ◌/◌, ◌<◌, ◌≤◌, Bool, true, false, cond, nat_eq, List, [], ◌∷◌, ◌++◌, length, set, take, get_or, replicate, Vec, Global, Result, Ok, Err, OnOk, refl, ap, sym, ◌∙◌, arith, inl, inr, add-one, get_or-set_same, get_or-set_other, length-set}
use Rattle.std.proofs.lemmas.List.{ext_get_or, get_or-map, get_or_past, length-map, length-replicate, map-append, map-set, set-get_or, take_more}
use Rattle.gate_values.specs.declared.logic.Change.{Change}
use Rattle.gate_vcd.specs.declared.fault.StimFault.{StimFault}
use Rattle.net_waves.specs.declared.timeline.Stop.{Stop}
use Rattle.gate_vcd.specs.Inner.Bundles.{change_by, stop_by, waiting_in, with_change, with_own, with_stop, with_stops, with_waiting}
use Rattle.gate_vcd.specs.Inner.Settled.{settled}
use Rattle.net_waves.specs.Waves.{lists_in}
use Rattle.net_waves.proofs.Compared.{cases_eq, eq_false, eq_true}
use Rattle.gate_vcd.proofs.Keeping.{one_more}

either_way : {A : Type 0} (b : Bool) (x : A) → cond b x x ≡ x
either_way true x = refl
either_way false x = refl

with_waiting-length : (n : ℕ) (waiting : List (List Stop)) (css : List (List Change)) → length (with_waiting n waiting css) ≡ length css
with_waiting-length n waiting [] = refl
with_waiting-length n waiting (cs ∷ css) = ap suc (with_waiting-length (n + 1) waiting css)

pub lists-length : (waiting : List (List Stop)) (css : List (List Change)) → length (with_waiting 0 waiting css) ≡ length css
lists-length waiting css = with_waiting-length 0 waiting css

with_waiting-from : (n : ℕ) (waiting : List (List Stop)) (css : List (List Change)) (k : ℕ) → k < length css
    → get_or (with_waiting n waiting css) k [] ≡ with_own (n + k) (get_or waiting ((n + k) / 256) []) (get_or css k [])
with_waiting-from n waiting [] k l = absurd (omega (arith, l))
with_waiting-from n waiting (cs ∷ css) zero l = let e : n + 0 ≡ n = omega arith in rw e refl
with_waiting-from n waiting (cs ∷ css) (suc k) l =
    let e : n + suc k ≡ (n + 1) + k = omega arith in
    rw e (with_waiting-from (n + 1) waiting css k (omega (arith, l)))

-- the list of a number
with_waiting-get : (waiting : List (List Stop)) (css : List (List Change)) (k : ℕ) → k < length css → get_or (with_waiting 0 waiting css) k [] ≡ with_own k (get_or waiting (k / 256) []) (get_or css k [])
with_waiting-get waiting css k l = let e : 0 + k ≡ k = omega arith in rw e at (with_waiting-from 0 waiting css k l)

with_own-more : (n : ℕ) (ss : List Stop) (s : Stop) (cs : List Change) → with_own n (ss ++ s ∷ []) cs ≡ cond (nat_eq s.net n) (settled (with_own n ss cs) (change_by s)) (with_own n ss cs)
with_own-more n [] s cs = refl
with_own-more n (x ∷ ss) s cs = with_own-more n ss s (cond (nat_eq x.net n) (settled cs (change_by x)) cs)

-- a change more waits
module _ (waiting : List (List Stop)) (css : List (List Change)) (number : ℕ) (c : Change) (listed : number < length css) (bundled : number / 256 < length waiting) where
  abbrev old : List (List Change)
  old = with_waiting 0 waiting css

  abbrev more : List (List Stop)
  more = with_change number c waiting

  abbrev own : List Stop
  own = get_or waiting (number / 256) []

  of_own : get_or (with_waiting 0 more css) number [] ≡ settled (get_or old number []) c
  of_own =
      with_waiting-get more css number listed
      ∙ ap (λ ss. with_own number ss (get_or css number [])) (get_or-set_same waiting (number / 256) (own ++ stop_by number c ∷ []) [] bundled)
      ∙ with_own-more number own (stop_by number c) (get_or css number [])
      ∙ rw (eq_true number number refl) (ap (λ cs. settled cs c) (sym (with_waiting-get waiting css number listed)))

  stays : (k : ℕ) → k ≢ number → with_own k (get_or more (k / 256) []) (get_or css k []) ≡ with_own k (get_or waiting (k / 256) []) (get_or css k [])
  stays k n = elim (cases_eq (k / 256) (number / 256)) [
    | inl e ↦ rw e (
        ap (λ ss. with_own k ss (get_or css k [])) (get_or-set_same waiting (number / 256) (own ++ stop_by number c ∷ []) [] bundled)
        ∙ with_own-more k own (stop_by number c) (get_or css k [])
        ∙ rw (eq_false number k (λ e. n (sym e))) refl)
    | inr m ↦ ap (λ ss. with_own k ss (get_or css k [])) (get_or-set_other waiting (number / 256) (k / 256) (own ++ stop_by number c ∷ []) [] m)
  ]

  at_each : (k : ℕ) → k < length css → get_or (with_waiting 0 more css) k [] ≡ get_or (set old number (settled (get_or old number []) c)) k []
  at_each k l = elim (cases_eq k number) [
    | inl e ↦ rw e (of_own ∙ sym (get_or-set_same old number (settled (get_or old number []) c) [] (rw (lists-length waiting css) listed)))
    | inr n ↦ with_waiting-get more css k l ∙ stays k n ∙ sym (with_waiting-get waiting css k l) ∙ sym (get_or-set_other old number k (settled (get_or old number []) c) [] n)
  ]

  pub waits : with_waiting 0 more css ≡ set old number (settled (get_or old number []) c)
  waits = ext_get_or [] (with_waiting 0 more css) (set old number (settled (get_or old number []) c))
      (lists-length more css ∙ sym (length-set old number (settled (get_or old number []) c) ∙ lists-length waiting css))
      (λ k l. at_each k (rw (lists-length more css) at l))

pub with_stop-length : (b : ℕ) (s : Stop) (css : List (List Change)) → length (with_stop b s css) ≡ length css
with_stop-length b s css = elim (nat_eq (s.net / 256) b) as (λ t. length (cond t (set css s.net (settled (get_or css s.net []) (change_by s))) css) ≡ length css) [ true ↦ length-set css s.net (settled (get_or css s.net []) (change_by s)) | false ↦ refl ]

with_stop-get : (b : ℕ) (s : Stop) (css : List (List Change)) (k : ℕ) → k < length css
    → get_or (with_stop b s css) k [] ≡ cond (nat_eq (k / 256) b) (cond (nat_eq s.net k) (settled (get_or css k []) (change_by s)) (get_or css k [])) (get_or css k [])
with_stop-get b s css k l = elim (cases_eq s.net k) [
  | inl e ↦ rw (eq_true s.net k e, e) (of_it (nat_eq (k / 256) b))
  | inr n ↦ rw (eq_false s.net k n, either_way (nat_eq (k / 256) b) (get_or css k [])) (of_another (nat_eq (s.net / 256) b) n)
]
  where
    of_it : (t : Bool) → get_or (cond t (set css k (settled (get_or css k []) (change_by s))) css) k [] ≡ cond t (settled (get_or css k []) (change_by s)) (get_or css k [])
    of_it true = get_or-set_same css k (settled (get_or css k []) (change_by s)) [] l
    of_it false = refl

    of_another : (t : Bool) → s.net ≢ k → get_or (cond t (set css s.net (settled (get_or css s.net []) (change_by s))) css) k [] ≡ get_or css k []
    of_another true n = get_or-set_other css s.net k (settled (get_or css s.net []) (change_by s)) [] (λ e. n (sym e))
    of_another false n = refl

with_stops-get : (b : ℕ) (ss : List Stop) (css : List (List Change)) (k : ℕ) → k < length css
    → get_or (with_stops b ss css) k [] ≡ cond (nat_eq (k / 256) b) (with_own k ss (get_or css k [])) (get_or css k [])
with_stops-get b [] css k l = sym (either_way (nat_eq (k / 256) b) (get_or css k []))
with_stops-get b (s ∷ ss) css k l =
    with_stops-get b ss (with_stop b s css) k (rw (with_stop-length b s css) l)
    ∙ rw (with_stop-get b s css k l) (go (nat_eq (k / 256) b))
  where
    go : (t : Bool) → cond t (with_own k ss (cond t (cond (nat_eq s.net k) (settled (get_or css k []) (change_by s)) (get_or css k [])) (get_or css k []))) (cond t (cond (nat_eq s.net k) (settled (get_or css k []) (change_by s)) (get_or css k [])) (get_or css k []))
        ≡ cond t (with_own k ss (cond (nat_eq s.net k) (settled (get_or css k []) (change_by s)) (get_or css k []))) (get_or css k [])
    go true = refl
    go false = refl

with_stops-length : (b : ℕ) (ss : List Stop) (css : List (List Change)) → length (with_stops b ss css) ≡ length css
with_stops-length b [] css = refl
with_stops-length b (s ∷ ss) css = with_stops-length b ss (with_stop b s css) ∙ with_stop-length b s css

-- one stop more
pub with_stops-more : (b : ℕ) (ss : List Stop) (s : Stop) (css : List (List Change)) → with_stops b (ss ++ s ∷ []) css ≡ with_stop b s (with_stops b ss css)
with_stops-more b [] s css = refl
with_stops-more b (x ∷ ss) s css = with_stops-more b ss s (with_stop b x css)

-- the next of the stops
pub with_stops-next : (b : ℕ) (ss : List Stop) (i : ℕ) (d : Stop) (css ds es : List (List Change)) → i < length ss → ds ≡ with_stops b (take i ss) css → es ≡ with_stop b (get_or ss i d) ds → es ≡ with_stops b (take (i + 1) ss) css
with_stops-next b ss i d css ds es l put next = rw (take_more ss i d l) (next ∙ ap (with_stop b (get_or ss i d)) put ∙ sym (with_stops-more b (take i ss) (get_or ss i d) css))

-- a bundle takes in what waits for it, and then nothing waits for it
taken : (b : ℕ) (waiting new : List (List Stop)) (css : List (List Change)) → get_or new b [] ≡ [] → ((i : ℕ) → i ≢ b → get_or new i [] ≡ get_or waiting i [])
    → with_waiting 0 new (with_stops b (get_or waiting b []) css) ≡ with_waiting 0 waiting css
taken b waiting new css none others =
    ext_get_or [] (with_waiting 0 new (with_stops b (get_or waiting b []) css)) (with_waiting 0 waiting css)
    (lists-length new (with_stops b (get_or waiting b []) css) ∙ with_stops-length b (get_or waiting b []) css ∙ sym (lists-length waiting css))
    (λ k l. by k (rw (lists-length new (with_stops b (get_or waiting b []) css) ∙ with_stops-length b (get_or waiting b []) css) at l))
  where
    by : (k : ℕ) → k < length css → get_or (with_waiting 0 new (with_stops b (get_or waiting b []) css)) k [] ≡ get_or (with_waiting 0 waiting css) k []
    by k l =
        with_waiting-get new (with_stops b (get_or waiting b []) css) k (rw (with_stops-length b (get_or waiting b []) css) l)
        ∙ rw (with_stops-get b (get_or waiting b []) css k l) (each (get_or css k []))
        ∙ sym (with_waiting-get waiting css k l)
      where
        each : (cs : List Change) → with_own k (get_or new (k / 256) []) (cond (nat_eq (k / 256) b) (with_own k (get_or waiting b []) cs) cs) ≡ with_own k (get_or waiting (k / 256) []) cs
        each cs = elim (cases_eq (k / 256) b) [
          | inl e ↦ rw (eq_true (k / 256) b e, e, none) refl
          | inr n ↦ rw (eq_false (k / 256) b n, others (k / 256) n) refl
        ]

pub taken-here : (b : ℕ) (waiting : List (List Stop)) (css : List (List Change)) → b < length waiting → with_waiting 0 (set waiting b []) (with_stops b (get_or waiting b []) css) ≡ with_waiting 0 waiting css
taken-here b waiting css l = taken b waiting (set waiting b []) css (get_or-set_same waiting b [] [] l) (λ i n. get_or-set_other waiting b i [] [] n)

last-get : (front : List (List Stop)) (ss : List Stop) → get_or (front ++ ss ∷ []) (length front) [] ≡ ss
last-get [] ss = refl
last-get (x ∷ front) ss = last-get front ss

front-get : (front : List (List Stop)) (ss : List Stop) (i : ℕ) → i ≢ length front → get_or front i [] ≡ get_or (front ++ ss ∷ []) i []
front-get [] ss zero n = absurd (n refl)
front-get [] ss (suc i) n = refl
front-get (x ∷ front) ss zero n = refl
front-get (x ∷ front) ss (suc i) n = front-get front ss i (λ e. n (ap suc e))

pub taken-last : (front : List (List Stop)) (ss : List Stop) (css : List (List Change)) → with_waiting 0 front (with_stops (length front) ss css) ≡ with_waiting 0 (front ++ ss ∷ []) css
taken-last front ss css =
    ap (λ own. with_waiting 0 front (with_stops (length front) own css)) (sym (last-get front ss))
    ∙ taken (length front) (front ++ ss ∷ []) front css (get_or_past front (length front) [] (omega arith)) (λ i n. front-get front ss i n)

-- nothing waits
with_waiting-none : (n : ℕ) (css : List (List Change)) → with_waiting n [] css ≡ css
with_waiting-none n [] = refl
with_waiting-none n (cs ∷ css) = ap (λ ds. cs ∷ ds) (with_waiting-none (n + 1) css)

pub none-waits : (css : List (List Change)) → with_waiting 0 [] css ≡ css
none-waits css = with_waiting-none 0 css

replicate-get : (m i : ℕ) → get_or (replicate {A = List Stop} m []) i [] ≡ []
replicate-get zero i = refl
replicate-get (suc m) zero = refl
replicate-get (suc m) (suc i) = replicate-get m i

with_waiting-empty : (n m k : ℕ) → with_waiting n (replicate {A = List Stop} m []) (replicate {A = List Change} k []) ≡ replicate {A = List Change} k []
with_waiting-empty n m zero = refl
with_waiting-empty n m (suc k) = rw (replicate-get m (n / 256)) (ap (λ ds. [] ∷ ds) (with_waiting-empty (n + 1) m k))

pub nothing-waits : (m k : ℕ) → with_waiting 0 (replicate {A = List Stop} m []) (replicate {A = List Change} k []) ≡ replicate {A = List Change} k []
nothing-waits m k = with_waiting-empty 0 m k

-- the same of the vectors that hold what waits
pub waiting-length : (vs : List (Vec Stop Global)) → length (waiting_in vs) ≡ length vs
waiting-length vs = length-map vs (λ (v : Vec Stop Global). v.items)

pub waits-in : (vs : List (Vec Stop Global)) (old new : Vec Stop Global) (number : ℕ) (c : Change) → number / 256 < length vs → old ≡ get_or vs (number / 256) old → new.items ≡ old.items ++ stop_by number c ∷ []
    → waiting_in (set vs (number / 256) new) ≡ with_change number c (waiting_in vs)
waits-in vs old new number c within eo en =
    let read : old.items ≡ get_or (waiting_in vs) (number / 256) [] = ap (λ (v : Vec Stop Global). v.items) eo ∙ sym (get_or-map (λ (v : Vec Stop Global). v.items) vs (number / 256) old [] within) in
    map-set (λ (v : Vec Stop Global). v.items) vs (number / 256) new ∙ ap (set (waiting_in vs) (number / 256)) (en ∙ ap (λ ss. ss ++ stop_by number c ∷ []) read)

pub one_waiting_more : (vs new : List (Vec Stop Global)) (v : Vec Stop Global) (n : ℕ) → v.items ≡ [] → new ≡ vs ++ v ∷ [] → waiting_in vs ≡ replicate {A = List Stop} n [] → waiting_in new ≡ replicate {A = List Stop} (n + 1) []
one_waiting_more vs new v n e en h = rw en (map-append (λ (w : Vec Stop Global). w.items) vs (v ∷ []) ∙ rw (h, e, add-one n) (one_more n []))

pub all_waiting : (vs : List (Vec Stop Global)) (n m : ℕ) → n ≡ m → waiting_in vs ≡ replicate {A = List Stop} n [] → waiting_in vs ≡ replicate {A = List Stop} m []
all_waiting vs n m e h = rw (← e) h

-- a list of vectors takes in a stop
pub settles-in : (b : ℕ) (s : Stop) (vs : List (Vec Change Global)) (old new : Vec Change Global) (r : Result (Unit {0}) StimFault) → s.net / 256 ≡ b → s.net < length vs → old ≡ get_or vs s.net old
    → OnOk r (new.items ≡ settled old.items (change_by s)) → OnOk r (lists_in (set vs s.net new) ≡ with_stop b s (lists_in vs))
settles-in b s vs old new (Ok x) of_it within eo en =
    let read : old.items ≡ get_or (lists_in vs) s.net [] = ap (λ (v : Vec Change Global). v.items) eo ∙ sym (get_or-map (λ (v : Vec Change Global). v.items) vs s.net old [] within) in
    rw (eq_true (s.net / 256) b of_it)
    (map-set (λ (v : Vec Change Global). v.items) vs s.net new ∙ ap (set (lists_in vs) s.net) (en ∙ ap (λ cs. settled cs (change_by s)) read))
settles-in b s vs old new (Err e) of_it within eo en = tt

-- a list of vectors in which one has more room
pub room-same : (vs : List (Vec Change Global)) (n : ℕ) (old new : Vec Change Global) → n < length vs → old ≡ get_or vs n old → new.items ≡ old.items → lists_in (set vs n new) ≡ lists_in vs
room-same vs n old new within eo en =
    let read : old.items ≡ get_or (lists_in vs) n [] = ap (λ (v : Vec Change Global). v.items) eo ∙ sym (get_or-map (λ (v : Vec Change Global). v.items) vs n old [] within) in
    map-set (λ (v : Vec Change Global). v.items) vs n new ∙ ap (set (lists_in vs) n) (en ∙ read) ∙ set-get_or (lists_in vs) n []

lists-count : (vs : List (Vec Change Global)) → length (lists_in vs) ≡ length vs
lists-count vs = length-map vs (λ (v : Vec Change Global). v.items)

-- nothing waits for lists of no change
pub none-are : (vs : List (Vec Stop Global)) (ls : List (Vec Change Global)) (m n : ℕ) → waiting_in vs ≡ replicate {A = List Stop} m [] → lists_in ls ≡ replicate {A = List Change} n [] → with_waiting 0 (waiting_in vs) (lists_in ls) ≡ replicate {A = List Change} n []
none-are vs ls m n ew el = rw (ew, el) (nothing-waits m n)

pub none-counted : (vs : List (Vec Stop Global)) (m : ℕ) → waiting_in vs ≡ replicate {A = List Stop} m [] → length vs ≡ m
none-counted vs m e = sym (waiting-length vs) ∙ ap length e ∙ length-replicate m []

pub empty-counted : (ls : List (Vec Change Global)) (n : ℕ) → lists_in ls ≡ replicate {A = List Change} n [] → length ls ≡ n
empty-counted ls n e = sym (lists-count ls) ∙ ap length e ∙ length-replicate n []

-- a list that contracts see stands among the vectors
pub listed-in : (vs : List (Vec Stop Global)) (ls : List (Vec Change Global)) (number : ℕ) → number < length (with_waiting 0 (waiting_in vs) (lists_in ls)) → number < length ls
listed-in vs ls number l = omega (arith, l, lists-length (waiting_in vs) (lists_in ls), lists-count ls)

pub bundle-stands : (number lists bundles : ℕ) → number < lists → lists ≤ 256 * bundles → number / 256 < bundles
bundle-stands number lists bundles l b = omega (arith, l, b)

-- a change that waits is one of its list
pub waited-in : (vs new : List (Vec Stop Global)) (ls : List (Vec Change Global)) (number : ℕ) (c : Change) → number < length ls → number / 256 < length vs → waiting_in new ≡ with_change number c (waiting_in vs)
    → with_waiting 0 (waiting_in new) (lists_in ls) ≡ set (with_waiting 0 (waiting_in vs) (lists_in ls)) number (settled (get_or (with_waiting 0 (waiting_in vs) (lists_in ls)) number []) c)
waited-in vs new ls number c l b e = rw e (waits (waiting_in vs) (lists_in ls) number c (rw (lists-count ls) l) (rw (waiting-length vs) b))

-- a bundle has taken in what waited for it
pub taken-in : (vs : List (Vec Stop Global)) (ls put : List (Vec Change Global)) (b : ℕ) (old new : Vec Stop Global) → b < length vs → old ≡ get_or vs b old → new.items ≡ [] → lists_in put ≡ with_stops b old.items (lists_in ls)
    → with_waiting 0 (waiting_in (set vs b new)) (lists_in put) ≡ with_waiting 0 (waiting_in vs) (lists_in ls)
taken-in vs ls put b old new l eo en e =
    let read : old.items ≡ get_or (waiting_in vs) b [] = ap (λ (v : Vec Stop Global). v.items) eo ∙ sym (get_or-map (λ (v : Vec Stop Global). v.items) vs b old [] l) in
    rw (map-set (λ (v : Vec Stop Global). v.items) vs b new, en, e, read) (taken-here b (waiting_in vs) (lists_in ls) (rw (waiting-length vs) l))

-- the last bundle has taken in what waited for it
pub last-taken-in : (vs front : List (Vec Stop Global)) (last : Vec Stop Global) (ls put : List (Vec Change Global)) → vs ≡ front ++ last ∷ [] → lists_in put ≡ with_stops (length front) last.items (lists_in ls)
    → with_waiting 0 (waiting_in front) (lists_in put) ≡ with_waiting 0 (waiting_in vs) (lists_in ls)
last-taken-in vs front last ls put e h =
    rw (e, map-append (λ (v : Vec Stop Global). v.items) front (last ∷ []), h, ← (waiting-length front)) (taken-last (waiting_in front) last.items (lists_in ls))

-- no bundle is left
pub none-left : (vs : List (Vec Stop Global)) (ls : List (Vec Change Global)) → vs ≡ [] → with_waiting 0 (waiting_in vs) (lists_in ls) ≡ lists_in ls
none-left vs ls e = rw e (none-waits (lists_in ls))
