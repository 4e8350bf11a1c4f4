-- Lists that words lengthen and shorten.
use Rattle.std.proofs.Common.{◌≡◌, ◌≢◌, ℕ, suc, Bool, true, false, eqb, ◌+◌, ◌-◌, ◌<◌, ◌≤◌, ◌⊎◌, inl, inr, Result, Ok, Err, List, [], ◌∷◌, ◌++◌, length, get_or, set, take, drop, map, refl, ap, sym, ◌∙◌, subst, arith, append_assoc, length-append}
use Rattle.std.specs.List.{All, between, filter}
use Rattle.std.proofs.lemmas.Bool.{eq-eqb}
use Rattle.std.proofs.lemmas.List.Elements.{All-nil, All-cons, All-head, All-tail, All-take, All-drop, filter-append}
use Rattle.std.proofs.lemmas.List.Edits.{length-between}
use Rattle.std.proofs.lemmas.List.{append-nil, map-append, map-set, length-set, length-map, get_or-set_same, get_or-set_other, take-take, take_at, take_all, take_more, length-take-le, same_lists, get_or_default, get_or-map, set-get_or}
use Rattle.std.proofs.lemmas.Grind.{common_steps}
use Rattle.std.specs.Prelude.{Vec}
use Rattle.std.specs.Result.{OnErr}
use Rattle.std.specs.declared.alloc.Global.{Global}
use Rattle.gate_values.specs.declared.logic.Change.{Change}
use Rattle.warp_stores.specs.Words.{Move}
use Rattle.warp_stores.specs.Lists.{words_at, changes_at, AreLonger, AreShorter}
use Rattle.warp_stores.specs.Dated.{Dated, at, undated}
use Rattle.warp_stores.specs.Shown.StopBits.{Tally}
use Rattle.warp_stores.specs.Inner.Stops.{total}
use Rattle.warp_stores.specs.Shown.Stops.{dated}
use Rattle.warp_stores.specs.Inner.Lists.{ArePut}
use Rattle.warp_stores.specs.Shown.Lists.{lists_of}
use Rattle.warp_stores.proofs.Parts.{take_between}
use Rattle.warp_stores.proofs.Stops.{total-append, total-take, total-more}
use Rattle.warp_stores.proofs.Telling.{dated-append, undated-dated}
use Rattle.warp_stores.proofs.Growing.{one_stop}

pub eq_cases : (i j : ℕ) → (i ≡ j) ⊎ (i ≢ j)
eq_cases i j = grind arith

eqb_same : (i : ℕ) → eqb i i ≡ true
eqb_same i = grind (arith, common_steps)

pub eqb_other : (i j : ℕ) → i ≢ j → eqb i j ≡ false
eqb_other i j h = grind (arith, common_steps)

pub words_at-append : (place : ℕ) (a b : List Move) → words_at place (a ++ b) ≡ words_at place a ++ words_at place b
words_at-append place a b = filter-append (λ w. eqb w.place place) a b

pub changes_at-append : (place : ℕ) (a b : List (Dated Move)) → changes_at place (a ++ b) ≡ changes_at place a ++ changes_at place b
changes_at-append place a b =
    let change : Dated Move → Change = λ d. record { time = d.0; value = d.1.after } in
    let test : Dated Move → Bool = λ d. eqb d.1.place place in
    ap (map change) (filter-append test a b) ∙ map-append change (filter test a) (filter test b)

-- no word lengthens nothing
pub longer_none : (old : List (List Change)) → AreLonger [] old old
longer_none old = record { same = refl; each = λ place h. sym (append-nil (get_or old place [])) }

pub shorter_none : (old : List (List Change)) → AreShorter [] old old
shorter_none old = record { same = refl; each = λ place h. sym (take_all (length (get_or old place []) - 0) (get_or old place []) (omega arith)) }

-- words, and then others
pub AreLonger-append : (a b : List (Dated Move)) (x y z : List (List Change)) → AreLonger a x y → AreLonger b y z → AreLonger (a ++ b) x z
AreLonger-append a b x y z first second =
    let same : length y ≡ length x = first.same in
    record {
      same = second.same ∙ same;
      each = λ place h.
          second.each place (omega arith)
          ∙ ap (λ (l : List Change). l ++ changes_at place b) (first.each place h)
          ∙ append_assoc (get_or x place []) (changes_at place a) (changes_at place b)
          ∙ ap (λ (l : List Change). get_or x place [] ++ l) (sym (changes_at-append place a b));
    }

-- a word more
pub longer_more : (time : ℕ) (ws : List Move) (i : ℕ) (w : Move) (x y z : List (List Change)) → i < length ws → w ≡ get_or ws i w → AreLonger (at time (take i ws)) x y → AreLonger ((time, w) ∷ []) y z → AreLonger (at time (take (i + 1) ws)) x z
longer_more time ws i w x y z l is first second =
    let more : at time (take (i + 1) ws) ≡ at time (take i ws) ++ (time, w) ∷ [] =
    ap (at time) (take_more ws i w l) ∙ map-append {B = Dated Move} (λ v. (time, v)) (take i ws) (get_or ws i w ∷ []) ∙ ap (λ (v : Move). at time (take i ws) ++ (time, v) ∷ []) (sym is) in
    subst (λ (ds : List (Dated Move)). AreLonger ds x z) (sym more) (AreLonger-append (at time (take i ws)) ((time, w) ∷ []) x y z first second)

-- how many words there are of a place
length-changes_at : (place : ℕ) (ds : List (Dated Move)) → length (changes_at place ds) ≡ length (words_at place (undated ds))
length-changes_at place [] = refl
length-changes_at place (d ∷ ds) = elim (eq_cases d.1.place place) [
  | inl e ↦ rw (eq-eqb d.1.place place e) (ap suc (length-changes_at place ds))
  | inr n ↦ rw (eqb_other d.1.place place n) (length-changes_at place ds)
]

take_twice : {X : Type 0} (xs : List X) (a b : ℕ) → take (length (take (length xs - a) xs) - b) (take (length xs - a) xs) ≡ take (length xs - (a + b)) xs
take_twice xs a b =
    let len : length (take (length xs - a) xs) ≡ length xs - a = length-take-le (length xs - a) xs (omega arith) in
    let e : length (take (length xs - a) xs) - b ≡ length xs - (a + b) = omega arith in
    rw e (take-take (length xs - (a + b)) (length xs - a) xs (omega arith))

pub AreShorter-append : (a b : List Move) (x y z : List (List Change)) → AreShorter a x y → AreShorter b y z → AreShorter (a ++ b) x z
AreShorter-append a b x y z first second =
    let same : length y ≡ length x = first.same in
    record {
      same = second.same ∙ same;
      each = λ place h.
          let many : length (words_at place (a ++ b)) ≡ length (words_at place a) + length (words_at place b) = ap length (words_at-append place a b) ∙ length-append (words_at place a) (words_at place b) in
          second.each place (omega arith)
          ∙ ap (λ (l : List Change). take (length l - length (words_at place b)) l) (first.each place h)
          ∙ take_twice (get_or x place []) (length (words_at place a)) (length (words_at place b))
          ∙ ap (λ (n : ℕ). take (length (get_or x place []) - n) (get_or x place [])) (sym many);
    }

-- a word more
pub shorter_more : (ws : List Move) (i : ℕ) (w : Move) (x y z : List (List Change)) → i < length ws → w ≡ get_or ws i w → AreShorter (take i ws) x y → AreShorter (w ∷ []) y z → AreShorter (take (i + 1) ws) x z
shorter_more ws i w x y z l is first second =
    let more : take (i + 1) ws ≡ take i ws ++ w ∷ [] = take_more ws i w l ∙ ap (λ (v : Move). take i ws ++ v ∷ []) (sym is) in
    subst (λ (vs : List Move). AreShorter vs x z) (sym more) (AreShorter-append (take i ws) (w ∷ []) x y z first second)

-- what words lengthened and then shortened is as it was
pub shorter_again : (put : List (Dated Move)) (words : List Move) (old mid new : List (List Change)) → undated put ≡ words → AreLonger put old mid → AreShorter words mid new → new ≡ old
shorter_again put words old mid new are longer shorter =
    let same : length mid ≡ length old = longer.same in
    let same' : length new ≡ length mid = shorter.same in
    let each : (k : ℕ) → k < length old → get_or new k [] ≡ get_or old k [] = λ k h.
    let is : get_or mid k [] ≡ get_or old k [] ++ changes_at k put = longer.each k h in
    let many : length (changes_at k put) ≡ length (words_at k words) = length-changes_at k put ∙ ap (λ (ws : List Move). length (words_at k ws)) are in
    let len : length (get_or mid k []) - length (words_at k words) ≡ length (get_or old k []) = (let e : length (get_or mid k []) ≡ length (get_or old k []) + length (changes_at k put) = ap length is ∙ length-append (get_or old k []) (changes_at k put) in omega arith) in
    shorter.each k (omega arith) ∙ rw (len, is) (take_at (get_or old k []) (changes_at k put) (length (get_or old k [])) refl) in
    same_lists new old (omega arith) (λ k d h. get_or_default new k d [] h ∙ each k (omega arith) ∙ get_or_default old k [] d (omega arith))

pub undated-at : (time : ℕ) (ws : List Move) → undated (at time ws) ≡ ws
undated-at time [] = refl
undated-at time (w ∷ ws) = ap (λ (vs : List Move). w ∷ vs) (undated-at time ws)

-- words of a time that were put are so many of them
pub put_at : (time : ℕ) (ws : List Move) (count : ℕ) (old new : List (List Change)) → AreLonger (at time (take count ws)) old new → ArePut count ws old new
put_at time ws count old new longer = record { put = at time (take count ws); are = undated-at time (take count ws); longer = longer }

take_add : (a b : ℕ) (ws : List Move) → take (a + b) ws ≡ take a ws ++ take b (drop a ws)
take_add a b ws = take_between ws a (a + b) (omega arith) ∙ (let e : (a + b) - a ≡ b = omega arith in rw e refl)

-- the words of stops, and some of the next one's
pub put_more : (ss : List Tally) (ws : List Move) (time count many more : ℕ) (us : List Move) (old mid new : List (List Change)) → total ss ≡ count → count + many ≤ length ws → us ≡ between count (count + many) ws → more ≤ length us → AreLonger (dated ss (take count ws)) old mid → AreLonger (at time (take more us)) mid new → ArePut (count + more) ws old new
put_more ss ws time count many more us old mid new sum within is few first second =
    let len : length us ≡ many = ap length is ∙ (omega (arith, length-between ws count (count + many) within)) in
    let e : (count + many) - count ≡ many = omega arith in
    let some : take more us ≡ take more (drop count ws) = ap (take more) (is ∙ rw e refl) ∙ take-take more many (drop count ws) (omega arith) in
    record {
      put = dated ss (take count ws) ++ at time (take more us);
      are = map-append (λ (d : Dated Move). d.1) (dated ss (take count ws)) (at time (take more us))
          ∙ rw (undated-dated ss (take count ws) (sum ∙ sym (length-take-le count ws (omega arith))), undated-at time (take more us), some) (sym (take_add count more ws));
      longer = AreLonger-append (dated ss (take count ws)) (at time (take more us)) old mid new first second;
    }

-- so many words fit
pub stop_fits : (ss : List Tally) (i count : ℕ) (s : Tally) → i < length ss → s ≡ get_or ss i s → total (take i ss) ≡ count → count + s.count ≤ total ss
stop_fits ss i count s l is sum =
    let more : total (take (i + 1) ss) ≡ total (take i ss) + (get_or ss i s).count = total-more ss i s l in
    let n : (get_or ss i s).count ≡ s.count = ap (λ (x : Tally). x.count) (sym is) in
    omega (arith, total-take ss (i + 1))

-- what holds of all holds of a part
pub all_part : {X : Type 0} (P : X → Type 0) (xs : List X) (i j : ℕ) → All P xs → All P (between i j xs)
all_part P xs i j all = All-take P (j - i) (drop i xs) (All-drop P i xs all)

pub err_within : (ws us : List Move) (count many more : ℕ) → count + many ≤ length ws → us ≡ between count (count + many) ws → more ≤ length us → count + more ≤ length ws
err_within ws us count many more within is few = let len : length us ≡ (count + many) - count = ap length is ∙ length-between ws count (count + many) within in omega arith

-- what one stop more tells
pub stop_told : (ss : List Tally) (ws us : List Move) (i count : ℕ) (s : Tally) → i < length ss → s ≡ get_or ss i s → total (take i ss) ≡ count → total ss ≡ length ws → us ≡ between count (count + s.count) ws
    → (total (take (i + 1) ss) ≡ count + s.count) × (dated (take (i + 1) ss) (take (count + s.count) ws) ≡ dated (take i ss) (take count ws) ++ at s.time us)
stop_told ss ws us i count s l is many whole are =
    let more : take (i + 1) ss ≡ take i ss ++ s ∷ [] = take_more ss i s l ∙ ap (λ (x : Tally). take i ss ++ x ∷ []) (sym is) in
    let sum : total (take (i + 1) ss) ≡ count + s.count = (let e : total (take (i + 1) ss) ≡ total (take i ss) + (s.count + 0) = ap total more ∙ total-append (take i ss) (s ∷ []) in omega arith) in
    let fits : count + s.count ≤ length ws = omega (arith, total-take ss (i + 1)) in
    let len : length us ≡ s.count = ap length are ∙ (omega (arith, length-between ws count (count + s.count) fits)) in
    let parts : take (count + s.count) ws ≡ take count ws ++ us = take_between ws count (count + s.count) (omega arith) ∙ ap (λ (vs : List Move). take count ws ++ vs) (sym are) in
    let told : dated (take (i + 1) ss) (take (count + s.count) ws) ≡ dated (take i ss) (take count ws) ++ at s.time us =
    rw (more, parts) (dated-append (take i ss) (s ∷ []) (take count ws) us (many ∙ sym (length-take-le count ws (omega arith)))
    ∙ ap (λ (ds : List (Dated Move)). dated (take i ss) (take count ws) ++ ds) (one_stop s.time s.count us len)) in
    (sum, told)

-- the words of one stop more
pub longer_stop : (ss : List Tally) (ws us : List Move) (i count : ℕ) (s : Tally) (old mid new : List (List Change)) → i < length ss → s ≡ get_or ss i s → total (take i ss) ≡ count → total ss ≡ length ws → us ≡ between count (count + s.count) ws → AreLonger (dated (take i ss) (take count ws)) old mid → AreLonger (at s.time us) mid new
    → (total (take (i + 1) ss) ≡ count + s.count) × AreLonger (dated (take (i + 1) ss) (take (count + s.count) ws)) old new
longer_stop ss ws us i count s old mid new l is many whole are first second =
    let told = stop_told ss ws us i count s l is many whole are in
    (told.0, subst (λ (ds : List (Dated Move)). AreLonger ds old new) (sym told.1) (AreLonger-append (dated (take i ss) (take count ws)) (at s.time us) old mid new first second))

-- words of places within stand at times within
pub within_undated : (n : ℕ) (ss : List Tally) (ws : List Move) → total ss ≡ length ws → All (λ d. d.1.place < n) (dated ss ws) → All (λ w. w.place < n) ws
within_undated n ss ws whole all = subst (λ (vs : List Move). All (λ w. w.place < n) vs) (undated-dated ss ws whole) (All-undated n (dated ss ws) all)
  where
    All-undated : (n : ℕ) (ds : List (Dated Move)) → All (λ d. d.1.place < n) ds → All (λ w. w.place < n) (undated ds)
    All-undated n [] all = All-nil (λ (w : Move). w.place < n)
    All-undated n (d ∷ ds) all = let P : Dated Move → Type 0 = λ e. e.1.place < n in All-cons (λ (w : Move). w.place < n) d.1 (undated ds) (All-head P d ds all) (All-undated n ds (All-tail P d ds all))

-- one list has one change more
pub longer_one : (time : ℕ) (w : Move) (old : List (List Change)) → w.place < length old → AreLonger ((time, w) ∷ []) old (set old w.place (get_or old w.place [] ++ record { time = time; value = w.after } ∷ []))
longer_one time w old within =
    record {
      same = length-set old w.place (get_or old w.place [] ++ record { time = time; value = w.after } ∷ []);
      each = λ place h.
          elim (eq_cases w.place place) [
            | inl e ↦ subst (λ (p : ℕ). get_or (set old w.place (get_or old w.place [] ++ record { time = time; value = w.after } ∷ [])) p [] ≡ get_or old p [] ++ changes_at p ((time, w) ∷ [])) e
                (get_or-set_same old w.place (get_or old w.place [] ++ record { time = time; value = w.after } ∷ []) [] within ∙ rw (eqb_same w.place) refl)
            | inr n ↦ (let other : place ≢ w.place = λ e. n (sym e) in
                get_or-set_other old w.place place (get_or old w.place [] ++ record { time = time; value = w.after } ∷ []) [] other ∙ rw (eqb_other w.place place n) (sym (append-nil (get_or old place []))))
          ];
    }

-- one list has one change less
pub shorter_one : (w : Move) (old : List (List Change)) → w.place < length old → AreShorter (w ∷ []) old (set old w.place (take (length (get_or old w.place []) - 1) (get_or old w.place [])))
shorter_one w old within =
    record {
      same = length-set old w.place (take (length (get_or old w.place []) - 1) (get_or old w.place []));
      each = λ place h.
          elim (eq_cases w.place place) [
            | inl e ↦ subst (λ (p : ℕ). get_or (set old w.place (take (length (get_or old w.place []) - 1) (get_or old w.place []))) p [] ≡ take (length (get_or old p []) - length (words_at p (w ∷ []))) (get_or old p [])) e
                (get_or-set_same old w.place (take (length (get_or old w.place []) - 1) (get_or old w.place [])) [] within ∙ rw (eqb_same w.place) refl)
            | inr n ↦ (let other : place ≢ w.place = λ e. n (sym e) in
                get_or-set_other old w.place place (take (length (get_or old w.place []) - 1) (get_or old w.place [])) [] other
                ∙ rw (eqb_other w.place place n) (sym (take_all (length (get_or old place []) - 0) (get_or old place []) (omega arith))))
          ];
    }

-- a list among those of vectors
list_at : (vs : List (Vec Change Global)) (i : ℕ) (v : Vec Change Global) → i < length vs → v ≡ get_or vs i v → get_or (lists_of vs) i [] ≡ v.items
list_at vs i v l e = get_or-map (λ (x : Vec Change Global). x.items) vs i v [] l ∙ ap (λ (x : Vec Change Global). x.items) (sym e)

lists_of-set : (vs : List (Vec Change Global)) (i : ℕ) (v : Vec Change Global) → lists_of (set vs i v) ≡ set (lists_of vs) i v.items
lists_of-set vs i v = map-set (λ (x : Vec Change Global). x.items) vs i v

-- a vector among others is pushed
pub longer_push : (time : ℕ) (w : Move) (vs : List (Vec Change Global)) (i : ℕ) (v v' : Vec Change Global) → i ≡ w.place → w.place < length vs → v ≡ get_or vs i v → v'.items ≡ v.items ++ record { time = time; value = w.after } ∷ [] → AreLonger ((time, w) ∷ []) (lists_of vs) (lists_of (set vs i v'))
longer_push time w vs i v v' at l e is =
    let there : get_or (lists_of vs) w.place [] ≡ v.items = ap (λ (k : ℕ). get_or (lists_of vs) k []) (sym at) ∙ list_at vs i v (omega arith) e in
    let new : lists_of (set vs i v') ≡ set (lists_of vs) w.place (get_or (lists_of vs) w.place [] ++ record { time = time; value = w.after } ∷ []) =
    lists_of-set vs i v' ∙ ap (λ (k : ℕ). set (lists_of vs) k v'.items) at ∙ ap (set (lists_of vs) w.place) (is ∙ ap (λ (xs : List Change). xs ++ record { time = time; value = w.after } ∷ []) (sym there)) in
    subst (λ (xs : List (List Change)). AreLonger ((time, w) ∷ []) (lists_of vs) xs) (sym new) (longer_one time w (lists_of vs) (omega (arith, length-map vs (λ (x : Vec Change Global). x.items))))

-- the last of a vector among others is popped
pub shorter_pop : (w : Move) (vs : List (Vec Change Global)) (i n : ℕ) (v v' : Vec Change Global) → i ≡ w.place → w.place < length vs → v ≡ get_or vs i v → n ≡ length v.items → v'.items ≡ take (n - 1) v.items → AreShorter (w ∷ []) (lists_of vs) (lists_of (set vs i v'))
shorter_pop w vs i n v v' at l e len is =
    let there : get_or (lists_of vs) w.place [] ≡ v.items = ap (λ (k : ℕ). get_or (lists_of vs) k []) (sym at) ∙ list_at vs i v (omega arith) e in
    let cut : v'.items ≡ take (length (get_or (lists_of vs) w.place []) - 1) (get_or (lists_of vs) w.place []) = is ∙ ap (λ (k : ℕ). take (k - 1) v.items) len ∙ ap (λ (xs : List Change). take (length xs - 1) xs) (sym there) in
    let new : lists_of (set vs i v') ≡ set (lists_of vs) w.place (take (length (get_or (lists_of vs) w.place []) - 1) (get_or (lists_of vs) w.place [])) =
    lists_of-set vs i v' ∙ ap (λ (k : ℕ). set (lists_of vs) k v'.items) at ∙ ap (set (lists_of vs) w.place) cut in
    subst (λ (xs : List (List Change)). AreShorter (w ∷ []) (lists_of vs) xs) (sym new) (shorter_one w (lists_of vs) (omega (arith, length-map vs (λ (x : Vec Change Global). x.items))))

-- a vector among others is as it was
pub same_again : (vs : List (Vec Change Global)) (i : ℕ) (v v' : Vec Change Global) → i < length vs → v ≡ get_or vs i v → v'.items ≡ v.items → lists_of (set vs i v') ≡ lists_of vs
same_again vs i v v' l e is =
    lists_of-set vs i v' ∙ ap (set (lists_of vs) i) (is ∙ sym (list_at vs i v l e)) ∙ set-get_or (lists_of vs) i []

-- what is so is so on an error
pub on_err_fact : {T E P : Type 0} (r : Result T E) → P → OnErr r P
on_err_fact (Ok x) p = tt
on_err_fact (Err e) p = p
