-- Lists that get the words of one span of places after those of another.
use Rattle.std.proofs.Common.{◌≡◌, ◌≢◌, ℕ, true, false, ◌+◌, ◌<◌, ◌≤◌, ◌⊎◌, inl, inr, List, [], ◌∷◌, ◌++◌, length, get_or, set, take, drop, map, refl, ap, sym, ◌∙◌, subst, arith, append_assoc}
use Rattle.std.specs.Prelude.{◌&&◌, nat_le, nat_lt, Vec}
use Rattle.std.specs.List.{All, between}
use Rattle.std.specs.declared.alloc.Global.{Global}
use Rattle.std.proofs.lemmas.Bool.{cases_Bool, eq-eqb, true≢false, false≢true}
use Rattle.std.proofs.lemmas.Bool.Decides.{nat_tests}
use Rattle.std.proofs.lemmas.List.Elements.{All-nil, All-cons, All-head, All-tail, All-take, All-drop, filter-append}
use Rattle.std.proofs.lemmas.List.{append-nil, map-set, length-map, length-set, get_or-set_same, get_or-set_other, get_or-map, get_or_default, take_at, take_more, map-append, same_lists}
use Rattle.std.proofs.lemmas.Grind.{common_steps}
use Rattle.gate_values.specs.declared.logic.Change.{Change}
use Rattle.warp_stores.specs.Words.{Move}
use Rattle.warp_stores.specs.Lists.{changes_at, AreLonger}
use Rattle.warp_stores.specs.Dated.{Dated, at}
use Rattle.warp_stores.specs.Shown.StopBits.{Tally}
use Rattle.warp_stores.specs.Inner.Stops.{total}
use Rattle.warp_stores.specs.Shown.Stops.{dated}
use Rattle.warp_stores.specs.Shown.Lists.{lists_of}
use Rattle.warp_stores.specs.Inner.Spans.{words_within, AreGrown, AreCut}
use Rattle.warp_stores.proofs.Listing.{eq_cases, eqb_other, AreLonger-append, stop_told}

-- the test of a place
inside : (from to p : ℕ) → from ≤ p → p < to → (nat_le from p && nat_lt p to) ≡ true
inside from to p l r = grind (arith, nat_tests, common_steps, l, r)

before_span : (from to p : ℕ) → p < from → (nat_le from p && nat_lt p to) ≡ false
before_span from to p l = grind (arith, nat_tests, common_steps, l)

behind_span : (from to p : ℕ) → to ≤ p → (nat_le from p && nat_lt p to) ≡ false
behind_span from to p l = grind (arith, nat_tests, common_steps, l)

-- words of a place that the test takes, or doesn't, among those that it takes
taken : (place from to : ℕ) (ds : List (Dated Move)) → (nat_le from place && nat_lt place to) ≡ true → changes_at place (words_within from to ds) ≡ changes_at place ds
taken place from to [] h = refl
taken place from to (d ∷ ds) h = elim (cases_Bool (nat_le from d.1.place && nat_lt d.1.place to)) [
  | inl yes' ↦ elim (eq_cases d.1.place place) [
    | inl e ↦ rw (yes', eq-eqb d.1.place place e) (ap (λ (cs : List Change). record { time = d.0; value = d.1.after } ∷ cs) (taken place from to ds h))
    | inr n ↦ rw (yes', eqb_other d.1.place place n) (taken place from to ds h)
  ]
  | inr no' ↦ elim (eq_cases d.1.place place) [
    | inl e ↦ absurd (let b : true ≡ false = sym h ∙ ap (λ (p : ℕ). nat_le from p && nat_lt p to) (sym e) ∙ no' in true≢false b)
    | inr n ↦ rw (no', eqb_other d.1.place place n) (taken place from to ds h)
  ]
]

left_out : (place from to : ℕ) (ds : List (Dated Move)) → (nat_le from place && nat_lt place to) ≡ false → changes_at place (words_within from to ds) ≡ []
left_out place from to [] h = refl
left_out place from to (d ∷ ds) h = elim (cases_Bool (nat_le from d.1.place && nat_lt d.1.place to)) [
  | inl yes' ↦ elim (eq_cases d.1.place place) [
    | inl e ↦ absurd (let b : false ≡ true = sym h ∙ ap (λ (p : ℕ). nat_le from p && nat_lt p to) (sym e) ∙ yes' in false≢true b)
    | inr n ↦ rw (yes', eqb_other d.1.place place n) (left_out place from to ds h)
  ]
  | inr no' ↦ rw no' (left_out place from to ds h)
]

-- a span, and then the next one
pub longer_spans : (from to : ℕ) (ds : List (Dated Move)) (x y z : List (List Change)) → from ≤ to → AreLonger (words_within 0 from ds) x y → AreLonger (words_within from to ds) y z → AreLonger (words_within 0 to ds) x z
longer_spans from to ds x y z order first second =
    let same : length y ≡ length x = first.same in
    record {
      same = second.same ∙ same;
      each = λ place h.
          let put : get_or z place [] ≡ get_or x place [] ++ (changes_at place (words_within 0 from ds) ++ changes_at place (words_within from to ds)) =
          second.each place (omega arith)
          ∙ ap (λ (l : List Change). l ++ changes_at place (words_within from to ds)) (first.each place h)
          ∙ append_assoc (get_or x place []) (changes_at place (words_within 0 from ds)) (changes_at place (words_within from to ds)) in
          put ∙ ap (λ (l : List Change). get_or x place [] ++ l) (parts place);
    }
  where
    sides : (place : ℕ) → (place < from) ⊎ (((from ≤ place) × (place < to)) ⊎ (to ≤ place))
    sides place = grind arith

    parts : (place : ℕ) → changes_at place (words_within 0 from ds) ++ changes_at place (words_within from to ds) ≡ changes_at place (words_within 0 to ds)
    parts place = elim (sides place) [
      | inl low ↦ rw (taken place 0 from ds (inside 0 from place (omega arith) low), left_out place from to ds (before_span from to place low), taken place 0 to ds (inside 0 to place (omega arith) (omega arith))) (append-nil (changes_at place ds))
      | inr (inl mid) ↦ rw (left_out place 0 from ds (behind_span 0 from place mid.0), taken place from to ds (inside from to place mid.0 mid.1), taken place 0 to ds (inside 0 to place (omega arith) mid.1)) refl
      | inr (inr high) ↦ rw (left_out place 0 from ds (behind_span 0 from place (omega arith)), left_out place from to ds (behind_span from to place high), left_out place 0 to ds (behind_span 0 to place high)) refl
    ]

-- all places lie below the end
pub within_all : (n to : ℕ) (ds : List (Dated Move)) → n ≤ to → All (λ d. d.1.place < n) ds → words_within 0 to ds ≡ ds
within_all n to [] h all = refl
within_all n to (d ∷ ds) h all =
    let P : Dated Move → Type 0 = λ e. e.1.place < n in
    let first : d.1.place < n = All-head P d ds all in
    rw (inside 0 to d.1.place (omega arith) (omega arith)) (ap (λ (xs : List (Dated Move)). d ∷ xs) (within_all n to ds h (All-tail P d ds all)))

-- a word more
pub within_more : (from to time : ℕ) (ws : List Move) (i : ℕ) (w : Move) (x y z : List (List Change)) → i < length ws → w ≡ get_or ws i w → AreLonger (words_within from to (at time (take i ws))) x y → AreLonger (words_within from to (at time (w ∷ []))) y z → AreLonger (words_within from to (at time (take (i + 1) ws))) x z
within_more from to time ws i w x y z l is first second =
    let more : at time (take (i + 1) ws) ≡ at time (take i ws) ++ at time (w ∷ []) =
    ap (at time) (take_more ws i w l ∙ ap (λ (v : Move). take i ws ++ v ∷ []) (sym is)) ∙ map-append {B = Dated Move} (λ v. (time, v)) (take i ws) (w ∷ []) in
    let parts : words_within from to (at time (take (i + 1) ws)) ≡ words_within from to (at time (take i ws)) ++ words_within from to (at time (w ∷ [])) =
    ap (words_within from to) more ∙ filter-append (λ (d : Dated Move). nat_le from d.1.place && nat_lt d.1.place to) (at time (take i ws)) (at time (w ∷ [])) in
    subst (λ (ds : List (Dated Move)). AreLonger ds x z) (sym parts) (AreLonger-append (words_within from to (at time (take i ws))) (words_within from to (at time (w ∷ []))) x y z first second)

-- no place lies below 0
pub within_none : (ds : List (Dated Move)) → words_within 0 0 ds ≡ []
within_none [] = refl
within_none (d ∷ ds) = rw (behind_span 0 0 d.1.place (omega arith)) (within_none ds)

pub within-append : (from to : ℕ) (a b : List (Dated Move)) → words_within from to (a ++ b) ≡ words_within from to a ++ words_within from to b
within-append from to a b = filter-append (λ d. nat_le from d.1.place && nat_lt d.1.place to) a b

-- lists that words lengthen have grown
pub grown_of : (ds : List (Dated Move)) (old new : List (List Change)) → AreLonger ds old new → AreGrown old new
grown_of ds old new longer = record { same = longer.same; more = λ place. changes_at place ds; each = longer.each }

pub grown_then : (x y z : List (List Change)) → AreGrown x y → AreGrown y z → AreGrown x z
grown_then x y z first second =
    let same : length y ≡ length x = first.same in
    record {
      same = second.same ∙ same;
      more = λ place. first.more place ++ second.more place;
      each = λ place h. second.each place (omega arith) ∙ ap (λ (l : List Change). l ++ second.more place) (first.each place h) ∙ append_assoc (get_or x place []) (first.more place) (second.more place);
    }

-- lists that have grown are cut to what they were
pub cut_again : (lens : List ℕ) (old mid new : List (List Change)) → lens ≡ map length old → AreGrown old mid → AreCut (length lens) lens mid new → new ≡ old
cut_again lens old mid new are grown cut =
    let same : length mid ≡ length old = grown.same in
    let same' : length new ≡ length mid = cut.same in
    let many : length lens ≡ length old = ap length are ∙ length-map old length in
    let each : (k : ℕ) → k < length old → get_or new k [] ≡ get_or old k [] = λ k h.
    let len : get_or lens k 0 ≡ length (get_or old k []) = ap (λ (ls : List ℕ). get_or ls k 0) are ∙ get_or-map length old k [] 0 h in
    cut.cut k (omega arith) ∙ rw (len, grown.each k h) (take_at (get_or old k []) (grown.more k) (length (get_or old k [])) refl) in
    same_lists new old (omega arith) (λ k d h. get_or_default new k d [] h ∙ each k (omega arith) ∙ get_or_default old k [] d (omega arith))

-- the words of one stop more, of a span
pub longer_stop_within : (from to : ℕ) (ss : List Tally) (ws us : List Move) (i count : ℕ) (s : Tally) (old mid new : List (List Change)) → i < length ss → s ≡ get_or ss i s → total (take i ss) ≡ count → total ss ≡ length ws → us ≡ between count (count + s.count) ws → AreLonger (words_within from to (dated (take i ss) (take count ws))) old mid → AreLonger (words_within from to (at s.time us)) mid new
    → (total (take (i + 1) ss) ≡ count + s.count) × AreLonger (words_within from to (dated (take (i + 1) ss) (take (count + s.count) ws))) old new
longer_stop_within from to ss ws us i count s old mid new l is many whole are first second =
    let told = stop_told ss ws us i count s l is many whole are in
    let a : List (Dated Move) = dated (take i ss) (take count ws) in (
      told.0,
      subst (λ (ds : List (Dated Move)). AreLonger ds old new) (sym (ap (words_within from to) told.1 ∙ within-append from to a (at s.time us)))
          (AreLonger-append (words_within from to a) (words_within from to (at s.time us)) old mid new first second),
    )

-- nothing is cut at first
pub cut_none : (lens : List ℕ) (old : List (List Change)) → AreCut 0 lens old old
cut_none lens old = record { same = refl; cut = λ place h. absurd (omega arith); rest = λ place h. refl }

-- one vector more is cut
pub cut_more : (vs : List (Vec Change Global)) (lens : List ℕ) (k n : ℕ) (v v' : Vec Change Global) (old : List (List Change)) → k < length vs → v ≡ get_or vs k v → n ≡ get_or lens k 0 → v'.items ≡ take n v.items → AreCut k lens old (lists_of vs) → AreCut (k + 1) lens old (lists_of (set vs k v'))
cut_more vs lens k n v v' old l e many is c =
    let items : Vec Change Global → List Change = λ x. x.items in
    let len : length (lists_of vs) ≡ length vs = length-map vs items in
    let there : get_or (lists_of vs) k [] ≡ v.items = get_or-map items vs k v [] l ∙ ap items (sym e) in
    let new : lists_of (set vs k v') ≡ set (lists_of vs) k v'.items = map-set items vs k v' in
    let same : length (lists_of vs) ≡ length old = c.same in
    let here : get_or (set (lists_of vs) k v'.items) k [] ≡ take (get_or lens k 0) (get_or old k []) =
    get_or-set_same (lists_of vs) k v'.items [] (omega arith) ∙ is ∙ ap (λ (m : ℕ). take m v.items) many ∙ ap (take (get_or lens k 0)) (sym there ∙ c.rest k (omega arith)) in
    let done : AreCut (k + 1) lens old (set (lists_of vs) k v'.items) = record {
      same = length-set (lists_of vs) k v'.items ∙ same;
      cut = λ place h. elim (eq_cases place k) [
        | inl q ↦ subst (λ (p : ℕ). get_or (set (lists_of vs) k v'.items) p [] ≡ take (get_or lens p 0) (get_or old p [])) (sym q) here
        | inr q ↦ get_or-set_other (lists_of vs) k place v'.items [] q ∙ c.cut place (omega (arith, q))
      ];
      rest = λ place h. (let q : place ≢ k = λ x. absurd (omega (arith, x, h)) in get_or-set_other (lists_of vs) k place v'.items [] q ∙ c.rest place (omega arith));
    } in
    subst (λ (xs : List (List Change)). AreCut (k + 1) lens old xs) (sym new) done

-- the words of stops lie below the end
pub within_dated : (n to : ℕ) (ss : List Tally) (ws : List Move) → n ≤ to → All (λ w. w.place < n) ws → words_within 0 to (dated ss ws) ≡ dated ss ws
within_dated n to ss ws h all = within_all n to (dated ss ws) h (places ss ws all)
  where
    at_once : (time : ℕ) (us : List Move) (ds : List (Dated Move)) → All (λ w. w.place < n) us → All (λ d. d.1.place < n) ds → All (λ d. d.1.place < n) (at time us ++ ds)
    at_once time [] ds a b = b
    at_once time (u ∷ us) ds a b =
        let P : Move → Type 0 = λ w. w.place < n in
        All-cons (λ (d : Dated Move). d.1.place < n) (time, u) (at time us ++ ds) (All-head P u us a) (at_once time us ds (All-tail P u us a) b)

    places : (ss : List Tally) (ws : List Move) → All (λ w. w.place < n) ws → All (λ d. d.1.place < n) (dated ss ws)
    places [] ws a = All-nil (λ (d : Dated Move). d.1.place < n)
    places (s ∷ ss) ws a =
        let P : Move → Type 0 = λ w. w.place < n in
        at_once s.time (take s.count ws) (dated ss (drop s.count ws)) (All-take P s.count ws a) (places ss (drop s.count ws) (All-drop P s.count ws a))
