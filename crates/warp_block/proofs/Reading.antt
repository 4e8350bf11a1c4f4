-- Lists of the logs of nets that other blocks read.
use Rattle.std.proofs.Common.{◌≡◌, ◌∙◌, ℕ, ◌+◌, ◌-◌, ◌<◌, ◌==◌, ◌||◌, inl, inr, Bool, true, false, cond, not, List, [], ◌∷◌, ◌++◌, map, take, length, get_or, refl, ap, sym, arith}
use Rattle.std.specs.List.{All, filter, list_any}
use Rattle.std.proofs.lemmas.List.Elements.{All-nil, All-cons, All-head, All-tail}
use Rattle.std.proofs.lemmas.Bool.{cases_lt, true≢false, eqb-true}
use Rattle.std.proofs.lemmas.List.{append-nil, get_or_past, length-append}
use Rattle.gate_values.specs.declared.logic.Change.{Change}
use Rattle.warp_stores.specs.Words.{Move}
use Rattle.warp_stores.specs.Dated.{Dated, undated}
use Rattle.warp_stores.specs.Lists.{words_at, changes_at, AreLonger, AreShorter}
use Rattle.place_moves.proofs.Filtering.{filter-absorb}
use Rattle.warp_part.specs.Portion.{Portion, IsPortion}
use Rattle.warp_block.specs.Reads.{is_read, HaveRead}
use Rattle.warp_block.specs.Inner.Reads.{AreReadLonger}
use Rattle.warp_block.proofs.Shortening.{front, as_many}

-- a place that is read is there
read_there : (p : Portion) → IsPortion p → (place : ℕ) → is_read p place ≡ true → place < length p.nets
read_there p portion place read = elim (cases_lt place (length p.nets)) [
  | inl l ↦ l
  | inr far ↦
      (let none : get_or p.readers place [] ≡ [] = get_or_past p.readers place [] (let many = portion.readers in omega (arith, far, many)) in
      absurd (true≢false (sym read ∙ ap (λ (rs : List ℕ). not (length rs == 0)) none)))
]

-- words of places that are read say all of such a place
read_says : (p : Portion) (place : ℕ) → is_read p place ≡ true → (ds : List (Dated Move)) → changes_at place (filter (λ (d : Dated Move). is_read p d.1.place) ds) ≡ changes_at place ds
read_says p place read ds =
    ap (map (λ (d : Dated Move). record { time = d.0; value = d.1.after }))
    (filter-absorb (λ (d : Dated Move). d.1.place == place) (λ (d : Dated Move). is_read p d.1.place) ds
    (λ d e. (let same : d.1.place ≡ place = eqb-true d.1.place place e in ap (is_read p) same ∙ read)))

-- where none is of a place that is read, none is of one such place
none_says : (p : Portion) (place : ℕ) → is_read p place ≡ true → (ds : List (Dated Move)) → list_any (λ (w : Move). is_read p w.place) (undated ds) ≡ false → changes_at place ds ≡ []
none_says p place read [] none = refl
none_says p place read (d ∷ ds) none = go (d.1.place == place) (λ e. eqb-true d.1.place place e) (is_read p d.1.place) refl none (λ rest. none_says p place read ds rest)
  where
    go : (b : Bool) → (b ≡ true → d.1.place ≡ place) → (r : Bool) → is_read p d.1.place ≡ r → (r || list_any (λ (w : Move). is_read p w.place) (undated ds)) ≡ false
        → (list_any (λ (w : Move). is_read p w.place) (undated ds) ≡ false → changes_at place ds ≡ [])
        → ◌≡◌ {A = List Change} (map (λ (e : Dated Move). record { time = e.0; value = e.1.after }) (cond b (d ∷ filter (λ (e : Dated Move). e.1.place == place) ds) (filter (λ (e : Dated Move). e.1.place == place) ds))) []
    go true same true r none rest = absurd (true≢false none)
    go true same false r none rest = absurd (true≢false (sym read ∙ ap (is_read p) (sym (same refl)) ∙ r))
    go false same true r none rest = absurd (true≢false none)
    go false same false r none rest = rest none

-- behind the lists stand words of places that are read
pub read_longer : (p : Portion) → IsPortion p → (ds : List (Dated Move)) (old new : List (List Change)) → length old ≡ length p.nets
    → AreLonger (filter (λ (d : Dated Move). is_read p d.1.place) ds) old new → AreReadLonger p ds old new
read_longer p portion ds old new many longer = record {
  same = longer.same;
  each = λ place read.
      (let there : place < length p.nets = read_there p portion place read in
      longer.each place (omega (arith, there, many)) ∙ ap (λ (cs : List Change). get_or old place [] ++ cs) (read_says p place read ds));
}

-- or none of them is of such a place
pub read_same : (p : Portion) (ds : List (Dated Move)) (old : List (List Change)) → list_any (λ (w : Move). is_read p w.place) (undated ds) ≡ false → AreReadLonger p ds old old
read_same p ds old none = record {
  same = refl;
  each = λ place read. sym (ap (λ (cs : List Change). get_or old place [] ++ cs) (none_says p place read ds none) ∙ append-nil (get_or old place []));
}

-- lists that get longer as the logs do
pub have_longer : (p : Portion) → IsPortion p → (ds : List (Dated Move)) (logs more old new : List (List Change)) → length logs ≡ length p.nets → HaveRead p logs old → AreLonger ds logs more
    → AreReadLonger p ds old new → HaveRead p more new
have_longer p portion ds logs more old new many have longer read = record {
  many = read.same ∙ have.many;
  each = λ place is.
      (let there : place < length p.nets = read_there p portion place is in
      read.each place is ∙ ap (λ (cs : List Change). cs ++ changes_at place ds) (have.each place is) ∙ sym (longer.each place (omega (arith, there, many))));
}

-- lists that get shorter as the logs do
pub have_shorter : (p : Portion) → IsPortion p → (ds : List (Dated Move)) (less logs old new : List (List Change)) → length less ≡ length p.nets → HaveRead p logs old → AreLonger ds less logs
    → AreShorter (undated ds) old new → HaveRead p less new
have_shorter p portion ds less logs old new many have longer shorter = record {
  many = shorter.same ∙ have.many;
  each = λ place is.
      (let there : place < length p.nets = read_there p portion place is in
      let grown : get_or old place [] ≡ get_or less place [] ++ changes_at place ds = have.each place is ∙ longer.each place (omega (arith, there, many)) in
      let long : length (get_or old place []) ≡ length (get_or less place []) + length (changes_at place ds) = ap length grown ∙ length-append (get_or less place []) (changes_at place ds) in
      let words : length (changes_at place ds) ≡ length (words_at place (undated ds)) = as_many place ds in
      let count : length (get_or old place []) - length (words_at place (undated ds)) ≡ length (get_or less place []) = omega (arith, long, words) in
      shorter.each place (let e = have.many in omega (arith, there, e))
      ∙ ap (λ (k : ℕ). take k (get_or old place [])) count
      ∙ ap (take (length (get_or less place []))) grown
      ∙ front (get_or less place []) (changes_at place ds));
}

-- all logs are those that are read, too
pub have_all : (p : Portion) (logs lists : List (List Change)) → length lists ≡ length p.nets → lists ≡ logs → HaveRead p logs lists
have_all p logs lists many same = record { many = many; each = λ place is. ap (λ (ls : List (List Change)). get_or ls place []) same }

-- words that are kept are of places that there are, if all are
pub all_kept : (n : ℕ) (f : ℕ → Bool) (ds : List (Dated Move)) → All (λ (d : Dated Move). d.1.place < n) ds → All (λ (d : Dated Move). d.1.place < n) (filter (λ (d : Dated Move). f d.1.place) ds)
all_kept n f [] all = All-nil (λ (d : Dated Move). d.1.place < n)
all_kept n f (d ∷ ds) all = go (f d.1.place) (all_kept n f ds (All-tail (λ (e : Dated Move). e.1.place < n) d ds all))
  where
    go : (b : Bool) → All (λ (e : Dated Move). e.1.place < n) (filter (λ (e : Dated Move). f e.1.place) ds)
        → All (λ (e : Dated Move). e.1.place < n) (cond b (d ∷ filter (λ (e : Dated Move). f e.1.place) ds) (filter (λ (e : Dated Move). f e.1.place) ds))
    go true rest = All-cons (λ (e : Dated Move). e.1.place < n) d (filter (λ (e : Dated Move). f e.1.place) ds) (All-head (λ (e : Dated Move). e.1.place < n) d ds all) rest
    go false rest = rest
