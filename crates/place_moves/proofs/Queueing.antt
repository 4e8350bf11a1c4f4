-- Laws of a queue that was read up to a mark.
use Rattle.std.proofs.Common.{◌≡◌, ◌∙◌, ℕ, zero, suc, ◌+◌, ◌<◌, ◌≤◌, inl, inr, Bool, true, false, not, cond, List, [], ◌∷◌, ◌++◌, map, refl, ap, sym, subst, arith, nat_lt, nat_le}
use Rattle.std.specs.List.{filter, AllByRecursion}
use Rattle.std.proofs.lemmas.Bool.{cases_lt, ltb-true, ltb-false, leb-true}
use Rattle.std.proofs.lemmas.List.{append_assoc}
use Rattle.std.proofs.lemmas.List.Elements.{filter-append}
use Rattle.warp_stores.specs.Words.{Move}
use Rattle.warp_stores.specs.Dated.{Dated, at, before, standing, RisesFrom, Rises}
use Rattle.warp_stores.specs.Least.{least_of}
use Rattle.warp_stores.specs.Delays.{Delayed, true_before, true_since, queue_at, least_due, with_made, read_by, cut_since, back_from}
use Rattle.warp_stores.proofs.Telling.{lt_true, lt_false, le_true, le_false}
use Rattle.place_moves.specs.Journals.{IsReadTo}
use Rattle.place_moves.proofs.Filtering.{filter-all, filter-none, every-append, every-weaker, every-kept, every-any, every-filter}
use Rattle.place_moves.proofs.Moving.{every-dated}

-- ---- words whose times never fall

module _ {T : Type 0} where
  pub rises-weaker : (low low' : ℕ) (ds : List (Dated T)) → low ≤ low' → RisesFrom low' ds → RisesFrom low ds
  rises-weaker low low' [] l r = tt
  rises-weaker low low' (d ∷ ds) l r = (omega (arith, r.0), r.1)

  rises-low : (low low' : ℕ) (ds : List (Dated T)) → low ≤ low' → RisesFrom low' ds → AllByRecursion (λ d. low ≤ d.0) ds
  rises-low low low' [] l r = tt
  rises-low low low' (d ∷ ds) l r = let here : low ≤ d.0 = omega (arith, r.0) in (here, rises-low low d.0 ds here r.1)

  pub rises-filter : (test : Dated T → Bool) (low : ℕ) (ds : List (Dated T)) → RisesFrom low ds → RisesFrom low (filter test ds)
  rises-filter test low [] r = tt
  rises-filter test low (d ∷ ds) r = go (test d) (rises-filter test d.0 ds r.1)
    where
      go : (b : Bool) → RisesFrom d.0 (filter test ds) → RisesFrom low (cond b (d ∷ filter test ds) (filter test ds))
      go true k = (r.0, k)
      go false k = rises-weaker low d.0 (filter test ds) r.0 k

  pub rises-append : (low t : ℕ) (xs ys : List (Dated T)) → RisesFrom low xs → AllByRecursion (λ d. d.0 ≤ t) xs → low ≤ t → RisesFrom t ys → RisesFrom low (xs ++ ys)
  rises-append low t [] ys r a l k = rises-weaker low t ys l k
  rises-append low t (x ∷ xs) ys r a l k = (r.0, rises-append x.0 t xs ys r.1 a.1 a.0 k)

  pub rises-left : (low : ℕ) (xs ys : List (Dated T)) → RisesFrom low (xs ++ ys) → RisesFrom low xs
  rises-left low [] ys r = tt
  rises-left low (x ∷ xs) ys r = (r.0, rises-left x.0 xs ys r.1)

  pub rises-right : (low : ℕ) (xs ys : List (Dated T)) → RisesFrom low (xs ++ ys) → RisesFrom low ys
  rises-right low [] ys r = r
  rises-right low (x ∷ xs) ys r = rises-weaker low x.0 ys r.0 (rises-right x.0 xs ys r.1)

  pub rises-at : (t : ℕ) (ws : List T) → RisesFrom t (at t ws)
  rises-at t [] = tt
  rises-at t (w ∷ ws) = (omega arith, rises-at t ws)

  -- what passes a test that later times fail, and then what doesn't, is all
  pub rises-split : (test other : ℕ → Bool) → ((s : ℕ) → other s ≡ not (test s)) → ((s s' : ℕ) → s ≤ s' → test s ≡ false → test s' ≡ false) → (low : ℕ) (ds : List (Dated T)) → RisesFrom low ds
      → filter (λ (d : Dated T). test d.0) ds ++ filter (λ (d : Dated T). other d.0) ds ≡ ds
  rises-split test other flips stays low [] r = refl
  rises-split test other flips stays low (d ∷ ds) r =
      ap (λ (b : Bool). cond (test d.0) (d ∷ filter (λ (e : Dated T). test e.0) ds) (filter (λ (e : Dated T). test e.0) ds) ++ cond b (d ∷ filter (λ (e : Dated T). other e.0) ds) (filter (λ (e : Dated T). other e.0) ds)) (flips d.0)
      ∙ go (test d.0) refl (rises-split test other flips stays d.0 ds r.1)
    where
      behind : test d.0 ≡ false → AllByRecursion (λ (e : Dated T). test e.0 ≡ false) ds
      behind h = every-weaker (λ (e : Dated T). d.0 ≤ e.0) (λ (e : Dated T). test e.0 ≡ false) ds (λ e l. stays d.0 e.0 l h) (rises-low d.0 d.0 ds (omega arith) r.1)

      go : (b : Bool) → test d.0 ≡ b → filter (λ (e : Dated T). test e.0) ds ++ filter (λ (e : Dated T). other e.0) ds ≡ ds
          → cond b (d ∷ filter (λ (e : Dated T). test e.0) ds) (filter (λ (e : Dated T). test e.0) ds) ++ cond (not b) (d ∷ filter (λ (e : Dated T). other e.0) ds) (filter (λ (e : Dated T). other e.0) ds) ≡ d ∷ ds
      go true h k = ap (λ (xs : List (Dated T)). d ∷ xs) k
      go false h k =
          ap (λ (xs : List (Dated T)). xs ++ (d ∷ filter (λ (e : Dated T). other e.0) ds)) (filter-none (λ (e : Dated T). test e.0) ds (behind h))
          ∙ ap (λ (xs : List (Dated T)). d ∷ xs) (filter-all (λ (e : Dated T). other e.0) ds (every-weaker (λ (e : Dated T). test e.0 ≡ false) (λ (e : Dated T). other e.0 ≡ true) ds (λ e m. flips e.0 ∙ ap not m) (behind h)))

pub every-passes : {X : Type 0} (p : X → Bool) (Q : X → Type 0) (xs : List X) → ((x : X) → p x ≡ true → Q x) → AllByRecursion Q (filter p xs)
every-passes {X} p Q xs f = every-kept p (λ (x : X). Unit {0}) Q xs (λ x e u. f x e) (every-any (λ (x : X). Unit {0}) xs (λ x. tt))

-- ---- what comes true before a time and what doesn't

flips_at : (delay t s : ℕ) → nat_le t (s + delay) ≡ not (nat_lt (s + delay) t)
flips_at delay t s = elim (cases_lt (s + delay) t) [
  | inl l ↦ le_false t (s + delay) l ∙ sym (ap not (lt_true (s + delay) t l))
  | inr g ↦ le_true t (s + delay) g ∙ sym (ap not (lt_false (s + delay) t g))
]

stays_at : (delay t s s' : ℕ) → s ≤ s' → nat_lt (s + delay) t ≡ false → nat_lt (s' + delay) t ≡ false
stays_at delay t s s' l h = let late : t ≤ s + delay = ltb-false (s + delay) t h in lt_false (s' + delay) t (omega arith)

pub true_split : (delay t low : ℕ) (ds : List (Dated Move)) → RisesFrom low ds → true_before delay t ds ++ true_since delay t ds ≡ ds
true_split delay t low ds r = rises-split (λ s. nat_lt (s + delay) t) (λ s. nat_le t (s + delay)) (flips_at delay t) (stays_at delay t) low ds r

module _ (mark : ℕ) (queue : Delayed) (r : IsReadTo mark queue) where
  -- what is ahead is what comes true at the mark or later
  pub ahead-is : true_since queue.delay mark (standing queue.line) ≡ queue.line.ahead
  ahead-is =
      let P : Dated Move → Bool = λ d. nat_le mark (d.0 + queue.delay) in
      filter-append P queue.line.read queue.line.ahead
      ∙ ap (λ (ws : List (Dated Move)). ws ++ filter P queue.line.ahead)
      (filter-none P queue.line.read (every-weaker (λ d. d.0 + queue.delay < mark) (λ d. P d ≡ false) queue.line.read (λ d l. le_false mark (d.0 + queue.delay) l) r.read))
      ∙ filter-all P queue.line.ahead (every-weaker (λ d. mark ≤ d.0 + queue.delay) (λ d. P d ≡ true) queue.line.ahead (λ d l. le_true mark (d.0 + queue.delay) l) r.ahead)

  -- nothing is forgotten of what comes true at the mark or later
  pub since-floor : (floor : ℕ) → floor ≤ mark → true_since queue.delay floor queue.line.ahead ≡ queue.line.ahead
  since-floor floor l =
      let P : Dated Move → Bool = λ d. nat_le floor (d.0 + queue.delay) in
      filter-all P queue.line.ahead (every-weaker (λ d. mark ≤ d.0 + queue.delay) (λ d. P d ≡ true) queue.line.ahead (λ d g. le_true floor (d.0 + queue.delay) (omega arith)) r.ahead)

  -- a step reads what is due and puts words behind
  pub standing-step : (ws : List Move) → standing (with_made mark ws (read_by mark queue)).line ≡ standing queue.line ++ at mark ws
  standing-step ws =
      let early : List (Dated Move) = true_before queue.delay (suc mark) queue.line.ahead in
      let late : List (Dated Move) = true_since queue.delay (suc mark) queue.line.ahead in
      append_assoc queue.line.read early (late ++ at mark ws)
      ∙ ap (λ (xs : List (Dated Move)). queue.line.read ++ xs)
      (sym (append_assoc early late (at mark ws)) ∙ ap (λ (xs : List (Dated Move)). xs ++ at mark ws) (true_split queue.delay (suc mark) 0 queue.line.ahead (rises-right 0 queue.line.read queue.line.ahead r.rises)))
      ∙ sym (append_assoc queue.line.read queue.line.ahead (at mark ws))

  pub read-step : (ws : List Move) → AllByRecursion (λ d. d.0 < mark) (standing queue.line) → AllByRecursion (λ w. suc mark ≤ mark + queue.delay) ws → IsReadTo (suc mark) (with_made mark ws (read_by mark queue))
  read-step ws made later =
      record {
        read =
            every-append (λ d. d.0 + queue.delay < suc mark) queue.line.read (true_before queue.delay (suc mark) queue.line.ahead)
            (every-weaker (λ d. d.0 + queue.delay < mark) (λ d. d.0 + queue.delay < suc mark) queue.line.read (λ d l. omega arith) r.read)
            (every-passes (λ (d : Dated Move). nat_lt (d.0 + queue.delay) (suc mark)) (λ d. d.0 + queue.delay < suc mark) queue.line.ahead (λ d e. ltb-true (d.0 + queue.delay) (suc mark) e));
        ahead =
            every-append (λ d. suc mark ≤ d.0 + queue.delay) (true_since queue.delay (suc mark) queue.line.ahead) (at mark ws)
            (every-passes (λ (d : Dated Move). nat_le (suc mark) (d.0 + queue.delay)) (λ d. suc mark ≤ d.0 + queue.delay) queue.line.ahead (λ d e. leb-true (suc mark) (d.0 + queue.delay) e))
            (every-dated (λ d. suc mark ≤ d.0 + queue.delay) mark ws later);
        rises =
            subst Rises (sym (standing-step ws))
            (rises-append 0 mark (standing queue.line) (at mark ws) r.rises (every-weaker (λ d. d.0 < mark) (λ d. d.0 ≤ mark) (standing queue.line) (λ d l. omega arith) made) (omega arith) (rises-at mark ws));
      }

  -- nothing is due: it is read up to the next time too
  pub read-quiet : AllByRecursion (λ d. suc mark ≤ d.0 + queue.delay) queue.line.ahead → IsReadTo (suc mark) queue
  read-quiet later =
      record {
        read = every-weaker (λ d. d.0 + queue.delay < mark) (λ d. d.0 + queue.delay < suc mark) queue.line.read (λ d l. omega arith) r.read;
        ahead = later;
        rises = r.rises;
      }

  -- what was made from a time on is cut off, and what comes true from then on is ahead again
  pub standing-back : (t : ℕ) → standing (back_from t (cut_since t queue)).line ≡ before t (standing queue.line)
  standing-back t =
      let kept : List (Dated Move) = before t queue.line.read in
      let P : Dated Move → Bool = λ d. nat_lt d.0 t in
      sym (append_assoc (true_before queue.delay t kept) (true_since queue.delay t kept) (before t queue.line.ahead))
      ∙ ap (λ (xs : List (Dated Move)). xs ++ before t queue.line.ahead) (true_split queue.delay t 0 kept (rises-filter P 0 queue.line.read (rises-left 0 queue.line.read queue.line.ahead r.rises)))
      ∙ sym (filter-append P queue.line.read queue.line.ahead)

  pub read-back : (t : ℕ) → t ≤ mark → IsReadTo t (back_from t (cut_since t queue))
  read-back t l =
      let P : Dated Move → Bool = λ d. nat_lt d.0 t in
      let kept : List (Dated Move) = before t queue.line.read in
      record {
        read = every-passes (λ (d : Dated Move). nat_lt (d.0 + queue.delay) t) (λ d. d.0 + queue.delay < t) kept (λ d e. ltb-true (d.0 + queue.delay) t e);
        ahead =
            every-append (λ d. t ≤ d.0 + queue.delay) (true_since queue.delay t kept) (before t queue.line.ahead)
            (every-passes (λ (d : Dated Move). nat_le t (d.0 + queue.delay)) (λ d. t ≤ d.0 + queue.delay) kept (λ d e. leb-true t (d.0 + queue.delay) e))
            (every-filter P (λ d. t ≤ d.0 + queue.delay) queue.line.ahead (every-weaker (λ d. mark ≤ d.0 + queue.delay) (λ d. t ≤ d.0 + queue.delay) queue.line.ahead (λ d g. omega arith) r.ahead));
        rises = subst Rises (sym (standing-back t)) (rises-filter P 0 (standing queue.line) r.rises);
      }

-- ---- when the next words come true

least-low : (m : ℕ) (ts : List (Dated Move)) (delay : ℕ) → m ≤ least_of (map (λ d. d.0 + delay) ts) → AllByRecursion (λ d. m ≤ d.0 + delay) ts
least-low m [] delay l = tt
least-low m (d ∷ ds) delay l = (omega arith, least-low m ds delay (omega arith))

-- before the least time at which a word of some queues comes true, none of any does
pub none_due : (m : ℕ) (queues : List Delayed) → m ≤ least_due queues → (number : ℕ) → AllByRecursion (λ d. m ≤ d.0 + (queue_at queues number).delay) (queue_at queues number).line.ahead
none_due m [] l number = tt
none_due m (q ∷ qs) l zero = least-low m q.line.ahead q.delay (omega arith)
none_due m (q ∷ qs) l (suc number) = none_due m qs (omega arith) number
