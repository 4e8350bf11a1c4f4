-- Queues of words that come true after a delay: when they are due, and loops over them.
use Rattle.std.proofs.Common.{◌≡◌, ◌≢◌, ℕ, zero, suc, Bool, true, false, cond, true≢false, is_none, ◌+◌, ◌<◌, ◌≤◌, ◌⊎◌, inl, inr, nat_lt, nat_le, min, Some, None, List, [], ◌∷◌, ◌++◌, length, get_or, set, take, drop, map, replicate, refl, ap, sym, ◌∙◌, subst, arith, append_assoc, get_or-set_other}
use Rattle.std.specs.List.{flat_map, AllByRecursion}
use Rattle.std.proofs.lemmas.Bool.{leb-true}
use Rattle.std.proofs.lemmas.Option.{none-some, same_Some}
use Rattle.std.proofs.lemmas.List.{append-nil, map-append, map-set, length-set, length-map, get_or-map, get_or-set_same, get_or_default, set-get_or, take_more, take_all, drop_all, same_lists}
use Rattle.std.proofs.lemmas.List.Elements.{filter-append}
use Rattle.std.proofs.lemmas.Grind.{flat_map-append}
use Rattle.warp_stores.specs.declared.least.TheConstants.{NEVER}
use Rattle.warp_stores.specs.Words.{Move}
use Rattle.warp_stores.specs.Dated.{Dated, Line, at, undated, first_time, last_from, last_time, standing, RisesFrom, Rises}
use Rattle.warp_stores.specs.Least.{least_of}
use Rattle.warp_stores.specs.Delays.{Delayed, true_before, true_since, queue_at, empty_after, due_of, with_made, due_by, read_by, back_from, told_since, IsReadUpTo, AreReadUpTo, IsForgotten}
use Rattle.warp_stores.specs.Inner.Reading.{AreSomeRead}
use Rattle.warp_stores.proofs.Telling.{lt_true, lt_false, le_true, le_false}
use Rattle.warp_stores.proofs.Growing.{last_from-append}
use Rattle.warp_stores.proofs.Times.{last_from-low}
use Rattle.warp_stores.proofs.Mixing.{mixed, mixed-all, mixed-set, mixed-skip, get_or-mixed, flat_map-skip}

-- when words come true
abbrev dues : ℕ → List (Dated Move) → List ℕ
dues delay words = map (λ d. d.0 + delay) words

least_of-most : (ts : List ℕ) → least_of ts ≤ NEVER
least_of-most [] = omega arith
least_of-most (t ∷ ts) = omega (arith, least_of-most ts)

pub least_of-append : (a b : List ℕ) → least_of (a ++ b) ≡ min (least_of a) (least_of b)
least_of-append [] b = omega (arith, least_of-most b)
least_of-append (t ∷ a) b = omega (arith, least_of-append a b)

-- what isn't due by a time
true_before-none : (time delay : ℕ) (words : List (Dated Move)) → time < least_of (dues delay words) → true_before delay (suc time) words ≡ []
true_before-none time delay [] h = refl
true_before-none time delay (d ∷ ds) h = rw (lt_false (d.0 + delay) (suc time) (omega arith)) (true_before-none time delay ds (omega arith))

true_since-all : (time delay : ℕ) (words : List (Dated Move)) → time < least_of (dues delay words) → true_since delay (suc time) words ≡ words
true_since-all time delay [] h = refl
true_since-all time delay (d ∷ ds) h = rw (le_true (suc time) (d.0 + delay) (omega arith)) (ap (λ (xs : List (Dated Move)). d ∷ xs) (true_since-all time delay ds (omega arith)))

none_due : (time : ℕ) (queue : Delayed) → time < due_of queue → due_by time queue ≡ []
none_due time queue h = ap undated (true_before-none time queue.delay queue.line.ahead h)

same_read : (time : ℕ) (queue : Delayed) → time < due_of queue → read_by time queue ≡ queue
same_read time queue h = rw (true_before-none time queue.delay queue.line.ahead h, true_since-all time queue.delay queue.line.ahead h, append-nil queue.line.read) refl

-- a queue whose words rise is due when its first word ahead is
RisesFrom-weaker : {T : Type 0} (low low' : ℕ) (ds : List (Dated T)) → low' ≤ low → RisesFrom low ds → RisesFrom low' ds
RisesFrom-weaker low low' [] h r = tt
RisesFrom-weaker low low' (d ∷ ds) h r = (omega (arith, r.0), r.1)

RisesFrom-behind : {T : Type 0} (low : ℕ) (a : List (Dated T)) (d : Dated T) (ds : List (Dated T)) → RisesFrom low (a ++ d ∷ ds) → RisesFrom d.0 ds
RisesFrom-behind low [] d ds r = r.1
RisesFrom-behind low (x ∷ a) d ds r = RisesFrom-behind x.0 a d ds r.1

least_of-rises : (delay low : ℕ) (ds : List (Dated Move)) → RisesFrom low ds → low + delay ≤ NEVER → low + delay ≤ least_of (dues delay ds)
least_of-rises delay low [] r h = h
least_of-rises delay low (d ∷ ds) r h =
    let rest : low + delay ≤ least_of (dues delay ds) = least_of-rises delay low ds (RisesFrom-weaker d.0 low ds r.0 r.1) h in
    omega (arith, r.0)

pub due_first : (delay step : ℕ) (line : Line Move) → Rises (standing line) → Some step ≡ first_time line.ahead → step + delay ≤ NEVER → step + delay ≡ due_of (record { delay = delay; line = line })
due_first delay step line r e h = first line.ahead r e
  where
    first : (ahead : List (Dated Move)) → Rises (line.read ++ ahead) → Some step ≡ first_time ahead → step + delay ≡ least_of (dues delay ahead)
    first [] r e = absurd (none-some step (sym e))
    first (d ∷ ds) r e =
        let same : step ≡ d.0 = same_Some step d.0 e in
        let rest : d.0 + delay ≤ least_of (dues delay ds) = least_of-rises delay d.0 ds (RisesFrom-behind 0 line.read d ds r) (omega arith) in
        omega arith

pub due_none : (delay : ℕ) (line : Line Move) → None ≡ first_time line.ahead → NEVER ≡ due_of (record { delay = delay; line = line })
due_none delay line e = none line.ahead e
  where
    none : (ahead : List (Dated Move)) → None ≡ first_time ahead → NEVER ≡ least_of (dues delay ahead)
    none [] e = refl
    none (d ∷ ds) e = absurd (none-some d.0 e)

-- words that a step made behind others don't come true first
least_of-at : (delay step m : ℕ) (words : List Move) → m ≤ step + delay → m ≤ NEVER → m ≤ least_of (dues delay (at step words))
least_of-at delay step m [] h n = n
least_of-at delay step m (w ∷ ws) h n = omega (arith, least_of-at delay step m ws h n)

pub due_same : (step : ℕ) (words : List Move) (queue : Delayed) → Rises (standing queue.line) → last_time (standing queue.line) ≤ step → is_none (first_time queue.line.ahead) ≡ false → due_of (with_made step words queue) ≡ due_of queue
due_same step words queue r late some = same queue.line.ahead r late some
  where
    same : (ahead : List (Dated Move)) → Rises (queue.line.read ++ ahead) → last_time (queue.line.read ++ ahead) ≤ step → is_none (first_time ahead) ≡ false → least_of (dues queue.delay (ahead ++ at step words)) ≡ least_of (dues queue.delay ahead)
    same [] r late some = absurd (true≢false some)
    same (d ∷ ds) r late some =
        let last : last_from 0 (queue.line.read ++ d ∷ ds) ≡ last_from d.0 ds = last_from-append 0 queue.line.read (d ∷ ds) in
        let low : d.0 ≤ last_from d.0 ds = last_from-low d.0 ds (RisesFrom-behind 0 queue.line.read d ds r) in
        let most : least_of (dues queue.delay (d ∷ ds)) ≤ NEVER = least_of-most (dues queue.delay (d ∷ ds)) in
        let behind : least_of (dues queue.delay (d ∷ ds)) ≤ least_of (dues queue.delay (at step words)) = least_of-at queue.delay step (least_of (dues queue.delay (d ∷ ds))) words (omega arith) most in
        ap least_of (map-append (λ (x : Dated Move). x.0 + queue.delay) (d ∷ ds) (at step words))
        ∙ least_of-append (dues queue.delay (d ∷ ds)) (dues queue.delay (at step words))
        ∙ (omega arith)

-- new queues have nothing due
pub due_empty : (delays : List ℕ) → replicate (length delays) NEVER ≡ map due_of (map empty_after delays)
due_empty [] = refl
due_empty (d ∷ ds) = ap (λ (ts : List ℕ). NEVER ∷ ts) (due_empty ds)

-- one more is told
pub told_more : (queues : List Delayed) (due due' old : List ℕ) (i n : ℕ) (queue : Delayed) → length old ≡ length queues → i < length queues → queue ≡ get_or queues i queue → due ≡ mixed due_of i queues old → n ≡ due_of queue → due' ≡ set due i n → due' ≡ mixed due_of (i + 1) queues old
told_more queues due due' old i n queue same l q e is new =
    new ∙ rw (e, is) (ap (λ (x : Delayed). set (mixed due_of i queues old) i (due_of x)) q ∙ mixed-set due_of i queues old queue same l)

-- one queue has another word ahead first
pub due_set : (queues : List Delayed) (due : List ℕ) (i : ℕ) (queue : Delayed) → due ≡ map due_of queues → set due i (due_of queue) ≡ map due_of (set queues i queue)
due_set queues due i queue e = ap (λ (ts : List ℕ). set ts i (due_of queue)) e ∙ sym (map-set due_of queues i queue)

-- one queue has the same word ahead first
pub due_set_same : (queues : List Delayed) (due : List ℕ) (i : ℕ) (queue queue' : Delayed) → i < length queues → due ≡ map due_of queues → queue ≡ get_or queues i queue → due_of queue' ≡ due_of queue → due ≡ map due_of (set queues i queue')
due_set_same queues due i queue queue' l e q same =
    let there : due_of queue' ≡ get_or (map due_of queues) i 0 = same ∙ ap due_of q ∙ sym (get_or-map due_of queues i queue 0 l) in
    e ∙ sym (map-set due_of queues i queue' ∙ ap (set (map due_of queues) i) there ∙ set-get_or (map due_of queues) i 0)

-- a queue's time among those of all
due_at : (queues : List Delayed) (k : ℕ) → k < length queues → get_or (map due_of queues) k 0 ≡ due_of (queue_at queues k)
due_at queues k l = get_or-map due_of queues k (empty_after 0) 0 l

-- no queue ahead of a place is due by a time
abbrev pub ArePassed : ℕ → List ℕ → ℕ → Type 0
ArePassed time due to = (k : ℕ) → k < to → time < get_or due k 0

-- up to a queue, all that is due is read, and listed
pub record IsTakenTo (time : ℕ) (old queues : List Delayed) (due : List ℕ) (before out : List Move) (place : ℕ) : Type 0 where
  pub within : place ≤ length old
  pub same : length queues ≡ length old
  pub told : due ≡ map due_of queues
  pub passed : ArePassed time due place
  pub done : queues ≡ mixed (read_by time) place old old
  pub words : out ≡ before ++ flat_map (due_by time) (take place old)

pub taken_start : (time : ℕ) (queues : List Delayed) (due : List ℕ) (out : List Move) (to : ℕ) → due ≡ map due_of queues → to ≤ length due → ArePassed time due to → IsTakenTo time queues queues due out out to
taken_start time queues due out to e l passed =
    let within : to ≤ length queues = omega (arith, ap length e, length-map queues due_of) in
    let later : (k : ℕ) → k < to → time < due_of (queue_at queues k) =
    (λ k q. let t : time < get_or due k 0 = passed k q in let d : get_or due k 0 ≡ due_of (queue_at queues k) = ap (λ (ts : List ℕ). get_or ts k 0) e ∙ due_at queues k (omega arith) in omega arith) in
    let none : flat_map (due_by time) (take to queues) ≡ [] = flat_map-skip (due_by time) 0 to queues (empty_after 0) (omega arith) within (λ k p q. none_due time (queue_at queues k) (later k q)) in
    record {
      within = within;
      same = refl;
      told = e;
      passed = passed;
      done = sym (mixed-skip (read_by time) 0 to queues queues (empty_after 0) (empty_after 0) refl (omega arith) within (λ k p q. same_read time (queue_at queues k) (later k q)));
      words = sym (ap (λ (ws : List Move). out ++ ws) none ∙ append-nil out);
    }

-- what is ahead of a queue that was read is due later
read_later : (time : ℕ) (queue : Delayed) → time < NEVER → time < due_of (read_by time queue)
read_later time queue n = later queue.line.ahead
  where
    one : (d : Dated Move) (ds : List (Dated Move)) (b : Bool) → nat_le (suc time) (d.0 + queue.delay) ≡ b → time < least_of (dues queue.delay ds) → time < least_of (dues queue.delay (cond b (d ∷ ds) ds))
    one d ds true e h = omega (arith, leb-true (suc time) (d.0 + queue.delay) e)
    one d ds false e h = h

    later : (ahead : List (Dated Move)) → time < least_of (dues queue.delay (true_since queue.delay (suc time) ahead))
    later [] = n
    later (d ∷ ds) = one d (true_since queue.delay (suc time) ds) (nat_le (suc time) (d.0 + queue.delay)) refl (later ds)

behind_or_not : (a b : ℕ) → (a < b) ⊎ (b ≤ a)
behind_or_not a b = grind arith

same_or_ahead : (a b : ℕ) → a ≤ b → (a < b) ⊎ (a ≡ b)
same_or_ahead a b h = grind arith

pub taken_more : (time : ℕ) (old queues : List Delayed) (due due' : List ℕ) (before out out' words : List Move) (i n to : ℕ) (queue queue' : Delayed) → time < NEVER → IsTakenTo time old queues due before out i → i < length queues → queue ≡ get_or queues i queue
    → words ≡ due_by time queue → out' ≡ out ++ words → queue' ≡ read_by time queue → n ≡ due_of queue' → due' ≡ set due i n → to ≤ length due' → ArePassed time due' to → (to < length due' → get_or due' to 0 ≤ time) → (i + 1 ≤ to) × IsTakenTo time old (set queues i queue') due' before out' to
taken_more time old queues due due' before out out' words i n to queue queue' never was l q listed more is m new lt passed found =
    let same : length queues ≡ length old = was.same in
    let told : due' ≡ map due_of (set queues i queue') = new ∙ ap (set due i) m ∙ due_set queues due i queue' was.told in
    let many : length due' ≡ length old = ap length told ∙ length-map (set queues i queue') due_of ∙ length-set queues i queue' ∙ same in
    let here : n ≡ get_or due' i 0 = sym (ap (λ (ts : List ℕ). get_or ts i 0) new ∙ get_or-set_same due i n 0 (omega (arith, ap length was.told, length-map queues due_of))) in
    let late : time < n = omega (arith, m, ap due_of is, read_later time queue never) in
    let on : i + 1 ≤ to = elim (behind_or_not i to) [
      | inl h ↦ omega arith
      | inr h ↦ (let f : get_or due' to 0 ≤ time = found (omega arith) in elim (same_or_ahead to i h) [
        | inl less ↦ (let other : to ≢ i = omega arith in let t : time < get_or due to 0 = was.passed to less in absurd (omega (arith, ap (λ (ts : List ℕ). get_or ts to 0) new, get_or-set_other due i to n 0 other)))
        | inr e ↦ absurd (omega (arith, ap (λ (k : ℕ). get_or due' k 0) e))
      ])
    ] in
    let within : to ≤ length old = omega arith in
    let there : queue ≡ get_or old i queue = q ∙ ap (λ (xs : List Delayed). get_or xs i queue) was.done ∙ get_or-mixed (read_by time) i i old old queue refl (omega arith) was.within in
    let one : set queues i queue' ≡ mixed (read_by time) (i + 1) old old =
    ap (λ (xs : List Delayed). set xs i queue') was.done
    ∙ ap (set (mixed (read_by time) i old old) i) (is ∙ ap (read_by time) there)
    ∙ mixed-set (read_by time) i old old queue refl (omega arith) in
    let later : (k : ℕ) → i + 1 ≤ k → k < to → time < due_of (queue_at old k) =
    (λ k p r.
    let t : time < get_or due' k 0 = passed k r in
    let d : get_or due' k 0 ≡ due_of (queue_at (set queues i queue') k) = ap (λ (ts : List ℕ). get_or ts k 0) told ∙ due_at (set queues i queue') k (omega (arith, length-set queues i queue')) in
    let s : due_of (queue_at (set queues i queue') k) ≡ due_of (queue_at old k) = ap (λ (xs : List Delayed). due_of (queue_at xs k)) one ∙ ap due_of (get_or-mixed (read_by time) (i + 1) k old old (empty_after 0) refl p (omega arith)) in
    omega arith) in
    let skip : mixed (read_by time) to old old ≡ mixed (read_by time) (i + 1) old old = mixed-skip (read_by time) (i + 1) to old old (empty_after 0) (empty_after 0) refl on within (λ k p r. same_read time (queue_at old k) (later k p r)) in
    let past : flat_map (due_by time) (take to old) ≡ flat_map (due_by time) (take (i + 1) old) = flat_map-skip (due_by time) (i + 1) to old (empty_after 0) on within (λ k p r. none_due time (queue_at old k) (later k p r)) in
    let next : take (i + 1) old ≡ take i old ++ queue ∷ [] = take_more old i queue (omega arith) ∙ ap (λ (x : Delayed). take i old ++ x ∷ []) (sym there) in
    let all : flat_map (due_by time) (take (i + 1) old) ≡ flat_map (due_by time) (take i old) ++ due_by time queue =
    ap (flat_map (due_by time)) next ∙ flat_map-append (due_by time) (take i old) (queue ∷ []) ∙ ap (λ (ws : List Move). flat_map (due_by time) (take i old) ++ ws) (append-nil (due_by time queue)) in (
      on,
      record {
        within = within;
        same = length-set queues i queue' ∙ same;
        told = told;
        passed = passed;
        done = one ∙ sym skip;
        words = more ∙ rw (listed, was.words) (append_assoc before (flat_map (due_by time) (take i old)) (due_by time queue)) ∙ ap (λ (ws : List Move). before ++ ws) (sym (past ∙ all));
      },
    )

-- where all is passed, all is read and listed
pub taken_all : (time : ℕ) (old queues : List Delayed) (due : List ℕ) (before out : List Move) (place : ℕ) → IsTakenTo time old queues due before out place → length queues ≤ place → (queues ≡ map (read_by time) old) × (out ≡ before ++ flat_map (due_by time) old)
taken_all time old queues due before out place t l =
    let same : length queues ≡ length old = t.same in (
      t.done ∙ mixed-all (read_by time) place old old refl (omega arith),
      t.words ∙ ap (λ (qs : List Delayed). before ++ flat_map (due_by time) qs) (take_all place old (omega arith)),
    )

-- some are read
pub taken_some : (time : ℕ) (old queues : List Delayed) (due : List ℕ) (before out : List Move) (place : ℕ) → IsTakenTo time old queues due before out place → AreSomeRead time old queues
taken_some time old queues due before out place t =
    record {
      same = t.same;
      each = λ k. elim (behind_or_not k place) [
        | inl h ↦ inr (ap (λ (qs : List Delayed). queue_at qs k) t.done ∙ made_at place k old h t.within)
        | inr h ↦ inl (ap (λ (qs : List Delayed). queue_at qs k) t.done ∙ get_or-mixed (read_by time) place k old old (empty_after 0) refl h t.within)
      ];
    }
  where
    made_at : (i k : ℕ) (xs : List Delayed) → k < i → i ≤ length xs → queue_at (mixed (read_by time) i xs xs) k ≡ read_by time (queue_at xs k)
    made_at zero k xs h m = absurd (omega arith)
    made_at (suc i) k [] h m = absurd (omega arith)
    made_at (suc i) zero (x ∷ xs) h m = refl
    made_at (suc i) (suc k) (x ∷ xs) h m = made_at i k xs (omega arith) (omega arith)

-- what was read and comes true from a time on is put back
module _ (time : ℕ) (queue : Delayed) (read : IsReadUpTo time queue) where
  abbrev D : Dated Move → ℕ
  D d = d.0 + queue.delay

  before_none : (ds : List (Dated Move)) → AllByRecursion (λ d. time ≤ d.0 + queue.delay) ds → true_before queue.delay time ds ≡ []
  before_none [] h = refl
  before_none (d ∷ ds) h = rw (lt_false (D d) time h.0) (before_none ds h.1)

  before_all : (ds : List (Dated Move)) → AllByRecursion (λ d. d.0 + queue.delay < time) ds → true_before queue.delay time ds ≡ ds
  before_all [] h = refl
  before_all (d ∷ ds) h = rw (lt_true (D d) time h.0) (ap (λ (xs : List (Dated Move)). d ∷ xs) (before_all ds h.1))

  since_none : (ds : List (Dated Move)) → AllByRecursion (λ d. d.0 + queue.delay < time) ds → true_since queue.delay time ds ≡ []
  since_none [] h = refl
  since_none (d ∷ ds) h = rw (le_false time (D d) h.0) (since_none ds h.1)

  -- of what came by a time nothing is before it
  before_early : (ds : List (Dated Move)) → AllByRecursion (λ d. time ≤ d.0 + queue.delay) ds → true_before queue.delay time (true_before queue.delay (suc time) ds) ≡ []
  before_early [] h = refl
  before_early (d ∷ ds) h = go (nat_lt (D d) (suc time)) (before_early ds h.1)
    where
      go : (b : Bool) → true_before queue.delay time (true_before queue.delay (suc time) ds) ≡ [] → true_before queue.delay time (cond b (d ∷ true_before queue.delay (suc time) ds) (true_before queue.delay (suc time) ds)) ≡ []
      go true k = rw (lt_false (D d) time h.0) k
      go false k = k

  since_early : (ds : List (Dated Move)) → AllByRecursion (λ d. time ≤ d.0 + queue.delay) ds → true_since queue.delay time (true_before queue.delay (suc time) ds) ≡ true_before queue.delay (suc time) ds
  since_early [] h = refl
  since_early (d ∷ ds) h = go (nat_lt (D d) (suc time)) (since_early ds h.1)
    where
      go : (b : Bool) → true_since queue.delay time (true_before queue.delay (suc time) ds) ≡ true_before queue.delay (suc time) ds → true_since queue.delay time (cond b (d ∷ true_before queue.delay (suc time) ds) (true_before queue.delay (suc time) ds)) ≡ cond b (d ∷ true_before queue.delay (suc time) ds) (true_before queue.delay (suc time) ds)
      go true k = rw (le_true time (D d) h.0) (ap (λ (xs : List (Dated Move)). d ∷ xs) k)
      go false k = k

  -- what rises parts at a time
  all_later : (low : ℕ) (ds : List (Dated Move)) → RisesFrom low ds → time < low + queue.delay → (true_before queue.delay (suc time) ds ≡ []) × (true_since queue.delay (suc time) ds ≡ ds)
  all_later low [] r h = (refl, refl)
  all_later low (d ∷ ds) r h =
      let later : time < D d = omega (arith, r.0) in
      let rest : (true_before queue.delay (suc time) ds ≡ []) × (true_since queue.delay (suc time) ds ≡ ds) = all_later d.0 ds r.1 later in
      (rw (lt_false (D d) (suc time) (omega arith)) rest.0, rw (le_true (suc time) (D d) (omega arith)) (ap (λ (xs : List (Dated Move)). d ∷ xs) rest.1))

  parts : (low : ℕ) (ds : List (Dated Move)) → RisesFrom low ds → true_before queue.delay (suc time) ds ++ true_since queue.delay (suc time) ds ≡ ds
  parts low [] r = refl
  parts low (d ∷ ds) r = elim (behind_or_not time (D d)) [
    | inl h ↦ (
        let rest : (true_before queue.delay (suc time) ds ≡ []) × (true_since queue.delay (suc time) ds ≡ ds) = all_later d.0 ds r.1 h in
        rw (lt_false (D d) (suc time) (omega arith), le_true (suc time) (D d) (omega arith), rest.0, rest.1) refl)
    | inr h ↦ rw (lt_true (D d) (suc time) (omega arith), le_false (suc time) (D d) (omega arith)) (ap (λ (xs : List (Dated Move)). d ∷ xs) (parts d.0 ds r.1))
  ]

  rises_behind : (low : ℕ) (a ds : List (Dated Move)) → RisesFrom low (a ++ ds) → (l : ℕ) × RisesFrom l ds
  rises_behind low [] ds r = (low, r)
  rises_behind low (x ∷ a) ds r = rises_behind x.0 a ds r.1

  pub back_same : back_from time queue ≡ queue
  back_same = rw (before_all queue.line.read read.read, since_none queue.line.read read.read) refl

  pub back_read : back_from time (read_by time queue) ≡ queue
  back_read =
      let early : List (Dated Move) = true_before queue.delay (suc time) queue.line.ahead in
      let late : List (Dated Move) = true_since queue.delay (suc time) queue.line.ahead in
      let first : true_before queue.delay time (queue.line.read ++ early) ≡ queue.line.read =
      filter-append (λ (d : Dated Move). nat_lt (d.0 + queue.delay) time) queue.line.read early
      ∙ rw (before_all queue.line.read read.read, before_early queue.line.ahead read.ahead) (append-nil queue.line.read) in
      let behind : true_since queue.delay time (queue.line.read ++ early) ≡ early =
      filter-append (λ (d : Dated Move). nat_le time (d.0 + queue.delay)) queue.line.read early
      ∙ rw (since_none queue.line.read read.read) (since_early queue.line.ahead read.ahead) in
      let rises : (l : ℕ) × RisesFrom l queue.line.ahead = rises_behind 0 queue.line.read queue.line.ahead read.rises in
      rw (first, behind, parts rises.0 queue.line.ahead rises.1) refl

-- some that were read are put back
pub some_back : (time : ℕ) (old new : List Delayed) → AreReadUpTo time old → AreSomeRead time old new → map (back_from time) new ≡ old
some_back time old new read some =
    same_lists (map (back_from time) new) old (length-map new (back_from time) ∙ some.same)
    (λ k d h.
    let within : k < length new = omega (arith, length-map new (back_from time)) in
    let there : k < length old = omega (arith, some.same) in
    get_or-map (back_from time) new k (empty_after 0) d within
    ∙ elim (some.each k) [
      | inl e ↦ ap (back_from time) e ∙ back_same time (queue_at old k) (read k)
      | inr e ↦ ap (back_from time) e ∙ back_read time (queue_at old k) (read k)
    ]
    ∙ get_or_default old k (empty_after 0) d there)

-- what came true is forgotten up to a queue
pub record AreForgottenTo (time : ℕ) (old new : List Delayed) (i : ℕ) : Type 0 where
  pub same : length new ≡ length old
  pub each : (place : ℕ) → place < i → IsForgotten time (queue_at old place) (queue_at new place)
  pub rest : (place : ℕ) → i ≤ place → queue_at new place ≡ queue_at old place

-- what is due is as it was
pub forgotten_due : (time : ℕ) (old new : List Delayed) (due : List ℕ) (i : ℕ) → AreForgottenTo time old new i → length old ≤ i → due ≡ map due_of old → due ≡ map due_of new
forgotten_due time old new due i f l e =
    let same : length new ≡ length old = f.same in
    e ∙ same_lists (map due_of old) (map due_of new) (omega (arith, length-map old due_of, length-map new due_of))
    (λ k d h.
    let within : k < length old = omega (arith, length-map old due_of) in
    let one : IsForgotten time (queue_at old k) (queue_at new k) = f.each k (omega arith) in
    get_or-map due_of old k (empty_after 0) d within ∙ rw (← one.delay, ← one.ahead) refl ∙ sym (get_or-map due_of new k (empty_after 0) d (omega arith)))

-- what was written over a list
pub written : {X : Type 0} (n : ℕ) (xs ys : List X) → length xs ≡ length ys → length ys ≤ n → take n (xs ++ drop (length xs) ys) ≡ xs
written n xs ys e l = rw (drop_all (length xs) ys (omega arith), append-nil xs) (take_all n xs (omega arith))

-- one more is made from what it was
pub mixed_more : {X : Type 0} (f : X → X) (xs ys : List X) (i : ℕ) (x x' : X) → i < length xs → x ≡ get_or ys i x → ys ≡ mixed f i xs xs → x' ≡ f x → set ys i x' ≡ mixed f (i + 1) xs xs
mixed_more {X} f xs ys i x x' l q e is =
    let there : x ≡ get_or xs i x = q ∙ ap (λ (zs : List X). get_or zs i x) e ∙ get_or-mixed f i i xs xs x refl (omega arith) (omega arith) in
    ap (λ (zs : List X). set zs i x') e ∙ ap (set (mixed f i xs xs) i) (is ∙ ap f there) ∙ mixed-set f i xs xs x refl l

-- words that a step made behind others
pub put_due : (step : ℕ) (words : List Move) (delay : ℕ) (line line' : Line Move) (queue : Delayed) → ◌≡◌ {A = Delayed} (record { delay = delay; line = line }) queue → Rises (standing line) → last_time (standing queue.line) ≤ step
    → line' ≡ record { dead = line.dead; read = line.read; ahead = line.ahead ++ at step words } → is_none (first_time queue.line.ahead) ≡ false → due_of (record { delay = delay; line = line' }) ≡ due_of queue
put_due step words delay line line' queue view rises late is some =
    subst (λ (q : Delayed). last_time (standing q.line) ≤ step → is_none (first_time q.line.ahead) ≡ false → due_of (record { delay = delay; line = line' }) ≡ due_of q) view
    (λ late some. rw is (due_same step words (record { delay = delay; line = line }) rises late some)) late some

-- what one more queue tells
pub tell_more : (step last : ℕ) (queues : List Delayed) (i : ℕ) (queue : Delayed) (first told told' : List (Dated Move)) → i < length queues → queue ≡ get_or queues i queue → told ≡ first ++ flat_map (told_since step last) (take i queues)
    → told' ≡ told ++ told_since step last queue → told' ≡ first ++ flat_map (told_since step last) (take (i + 1) queues)
tell_more step last queues i queue first told told' l q e new =
    let one : take (i + 1) queues ≡ take i queues ++ queue ∷ [] = take_more queues i queue l ∙ ap (λ (x : Delayed). take i queues ++ x ∷ []) (sym q) in
    let all : flat_map (told_since step last) (take (i + 1) queues) ≡ flat_map (told_since step last) (take i queues) ++ told_since step last queue =
    ap (flat_map (told_since step last)) one ∙ flat_map-append (told_since step last) (take i queues) (queue ∷ []) ∙ ap (λ (ds : List (Dated Move)). flat_map (told_since step last) (take i queues) ++ ds) (append-nil (told_since step last queue)) in
    new ∙ ap (λ (ds : List (Dated Move)). ds ++ told_since step last queue) e
    ∙ append_assoc first (flat_map (told_since step last) (take i queues)) (told_since step last queue) ∙ ap (λ (ds : List (Dated Move)). first ++ ds) (sym all)
