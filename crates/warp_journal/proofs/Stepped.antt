-- A step, and a step that is taken back.
use Rattle.std.proofs.Common.{◌≡◌, ◌∙◌, ℕ, suc, ◌<◌, ◌≤◌, ◌==◌, inl, inr, Bool, true, false, cond, List, [], ◌∷◌, ◌++◌, map, length, get_or, set, refl, ap, sym, subst, arith, append_assoc, nat_le, nat_lt}
use Rattle.std.specs.List.{All, AllByRecursion, flat_map}
use Rattle.std.proofs.lemmas.List.{append-nil, length-map, length-set}
use Rattle.std.proofs.lemmas.List.Elements.{All-from_recursion, recursion_from_All, filter-append}
use Rattle.gate_values.specs.declared.logic.Logic.{Logic}
use Rattle.gate_values.specs.Behaviour as behaviour
use Rattle.gate_values.specs.Behaviour.{Source, source_delay}
use Rattle.gate_values.specs.declared.gate.Kind.{Kind}
use Rattle.gate_values.specs.Changes.{same}
use Rattle.gate_values.proofs.ChangeLists.{same_refl}
use Rattle.warp_stores.specs.Words.{Move}
use Rattle.warp_stores.specs.Dated.{Dated, at, before, since, undated, last_time, standing}
use Rattle.warp_stores.specs.Delays.{Delayed, queue_at, with_made, due_by, read_by, made_since, cut_since, back_from, AreReadUpTo}
use Rattle.warp_stores.specs.Lists.{words_at}
use Rattle.warp_stores.specs.Order.{AreApart}
use Rattle.warp_stores.proofs.Telling.{lt_true, lt_false, le_true, le_false}
use Rattle.warp_gates.specs.Cells.{Cell, Outside, Gate, Flop, Gates, next_output, AreGates, value_at, cell_at, moved, unmoved, puts_at, put_of, ArePut, HaveNext}
use Rattle.warp_gates.specs.Cells as cells
use Rattle.warp_gates.specs.declared.put.Put.{Put}
use Rattle.place_moves.specs.Moves.{move_of, moves, made_before, first_before}
use Rattle.place_moves.specs.Journals.{Journal, IsPlayed, AreBrought, IsStep, IsBack, IsReadTo, step_words, put_into, queue_of, output_back, IsSetBy}
use Rattle.place_moves.proofs.Filtering.{filter-map, every-map, filter-all, filter-none, every-weaker}
use Rattle.place_moves.proofs.Places.{every-place, every-within}
use Rattle.place_moves.proofs.Moving.{every-at_time, moves-times}
use Rattle.place_moves.proofs.Putting.{queue-read, put_none, put_more}
use Rattle.place_moves.proofs.Sourcing.{driven_or_not}
use Rattle.place_moves.proofs.Stepping.{history-times, outside_past, plays_on}
use Rattle.place_moves.proofs.Backing.{back_plays, all_made}
use Rattle.place_moves.proofs.Asking.{sortable, step_apart, step_within, history-last, queue-last}
use Rattle.warp_journal.specs.Books.{Book, Parts, Played, IsBrought, MayPlay, HasPlayed, HasStayed, AreAlike, all_of, journal_of}
use Rattle.warp_journal.specs.Inner.Parts.{AreUpTo, AreAsMany, AreStepped, AreHalfStepped, AreTakenBack, words_of}
use Rattle.warp_journal.proofs.Parting.{many_all}

-- ---- what a step asks of the parts

module _ (outside : List Move) (book : Book) (may : MayPlay book.mark outside book) where
  abbrev j : Journal
  j = journal_of book

  abbrev played : IsPlayed may.of.source may.of.given may.of.floor (journal_of book)
  played = let of : Played book = may.of in of.is

  abbrev brought : AreBrought may.of.source may.of.given book.mark outside
  brought = let b : IsBrought may.of.source may.of.given book.mark book.mark outside = may.brought in b.brought

  pub asks_apart : AreApart (flat_map (due_by book.mark) (all_of book.queues) ++ outside)
  asks_apart = sortable may.of.source may.of.given may.of.floor j played outside brought

  pub asks_read : AreReadUpTo book.mark (all_of book.queues)
  asks_read number = let q : IsReadTo book.mark (queue_at (all_of book.queues) number) = played.queues number in record { read = q.read; ahead = q.ahead; rises = q.rises }

  pub asks_words : cells.AreApart (step_words (journal_of book) outside) × All (λ w. w.place < length book.gates.cells) (step_words (journal_of book) outside)
  asks_words = (step_apart may.of.source may.of.given may.of.floor j played outside brought, step_within may.of.source may.of.given may.of.floor j played outside brought)

  pub asks_history : last_time book.history ≤ book.mark
  asks_history = history-last may.of.source may.of.given may.of.floor j played

  pub asks_queues : AreUpTo book.mark (map (read_by book.mark) (all_of book.queues))
  asks_queues number =
      let q : Delayed = queue_at (all_of book.queues) number in
      subst (λ (r : Delayed). last_time (standing r.line) ≤ book.mark) (sym (queue-read book.mark (all_of book.queues) number))
      (subst (λ (r : Delayed). last_time (standing r.line) ≤ book.mark) (put_none book.mark number (read_by book.mark q)) (queue-last may.of.source may.of.given may.of.floor j played number []))

  -- what is put goes into queues that are there
  module _ (next : Gates) (sent : List Put) (law : AreGates next) (cells : next.cells ≡ book.gates.cells) (follow : HaveNext book.gates next)
      (each : (place : ℕ) → puts_at place sent ≡ put_of place (get_or book.gates.queues place 0) (value_at book.gates.outputs place) (value_at next.outputs place)) where
    none_put : (place queue : ℕ) (a b : Logic) → a ≡ b → put_of place queue a b ≡ []
    none_put place queue a b e =
        ap (λ (v : Logic). put_of place queue v b) e ∙ ap (λ (t : Bool). cond t [] (record { queue = queue; word = record { place = place; before = b; after = b } } ∷ [])) (same_refl b)

    -- what a place outside puts out stays
    outside_none : (place : ℕ) → (may.of.source place ≡ behaviour.Outside) → puts_at place sent ≡ []
    outside_none place out = each place ∙ none_put place (get_or book.gates.queues place 0) (value_at book.gates.outputs place) (value_at next.outputs place) (stays (cell_at book.gates.cells place) (played.gates.sources place) (follow place))
      where
        stays : (cell : Cell) → IsSetBy cell (may.of.source place) → value_at next.outputs place ≡ next_output book.gates.values next.values cell (value_at book.gates.outputs place) → value_at book.gates.outputs place ≡ value_at next.outputs place
        stays Outside set e = sym e
        stays (Gate kind inputs) (delay, l, set) e = absurd (apart (sym out ∙ set))
          where
            apart : {k : Kind} {d : ℕ} {is : List ℕ} → behaviour.Outside ≡ behaviour.Gate k d is → ⊥
            apart h = cc
        stays (Flop data_place clock) (delay, initial, l, set) e = absurd (apart (sym out ∙ set))
          where
            apart : {d p k : ℕ} {v : Logic} → behaviour.Outside ≡ behaviour.Flop d p k v → ⊥
            apart h = cc

    pub puts_queue : All (λ put. put.queue < length (all_of book.queues)) sent
    puts_queue =
        All-from_recursion Q sent (every-place (λ (p : Put). p.word.place) Q sent (λ place. elim (driven_or_not (cell_at book.gates.cells place) (may.of.source place) (played.gates.sources place)) [
          | inl out ↦ subst (AllByRecursion Q) (sym (outside_none place out)) tt
          | inr driven ↦ subst (AllByRecursion Q) (sym (each place)) (one place (value_at book.gates.outputs place) (value_at next.outputs place) (played.gates.within place driven))
        ]))
      where
        Q : Put → Type 0
        Q p = p.queue < length (all_of book.queues)

        one : (place : ℕ) (a b : Logic) → queue_of book.gates place < length (all_of book.queues) → AllByRecursion (λ (p : Put). p.queue < length (all_of book.queues)) (put_of place (queue_of book.gates place) a b)
        one place a b l = go (same b a)
          where
            go : (t : Bool) → AllByRecursion (λ (p : Put). p.queue < length (all_of book.queues)) (cond t [] (record { queue = queue_of book.gates place; word = record { place = place; before = a; after = b } } ∷ []))
            go true = tt
            go false = (l, tt)

    pub puts_within : All (λ w. w.place < length book.gates.cells) (words_of sent)
    puts_within =
        All-from_recursion (λ (w : Move). w.place < length book.gates.cells) (words_of sent)
        (every-map (λ (w : Move). w.place < length book.gates.cells) (λ (p : Put). p.word) sent
        (every-within (λ (p : Put). p.word.place) (length book.gates.cells) sent (λ place l. outside_none place (outside_past may.of.source may.of.given book.gates (all_of book.queues) place played.gates l))))

-- ---- a step that is whole

pub step_is : (outside : List Move) (old new : Book) (sent : List Put) → IsStep (journal_of old) (journal_of new) (step_words (journal_of old) outside) sent → AreAlike old new → HasPlayed old.mark outside old new
step_is outside old new sent step alike =
    record {
      mark = step.mark;
      keeps = record { alike = alike; each = λ source given floor played brought. plays_on source given floor (journal_of old) (journal_of new) outside sent played brought.brought step };
    }

-- where nothing happened, nothing is played
pub stayed : (time : ℕ) (outside : List Move) (old new : Book) → new ≡ old → HasStayed time outside old new
stayed time outside old new e =
    subst (λ (b : Book). HasStayed time outside old b) (sym e)
    (record { mark = refl; keeps = record { alike = record { cells = refl; numbers = refl; read = refl; unread = refl }; each = λ source given floor played brought. played } })

-- ---- queues into which all is put

put_each : ℕ → List Put → List Delayed → List Delayed
put_each step [] qs = qs
put_each step (p ∷ ps) qs = put_each step ps (set qs p.queue (with_made step (p.word ∷ []) (queue_at qs p.queue)))

length-put_each : (step : ℕ) (sent : List Put) (qs : List Delayed) → length (put_each step sent qs) ≡ length qs
unfolding put_each
length-put_each step [] qs = refl
length-put_each step (p ∷ ps) qs =
    length-put_each step ps (set qs p.queue (with_made step (p.word ∷ []) (queue_at qs p.queue))) ∙ length-set qs p.queue (with_made step (p.word ∷ []) (queue_at qs p.queue))

each_put : (step : ℕ) (first : List Delayed) (sent0 sent : List Put) (qs : List Delayed) → AllByRecursion (λ p. p.queue < length first) sent → length qs ≡ length first
    → ((number : ℕ) → queue_at qs number ≡ with_made step (put_into number sent0) (queue_at first number)) → (number : ℕ) → queue_at (put_each step sent qs) number ≡ with_made step (put_into number (sent0 ++ sent)) (queue_at first number)
unfolding put_each
each_put step first sent0 [] qs within len was number = was number ∙ ap (λ (ps : List Put). with_made step (put_into number ps) (queue_at first number)) (sym (append-nil sent0))
each_put step first sent0 (p ∷ ps) qs within len was number =
    let next : List Delayed = set qs p.queue (with_made step (p.word ∷ []) (queue_at qs p.queue)) in
    let here : p.queue < length qs = omega (arith, within.0, len) in
    each_put step first (sent0 ++ p ∷ []) ps next within.1 (length-set qs p.queue (with_made step (p.word ∷ []) (queue_at qs p.queue)) ∙ len) (put_more step first qs sent0 p here was) number
    ∙ ap (λ (all : List Put). with_made step (put_into number all) (queue_at first number)) (append_assoc sent0 (p ∷ []) ps)

-- ---- a step that is taken back

undated-at : (t : ℕ) (ws : List Move) → undated (at t ws) ≡ ws
undated-at t [] = refl
undated-at t (w ∷ ws) = ap (λ (vs : List Move). w ∷ vs) (undated-at t ws)

before-at : (t : ℕ) (ws : List Move) → before t (at t ws) ≡ []
before-at t ws = filter-none (λ (d : Dated Move). nat_lt d.0 t) (at t ws) (every-at_time (λ (d : Dated Move). nat_lt d.0 t ≡ false) t ws (λ w. lt_false t t (omega arith)))

since-at : (t : ℕ) (ws : List Move) → since t (at t ws) ≡ at t ws
since-at t ws = filter-all (λ (d : Dated Move). nat_le t d.0) (at t ws) (every-at_time (λ (d : Dated Move). nat_le t d.0 ≡ true) t ws (λ w. le_true t t (omega arith)))

before-earlier : (t : ℕ) (ds : List (Dated Move)) → AllByRecursion (λ d. d.0 < t) ds → before t ds ≡ ds
before-earlier t ds h = filter-all (λ (d : Dated Move). nat_lt d.0 t) ds (every-weaker (λ (d : Dated Move). d.0 < t) (λ (d : Dated Move). nat_lt d.0 t ≡ true) ds (λ d l. lt_true d.0 t l) h)

since-earlier : (t : ℕ) (ds : List (Dated Move)) → AllByRecursion (λ d. d.0 < t) ds → since t ds ≡ []
since-earlier t ds h = filter-none (λ (d : Dated Move). nat_le t d.0) ds (every-weaker (λ (d : Dated Move). d.0 < t) (λ (d : Dated Move). nat_le t d.0 ≡ false) ds (λ d l. le_false t d.0 l) h)

cut_made : (t : ℕ) (ws : List Move) (queue : Delayed) → cut_since t (with_made t ws queue) ≡ cut_since t queue
cut_made t ws queue =
    ap (λ (xs : List (Dated Move)). record { delay = queue.delay; line = record { dead = queue.line.dead; read = before t queue.line.read; ahead = xs } })
    (filter-append (λ (d : Dated Move). nat_lt d.0 t) queue.line.ahead (at t ws) ∙ ap (λ (xs : List (Dated Move)). before t queue.line.ahead ++ xs) (before-at t ws) ∙ append-nil (before t queue.line.ahead))

words-put : (place queue : ℕ) (a b : Logic) → words_of (put_of place queue a b) ≡ move_of place a b
words-put place queue a b = go (same b a)
  where
    go : (t : Bool) → words_of (cond t [] (record { queue = queue; word = record { place = place; before = a; after = b } } ∷ [])) ≡ cond t [] (record { place = place; before = a; after = b } ∷ [])
    go true = refl
    go false = refl

last_move : (place : ℕ) (shown : ℕ → Logic) (t : ℕ) → undated (since t (moves place shown (suc t))) ≡ move_of place (shown t) (shown (suc t))
unfolding moves
last_move place shown t =
    let now : List Move = move_of place (shown t) (shown (suc t)) in
    ap undated (filter-append (λ (d : Dated Move). nat_le t d.0) (moves place shown t) (at t now)
    ∙ ap (λ (xs : List (Dated Move)). xs ++ since t (at t now)) (since-earlier t (moves place shown t) (moves-times place shown t))
    ∙ since-at t now)
    ∙ undated-at t now

-- what gates.step and the queues have done when a step can't go on, and what is done then
pub record IsTakenBack (outside : List Move) (old new : Book) : Type 0 where
  pub next : Gates
  pub sent : List Put
  pub half : Parts
  pub law : AreGates next
  pub cells : next.cells ≡ old.gates.cells
  pub numbers : next.queues ≡ old.gates.queues
  pub values : next.values ≡ moved (step_words (journal_of old) outside) old.gates.values
  pub follow : HaveNext old.gates next
  pub each : (place : ℕ) → puts_at place sent ≡ put_of place (get_or old.gates.queues place 0) (value_at old.gates.outputs place) (value_at next.outputs place)
  pub there : All (λ put. put.queue < length (all_of old.queues)) sent
  pub stepped : AreHalfStepped old.mark old.queues half
  pub mark : new.mark ≡ old.mark
  pub history : new.history ≡ old.history
  pub law_back : AreGates new.gates
  pub gates : AreTakenBack (step_words (journal_of old) outside) (words_of sent) next new.gates
  pub many : AreAsMany half new.queues
  pub queues : (number : ℕ) → queue_at (all_of new.queues) number ≡ back_from old.mark (cut_since old.mark (queue_at (all_of half) number))

module _ (outside : List Move) (old new : Book) (back : IsTakenBack outside old new) where
  abbrev words : List Move
  words = step_words (journal_of old) outside

  -- the step, had it been whole
  abbrev whole : Journal
  whole = record { mark = suc old.mark; gates = back.next; queues = put_each old.mark back.sent (map (read_by old.mark) (all_of old.queues)); history = old.history ++ at old.mark words }

  whole_queues : (number : ℕ) → queue_at whole.queues number ≡ with_made old.mark (put_into number back.sent) (read_by old.mark (queue_at (all_of old.queues) number))
  whole_queues number =
      let first : List Delayed = map (read_by old.mark) (all_of old.queues) in
      let len : length first ≡ length (all_of old.queues) = length-map (all_of old.queues) (read_by old.mark) in
      each_put old.mark first [] back.sent first
      (subst (λ (n : ℕ). AllByRecursion (λ (p : Put). p.queue < n) back.sent) (sym len) (recursion_from_All (λ (p : Put). p.queue < length (all_of old.queues)) back.sent back.there)) refl
      (λ k. sym (put_none old.mark k (queue_at first k))) number
      ∙ ap (with_made old.mark (put_into number back.sent)) (queue-read old.mark (all_of old.queues) number)

  whole_step : IsStep (journal_of old) whole words back.sent
  whole_step =
      record {
        mark = refl;
        history = refl;
        law = back.law;
        cells = back.cells;
        numbers = back.numbers;
        values = back.values;
        outputs = back.follow;
        each = back.each;
        same = length-put_each old.mark back.sent (map (read_by old.mark) (all_of old.queues)) ∙ length-map (all_of old.queues) (read_by old.mark);
        queues = whole_queues;
      }

  module _ (source : ℕ → Source) (given : ℕ → ℕ → Logic) (floor : ℕ) (played : IsPlayed source given floor (journal_of old)) (brought : AreBrought source given old.mark outside) where
    whole_played : IsPlayed source given floor whole
    whole_played = plays_on source given floor (journal_of old) whole outside back.sent played brought whole_step

    earlier : AllByRecursion (λ (d : Dated Move). d.0 < old.mark) old.history
    earlier = history-times source given old.mark old.history played.history

    told_same : (place : ℕ) → words_at place (words_of back.sent) ≡ words_at place (flat_map (made_since old.mark) whole.queues)
    told_same place =
        let low : floor ≤ old.mark = played.forgotten in
        filter-map (λ (w : Move). w.place == place) (λ (p : Put). p.word) back.sent
        ∙ ap words_of (back.each place)
        ∙ words-put place (get_or old.gates.queues place 0) (value_at old.gates.outputs place) (value_at back.next.outputs place)
        ∙ ap (λ (v : Logic). move_of place v (value_at back.next.outputs place)) (played.showing.outputs place)
        ∙ ap (move_of place (made_before source given place old.mark)) (whole_played.showing.outputs place)
        ∙ sym (last_move place (made_before source given place) old.mark)
        ∙ sym (all_made source given floor whole whole_played old.mark low (omega arith) place)

    is_back : IsBack old.mark whole (journal_of new)
    is_back =
        record {
          mark = back.mark;
          history = back.history ∙ sym (filter-append (λ (d : Dated Move). nat_lt d.0 old.mark) old.history (at old.mark words)
              ∙ ap (λ (xs : List (Dated Move)). before old.mark old.history ++ xs) (before-at old.mark words) ∙ append-nil (before old.mark old.history) ∙ before-earlier old.mark old.history earlier);
          law = back.law_back;
          cells = back.gates.cells;
          numbers = back.gates.numbers;
          values =
              back.gates.values
              ∙ ap (λ (ws : List Move). unmoved ws back.next.values)
              (sym (ap undated (filter-append (λ (d : Dated Move). nat_le old.mark d.0) old.history (at old.mark words)
              ∙ ap (λ (xs : List (Dated Move)). xs ++ since old.mark (at old.mark words)) (since-earlier old.mark old.history earlier) ∙ since-at old.mark words)
              ∙ undated-at old.mark words));
          outputs = λ place.
              back.gates.outputs place
              ∙ ap (λ (ws : List Move). output_back new.gates.values (cell_at back.next.cells place) (first_before (value_at back.next.outputs place) ws) (value_at back.next.outputs place)) (told_same place);
          same =
              many_all back.half new.queues back.many ∙ (let s : AreStepped old.mark back.stepped.puts old.queues back.half = back.stepped.stepped in many_all old.queues back.half s.many)
              ∙ sym (length-put_each old.mark back.sent (map (read_by old.mark) (all_of old.queues)) ∙ length-map (all_of old.queues) (read_by old.mark));
          queues = λ number.
              let s : AreStepped old.mark back.stepped.puts old.queues back.half = back.stepped.stepped in
              let q : Delayed = read_by old.mark (queue_at (all_of old.queues) number) in
              back.queues number
              ∙ ap (back_from old.mark) (ap (cut_since old.mark) (s.each number) ∙ cut_made old.mark (put_into number back.stepped.puts) q
              ∙ sym (ap (cut_since old.mark) (whole_queues number) ∙ cut_made old.mark (put_into number back.sent) q));
        }

    pub taken_plays : IsPlayed source given floor (journal_of new)
    taken_plays = let low : floor ≤ old.mark = played.forgotten in back_plays source given floor whole whole_played old.mark low (omega arith) (journal_of new) is_back

pub taken_is : (outside : List Move) (old new : Book) → IsTakenBack outside old new → HasStayed old.mark outside old new
taken_is outside old new back =
    let s : AreStepped old.mark back.stepped.puts old.queues back.half = back.stepped.stepped in
    record {
      mark = back.mark;
      keeps = record {
        alike = record {
          cells = back.gates.cells ∙ back.cells;
          numbers = back.gates.numbers ∙ back.numbers;
          read = back.many.read ∙ s.many.read;
          unread = back.many.unread ∙ s.many.unread;
        };
        each = λ source given floor played brought. taken_plays outside old new back source given floor played brought.brought;
      };
    }

-- all that is put, where nothing was put before
pub sent_all : (old next : Gates) (before out : List Put) → before ≡ [] → ArePut old next before out → (place : ℕ) → puts_at place out ≡ put_of place (get_or old.queues place 0) (value_at old.outputs place) (value_at next.outputs place)
sent_all old next before out none put place =
    ap (puts_at place) (put.appended ∙ ap (λ (ps : List Put). ps ++ put.sent) none) ∙ put.each place
