-- A step plays one time more.
use Rattle.std.proofs.Common.{◌≡◌, ◌∙◌, ℕ, suc, ◌+◌, ◌<◌, ◌≤◌, ◌==◌, inl, inr, Bool, true, false, cond, List, [], ◌∷◌, ◌++◌, map, length, get_or, refl, ap, sym, subst, arith, nat_le}
use Rattle.std.specs.List.{filter, flat_map, AllByRecursion}
use Rattle.std.proofs.lemmas.Bool.{eqb-true}
use Rattle.std.proofs.lemmas.List.{get_or_past}
use Rattle.std.proofs.lemmas.List.Elements.{filter-append}
use Rattle.gate_values.specs.declared.logic.Logic.{Logic}
use Rattle.gate_values.specs.declared.logic.Logic.TheVariants.{X}
use Rattle.gate_values.specs.Changes.{same}
use Rattle.gate_values.specs.Behaviour as behaviour
use Rattle.gate_values.specs.Behaviour.{Source, source_delay}
use Rattle.warp_stores.specs.Words.{Move}
use Rattle.warp_stores.specs.Dated.{Dated, at, standing}
use Rattle.warp_stores.specs.Delays.{Delayed, true_since, queue_at, with_made, due_by, read_by}
use Rattle.warp_stores.specs.Order.{by_place}
use Rattle.warp_stores.specs.Lists.{words_at}
use Rattle.warp_stores.proofs.Telling.{le_true}
use Rattle.warp_gates.specs.Cells.{Cell, Outside, Gates, value_at, cell_at, puts_at, put_of}
use Rattle.warp_gates.specs.declared.put.Put.{Put}
use Rattle.place_moves.specs.Moves.{move_of, moves, of_place, value_before, made_before, last_after, Ascend}
use Rattle.place_moves.specs.Journals.{Journal, IsSetBy, IsReadTo, StandFor, HasMade, HaveCome, AreShowing, IsPlayed, AreBrought, IsStep, step_words, put_into, queue_of}
use Rattle.place_moves.specs.Inner.Journals.{AreMoves}
use Rattle.place_moves.proofs.Filtering.{filter-comm, filter-map, every-any, every-filter}
use Rattle.place_moves.proofs.Moving.{move_of-same, move_of-last, moves-times, at-yes}
use Rattle.place_moves.proofs.Places.{place-at, every-place, every-within, value-moved}
use Rattle.place_moves.proofs.Ordering.{ascend-more}
use Rattle.place_moves.proofs.Queueing.{standing-step, read-step}
use Rattle.place_moves.proofs.Due.{moves_now, moves_in_order}
use Rattle.place_moves.proofs.Sourcing.{driven_or_not, made-outside, value-past, output-next}

-- ---- what is put into a queue

put_one : (number place queue : ℕ) (from to : Logic) → map (λ (p : Put). p.word) (filter (λ (p : Put). number == p.queue) (put_of place queue from to)) ≡ cond (number == queue) (move_of place from to) []
put_one number place queue from to = go (same to from) (number == queue) refl
  where
    go : (b c : Bool) → (number == queue) ≡ c
        → map (λ (p : Put). p.word) (filter (λ (p : Put). number == p.queue) (cond b [] (record { queue = queue; word = record { place = place; before = from; after = to } } ∷ [])))
        ≡ cond c (cond b [] (record { place = place; before = from; after = to } ∷ [])) []
    go true true e = refl
    go true false e = refl
    go false true e = rw e refl
    go false false e = rw e refl

pub words-put_into : (number place queue : ℕ) (from to : Logic) (sent : List Put) → puts_at place sent ≡ put_of place queue from to → words_at place (put_into number sent) ≡ cond (number == queue) (move_of place from to) []
words-put_into number place queue from to sent h =
    let N : Put → Bool = λ p. number == p.queue in
    filter-map (λ (w : Move). w.place == place) (λ (p : Put). p.word) (filter N sent)
    ∙ ap (map (λ (p : Put). p.word)) (filter-comm (λ (p : Put). p.word.place == place) N sent ∙ ap (filter N) h)
    ∙ put_one number place queue from to

-- ---- what is true of all words that came and were made

module _ (source : ℕ → Source) (given : ℕ → ℕ → Logic) where
  pub history-times : (mark : ℕ) (history : List (Dated Move)) → HaveCome source given mark history → AllByRecursion (λ d. d.0 < mark) history
  history-times mark history come =
      every-place (λ (d : Dated Move). d.1.place) (λ (d : Dated Move). d.0 < mark) history
      (λ p. subst (AllByRecursion (λ (d : Dated Move). d.0 < mark)) (sym (come.each p)) (moves-times p (value_before source given p) mark))

  pub queue-times : (floor mark : ℕ) (gates : Gates) (number : ℕ) (queue : Delayed) → ((place : ℕ) → HasMade source given floor mark gates number queue place) → AllByRecursion (λ d. d.0 < mark) (standing queue.line)
  queue-times floor mark gates number queue made =
      every-place (λ (d : Dated Move). d.1.place) (λ (d : Dated Move). d.0 < mark) (standing queue.line)
      (λ p. subst (AllByRecursion (λ (d : Dated Move). d.0 < mark)) (sym (made p)) (go (number == queue_of gates p) p))
    where
      go : (b : Bool) (p : ℕ) → AllByRecursion (λ (d : Dated Move). d.0 < mark) (cond b (true_since queue.delay floor (moves p (made_before source given p) mark)) [])
      go true p = every-filter (λ (d : Dated Move). nat_le floor (d.0 + queue.delay)) (λ (d : Dated Move). d.0 < mark) (moves p (made_before source given p) mark) (moves-times p (made_before source given p) mark)
      go false p = tt

  -- places past the end are outside and unknown
  pub outside_past : (gates : Gates) (queues : List Delayed) (place : ℕ) → StandFor source gates queues → length gates.cells ≤ place → source place ≡ behaviour.Outside
  outside_past gates queues place stand l = subst (λ (c : Cell). IsSetBy c (source place)) (get_or_past gates.cells place Outside l) (stand.sources place)

  pub words-within : (time : ℕ) (gates : Gates) (queues : List Delayed) (words : List Move) → StandFor source gates queues → ((place time : ℕ) → length gates.cells ≤ place → given time place ≡ X) → AreMoves source given time words
      → AllByRecursion (λ w. w.place < length gates.values) words
  words-within time gates queues words stand past moving =
      every-within (λ (w : Move). w.place) (length gates.values) words
      (λ p l. let len : length gates.values ≡ length gates.cells = stand.law.values in
      let far : length gates.cells ≤ p = omega arith in
      let none : (t : ℕ) → value_before source given p t ≡ X = λ t. value-past source given p t (outside_past gates queues p stand far) (λ time. past p time far) in
      moving p ∙ ap (λ (v : Logic). move_of p v (value_before source given p (suc time))) (none time) ∙ ap (move_of p X) (none (suc time)) ∙ move_of-same p X)

module _ (source : ℕ → Source) (given : ℕ → ℕ → Logic) (floor : ℕ) (old new : Journal) (words : List Move) (sent : List Put)
    (played : IsPlayed source given floor old) (moving : AreMoves source given old.mark words) (order : Ascend (at old.mark words)) (step : IsStep old new words sent) where
  abbrev later : ℕ
  later = suc old.mark

  step_stand : StandFor source new.gates new.queues
  step_stand =
      let was : StandFor source old.gates old.queues = played.gates in
      record {
        law = step.law;
        sources = λ p. subst (λ (cs : List Cell). IsSetBy (cell_at cs p) (source p)) (sym step.cells) (was.sources p);
        within = λ p h. subst (λ (qs : List ℕ). get_or qs p 0 < length new.queues) (sym step.numbers) (subst (λ (n : ℕ). queue_of old.gates p < n) (sym step.same) (was.within p h));
        delays = λ p h.
            ap (λ (qs : List ℕ). (queue_at new.queues (get_or qs p 0)).delay) step.numbers ∙ ap (λ (q : Delayed). q.delay) (step.queues (queue_of old.gates p)) ∙ was.delays p h;
      }

  step_values : (place : ℕ) → value_at new.gates.values place ≡ value_before source given place later
  step_values place =
      ap (λ (vs : List Logic). value_at vs place) step.values
      ∙ value-moved place words old.gates.values (words-within source given old.mark old.gates old.queues words played.gates played.past moving)
      ∙ ap (last_after (value_at old.gates.values place)) (moving place)
      ∙ ap (λ (v : Logic). last_after v (move_of place (value_before source given place old.mark) (value_before source given place later))) (played.showing.values place)
      ∙ move_of-last place (value_before source given place old.mark) (value_before source given place later)

  step_outputs : (place : ℕ) → value_at new.gates.outputs place ≡ made_before source given place later
  step_outputs place =
      step.outputs place
      ∙ output-next source given place old.mark (cell_at old.gates.cells place) old.gates.values new.gates.values (value_at old.gates.outputs place)
      (played.gates.sources place) played.showing.values step_values (played.showing.outputs place)

  step_come : HaveCome source given later new.history
  unfolding moves
  step_come =
      record {
        each = λ p.
            ap (of_place p) step.history ∙ filter-append (λ (d : Dated Move). d.1.place == p) old.history (at old.mark words)
            ∙ ap (λ (ws : List (Dated Move)). ws ++ of_place p (at old.mark words)) (played.history.each p)
            ∙ ap (λ (ws : List (Dated Move)). moves p (value_before source given p) old.mark ++ ws) (place-at p old.mark words ∙ ap (at old.mark) (moving p));
        order = subst Ascend (sym step.history) (ascend-more old.mark old.history words played.history.order (history-times source given old.mark old.history played.history) order);
      }

  put_words : (number place : ℕ) → words_at place (put_into number sent) ≡ cond (number == queue_of old.gates place) (move_of place (made_before source given place old.mark) (made_before source given place later)) []
  put_words number place =
      words-put_into number place (queue_of old.gates place) (value_at old.gates.outputs place) (value_at new.gates.outputs place) sent (step.each place)
      ∙ ap (λ (v : Logic). cond (number == queue_of old.gates place) (move_of place v (value_at new.gates.outputs place)) []) (played.showing.outputs place)
      ∙ ap (λ (v : Logic). cond (number == queue_of old.gates place) (move_of place (made_before source given place old.mark) v) []) (step_outputs place)

  -- what is put comes true later
  put_later : (number : ℕ) → AllByRecursion (λ w. later ≤ old.mark + (queue_at old.queues number).delay) (put_into number sent)
  put_later number =
      every-place (λ (w : Move). w.place) P (put_into number sent)
      (λ p. subst (AllByRecursion P) (sym (put_words number p)) (go p (number == queue_of old.gates p) refl))
    where
      P : Move → Type 0
      P w = later ≤ old.mark + (queue_at old.queues number).delay

      go : (p : ℕ) (b : Bool) → (number == queue_of old.gates p) ≡ b
          → AllByRecursion (λ w. later ≤ old.mark + (queue_at old.queues number).delay) (cond b (move_of p (made_before source given p old.mark) (made_before source given p later)) [])
      go p false e = tt
      go p true e = elim (driven_or_not (cell_at old.gates.cells p) (source p) (played.gates.sources p)) [
        | inl out ↦
            subst (AllByRecursion (λ (w : Move). later ≤ old.mark + (queue_at old.queues number).delay))
            (sym (ap (move_of p (made_before source given p old.mark)) (made-outside source given p later out ∙ sym (made-outside source given p old.mark out)) ∙ move_of-same p (made_before source given p old.mark))) tt
        | inr h ↦
            let here : number ≡ queue_of old.gates p = eqb-true number (queue_of old.gates p) e in
            let d : (queue_at old.queues number).delay ≡ source_delay (source p) = ap (λ (n : ℕ). (queue_at old.queues n).delay) here ∙ played.gates.delays p h in
            every-any (λ (w : Move). later ≤ old.mark + (queue_at old.queues number).delay) (move_of p (made_before source given p old.mark) (made_before source given p later)) (λ w. omega arith)
      ]

  step_read : (number : ℕ) → IsReadTo later (queue_at new.queues number)
  step_read number =
      let q : Delayed = queue_at old.queues number in
      subst (IsReadTo later) (sym (step.queues number))
      (read-step old.mark q (played.queues number) (put_into number sent) (queue-times source given floor old.mark old.gates number q (played.made number)) (put_later number))

  more_made : (b : Bool) (delay place : ℕ) → floor ≤ old.mark → cond b (true_since delay floor (moves place (made_before source given place) old.mark)) [] ++ at old.mark (cond b (move_of place (made_before source given place old.mark) (made_before source given place later)) [])
      ≡ cond b (true_since delay floor (moves place (made_before source given place) later)) []
  unfolding moves
  more_made false delay place l = refl
  more_made true delay place l =
      let F : Dated Move → Bool = λ d. nat_le floor (d.0 + delay) in
      let last : List Move = move_of place (made_before source given place old.mark) (made_before source given place later) in
      sym (filter-append F (moves place (made_before source given place) old.mark) (at old.mark last)
      ∙ ap (λ (ws : List (Dated Move)). filter F (moves place (made_before source given place) old.mark) ++ ws) (at-yes (λ s. nat_le floor (s + delay)) old.mark last (le_true floor (old.mark + delay) (omega arith))))

  step_made : (number place : ℕ) → HasMade source given floor later new.gates number (queue_at new.queues number) place
  step_made number place =
      let q : Delayed = queue_at old.queues number in
      let ws : List Move = put_into number sent in
      let P : Dated Move → Bool = λ d. d.1.place == place in
      let Made : Delayed → ℕ → Type 0 = λ r k. of_place place (standing r.line) ≡ (cond (number == k) (true_since r.delay floor (moves place (made_before source given place) later)) []) in
      let here : Made (with_made old.mark ws (read_by old.mark q)) (queue_of old.gates place) =
      ap (filter P) (standing-step old.mark q (played.queues number) ws)
      ∙ filter-append P (standing q.line) (at old.mark ws)
      ∙ ap (λ (xs : List (Dated Move)). xs ++ of_place place (at old.mark ws)) (played.made number place)
      ∙ ap (λ (xs : List (Dated Move)). cond (number == queue_of old.gates place) (true_since q.delay floor (moves place (made_before source given place) old.mark)) [] ++ xs) (place-at place old.mark ws ∙ ap (at old.mark) (put_words number place))
      ∙ more_made (number == queue_of old.gates place) q.delay place played.forgotten in
      subst (λ (qs : List ℕ). Made (queue_at new.queues number) (get_or qs place 0)) (sym step.numbers) (subst (λ (r : Delayed). Made r (queue_of old.gates place)) (sym (step.queues number)) here)

  -- A step over what moves at the mark plays it.
  pub step_plays : IsPlayed source given floor new
  step_plays =
      let back : later ≡ new.mark = sym step.mark in
      let l : floor ≤ old.mark = played.forgotten in
      record {
        forgotten = omega arith;
        past = λ p t h. played.past p t (subst (λ (cs : List Cell). length cs ≤ p) step.cells h);
        gates = step_stand;
        showing = subst (λ (t : ℕ). AreShowing source given t new.gates) back (record { values = step_values; outputs = step_outputs });
        history = subst (λ (t : ℕ). HaveCome source given t new.history) back step_come;
        queues = λ number. subst (λ (t : ℕ). IsReadTo t (queue_at new.queues number)) back (step_read number);
        made = λ number place. subst (λ (t : ℕ). HasMade source given floor t new.gates number (queue_at new.queues number) place) back (step_made number place);
      }

-- A step over what is due and what is brought from outside plays the mark.
pub plays_on : (source : ℕ → Source) (given : ℕ → ℕ → Logic) (floor : ℕ) (old new : Journal) (outside : List Move) (sent : List Put) → IsPlayed source given floor old → AreBrought source given old.mark outside
    → IsStep old new (step_words old outside) sent → IsPlayed source given floor new
plays_on source given floor old new outside sent played brought step =
    let due : List Move = flat_map (due_by old.mark) old.queues ++ outside in
    let placed : AreMoves source given old.mark (by_place due) × Ascend (at old.mark (by_place due)) = moves_in_order source given old.mark due (moves_now source given floor old played outside brought) in
    step_plays source given floor old new (by_place due) sent played placed.0 placed.1 step
