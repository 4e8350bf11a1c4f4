-- Back at an earlier time.
use Rattle.std.proofs.Common.{◌≡◌, ◌∙◌, ℕ, suc, ◌+◌, ◌<◌, ◌≤◌, ◌==◌, Bool, cond, List, [], length, get_or, refl, ap, sym, subst, arith, nat_lt, nat_le}
use Rattle.std.specs.List.{filter, flat_map, AllByRecursion}
use Rattle.std.proofs.lemmas.Bool.{eq-eqb, ne_eqb, leb-true, cond-true, cond-false}
use Rattle.gate_values.specs.declared.logic.Logic.{Logic}
use Rattle.gate_values.specs.declared.logic.Logic.TheVariants.{X}
use Rattle.gate_values.specs.Behaviour.{Source}
use Rattle.warp_stores.specs.Words.{Move}
use Rattle.warp_stores.specs.Dated.{Dated, since, undated, standing}
use Rattle.warp_stores.specs.Delays.{Delayed, true_since, queue_at, empty_after, made_since, cut_since, back_from}
use Rattle.warp_stores.specs.Lists.{words_at}
use Rattle.warp_stores.proofs.Telling.{lt_true, lt_false, le_true, le_false}
use Rattle.warp_gates.specs.Cells.{Cell, value_at, cell_at, unmoved}
use Rattle.place_moves.specs.Moves.{moves, of_place, value_before, made_before, first_before, Ascend}
use Rattle.place_moves.specs.Journals.{Journal, IsSetBy, IsReadTo, StandFor, HasMade, HaveCome, AreShowing, IsPlayed, IsBack, queue_of}
use Rattle.place_moves.proofs.Filtering.{filter-comm, filter-absorb, filter-flat_map, flat_map-only, every-filter, every-map, through}
use Rattle.place_moves.proofs.Moving.{moves-cut, moves-first, moves-still}
use Rattle.place_moves.proofs.Places.{words-undated, every-within, value-unmoved}
use Rattle.place_moves.proofs.Ordering.{ascend-filter}
use Rattle.place_moves.proofs.Queueing.{standing-back, read-back}
use Rattle.place_moves.proofs.Sourcing.{value-past, output-back}
use Rattle.place_moves.proofs.Stepping.{outside_past}

module _ (source : ℕ → Source) (given : ℕ → ℕ → Logic) (floor : ℕ) (j : Journal) (played : IsPlayed source given floor j) (time : ℕ) (low : floor ≤ time) (high : time ≤ j.mark) where
  -- what stands in a queue of a place and was made from the time on
  since_made : (number place : ℕ) → words_at place (made_since time (queue_at j.queues number)) ≡ cond (number == queue_of j.gates place) (undated (since time (moves place (made_before source given place) j.mark))) []
  since_made number place =
      let q : Delayed = queue_at j.queues number in
      let P : Dated Move → Bool = λ d. d.1.place == place in
      let S : Dated Move → Bool = λ d. nat_le time d.0 in
      let F : Dated Move → Bool = λ d. nat_le floor (d.0 + q.delay) in
      let all : List (Dated Move) = moves place (made_before source given place) j.mark in
      words-undated place (filter S (standing q.line))
      ∙ ap undated (filter-comm P S (standing q.line) ∙ ap (filter S) (played.made number place))
      ∙ through (λ (ws : List (Dated Move)). undated (filter S ws)) (number == queue_of j.gates place) (filter F all) []
      ∙ ap (λ (ws : List (Dated Move)). cond (number == queue_of j.gates place) (undated ws) [])
      (filter-absorb S F all (λ d e. let late : time ≤ d.0 = leb-true time d.0 e in le_true floor (d.0 + q.delay) (omega arith)))

  -- what all places made from the time on
  pub all_made : (place : ℕ) → words_at place (flat_map (made_since time) j.queues) ≡ undated (since time (moves place (made_before source given place) j.mark))
  all_made place =
      let k : ℕ = queue_of j.gates place in
      let late : List Move = undated (since time (moves place (made_before source given place) j.mark)) in
      filter-flat_map (λ (w : Move). w.place == place) (made_since time) j.queues
      ∙ flat_map-only (λ (q : Delayed). words_at place (made_since time q)) (empty_after 0) j.queues k refl (λ i n. since_made i place ∙ cond-false (i == k) late [] (ne_eqb i k n))
      ∙ since_made k place ∙ cond-true (k == k) late [] (eq-eqb k k refl)

  -- what they put out before that
  pub told_back : (place : ℕ) → first_before (value_at j.gates.outputs place) (words_at place (flat_map (made_since time) j.queues)) ≡ made_before source given place time
  told_back place =
      ap (first_before (value_at j.gates.outputs place)) (all_made place)
      ∙ ap (λ (v : Logic). first_before v (undated (since time (moves place (made_before source given place) j.mark)))) (played.showing.outputs place)
      ∙ moves-first place (made_before source given place) (λ s. nat_le time s) time j.mark high (λ s l. le_false time s l) (λ s l. le_true time s l)

  pub history-within : AllByRecursion (λ (d : Dated Move). d.1.place < length j.gates.values) j.history
  history-within =
      every-within (λ (d : Dated Move). d.1.place) (length j.gates.values) j.history
      (λ p l. let len : length j.gates.values ≡ length j.gates.cells = played.gates.law.values in
      let far : length j.gates.cells ≤ p = omega arith in
      let none : (t : ℕ) → value_before source given p t ≡ X = λ t. value-past source given p t (outside_past source given j.gates j.queues p played.gates far) (λ s. played.past p s far) in
      played.history.each p ∙ moves-still p (value_before source given p) j.mark (λ t. none (suc t) ∙ sym (none t)))

  -- the words that are taken back are of the gates' places
  pub undone-within : AllByRecursion (λ (w : Move). w.place < length j.gates.values) (undated (since time j.history))
  undone-within =
      every-map (λ (w : Move). w.place < length j.gates.values) (λ (d : Dated Move). d.1) (since time j.history)
      (every-filter (λ (d : Dated Move). nat_le time d.0) (λ (d : Dated Move). d.1.place < length j.gates.values) j.history history-within)

  -- the values once all that came from the time on is taken back
  pub value_back : (place : ℕ) → value_at (unmoved (undated (since time j.history)) j.gates.values) place ≡ value_before source given place time
  value_back place =
      let P : Dated Move → Bool = λ d. d.1.place == place in
      let S : Dated Move → Bool = λ d. nat_le time d.0 in
      value-unmoved place (undated (since time j.history)) j.gates.values undone-within
      ∙ ap (first_before (value_at j.gates.values place)) (words-undated place (filter S j.history) ∙ ap undated (filter-comm P S j.history ∙ ap (filter S) (played.history.each place)))
      ∙ ap (λ (v : Logic). first_before v (undated (since time (moves place (value_before source given place) j.mark)))) (played.showing.values place)
      ∙ moves-first place (value_before source given place) (λ s. nat_le time s) time j.mark high (λ s l. le_false time s l) (λ s l. le_true time s l)

  made_back : (number place : ℕ) → HasMade source given floor time j.gates number (back_from time (cut_since time (queue_at j.queues number))) place
  made_back number place =
      let q : Delayed = queue_at j.queues number in
      let P : Dated Move → Bool = λ d. d.1.place == place in
      let B : Dated Move → Bool = λ d. nat_lt d.0 time in
      let F : Dated Move → Bool = λ d. nat_le floor (d.0 + q.delay) in
      let all : List (Dated Move) = moves place (made_before source given place) j.mark in
      ap (filter P) (standing-back j.mark q (played.queues number) time)
      ∙ filter-comm P B (standing q.line) ∙ ap (filter B) (played.made number place)
      ∙ through (filter B) (number == queue_of j.gates place) (filter F all) []
      ∙ ap (λ (ws : List (Dated Move)). cond (number == queue_of j.gates place) ws [])
      (filter-comm B F all ∙ ap (filter F) (moves-cut place (made_before source given place) (λ s. nat_lt s time) time j.mark high (λ s l. lt_true s time l) (λ s l. lt_false s time l)))

  module _ (new : Journal) (back : IsBack time j new) where
    back_stand : StandFor source new.gates new.queues
    back_stand =
        let was : StandFor source j.gates j.queues = played.gates in
        record {
          law = back.law;
          sources = λ p. subst (λ (cs : List Cell). IsSetBy (cell_at cs p) (source p)) (sym back.cells) (was.sources p);
          within = λ p h. subst (λ (qs : List ℕ). get_or qs p 0 < length new.queues) (sym back.numbers) (subst (λ (n : ℕ). queue_of j.gates p < n) (sym back.same) (was.within p h));
          delays = λ p h.
              ap (λ (qs : List ℕ). (queue_at new.queues (get_or qs p 0)).delay) back.numbers ∙ ap (λ (q : Delayed). q.delay) (back.queues (queue_of j.gates p)) ∙ was.delays p h;
        }

    back_values : (place : ℕ) → value_at new.gates.values place ≡ value_before source given place time
    back_values place = ap (λ (vs : List Logic). value_at vs place) back.values ∙ value_back place

    back_outputs : (place : ℕ) → value_at new.gates.outputs place ≡ made_before source given place time
    back_outputs place =
        back.outputs place
        ∙ output-back source given place time j.mark (cell_at j.gates.cells place) new.gates.values
        (first_before (value_at j.gates.outputs place) (words_at place (flat_map (made_since time) j.queues))) (value_at j.gates.outputs place)
        (played.gates.sources place) back_values (told_back place) (played.showing.outputs place)

    back_come : HaveCome source given time new.history
    back_come =
        let B : Dated Move → Bool = λ d. nat_lt d.0 time in
        record {
          each = λ p.
              ap (of_place p) back.history ∙ filter-comm (λ (d : Dated Move). d.1.place == p) B j.history ∙ ap (filter B) (played.history.each p)
              ∙ moves-cut p (value_before source given p) (λ s. nat_lt s time) time j.mark high (λ s l. lt_true s time l) (λ s l. lt_false s time l);
          order = subst Ascend (sym back.history) (ascend-filter B j.history played.history.order);
        }

    back_made : (number place : ℕ) → HasMade source given floor time new.gates number (queue_at new.queues number) place
    back_made number place =
        let Made : Delayed → ℕ → Type 0 = λ r k. of_place place (standing r.line) ≡ (cond (number == k) (true_since r.delay floor (moves place (made_before source given place) time)) []) in
        subst (λ (qs : List ℕ). Made (queue_at new.queues number) (get_or qs place 0)) (sym back.numbers) (subst (λ (r : Delayed). Made r (queue_of j.gates place)) (sym (back.queues number)) (made_back number place))

    -- Back at a time, all before it is played.
    pub back_plays : IsPlayed source given floor new
    back_plays =
        let to : time ≡ new.mark = sym back.mark in
        record {
          forgotten = omega arith;
          past = λ p t h. played.past p t (subst (λ (cs : List Cell). length cs ≤ p) back.cells h);
          gates = back_stand;
          showing = subst (λ (t : ℕ). AreShowing source given t new.gates) to (record { values = back_values; outputs = back_outputs });
          history = subst (λ (t : ℕ). HaveCome source given t new.history) to back_come;
          queues = λ number. subst (λ (t : ℕ). IsReadTo t (queue_at new.queues number)) to (subst (IsReadTo time) (sym (back.queues number)) (read-back j.mark (queue_at j.queues number) (played.queues number) time high));
          made = λ number place. subst (λ (t : ℕ). HasMade source given floor t new.gates number (queue_at new.queues number) place) to (back_made number place);
        }
