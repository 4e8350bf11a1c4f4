-- What calls on the parts of a journal ask: places that are there, each once, and times that don't fall.
use Rattle.std.proofs.Common.{◌≡◌, ◌∙◌, ℕ, suc, ◌<◌, ◌≤◌, List, [], ◌∷◌, ◌++◌, length, ap, sym, subst, arith}
use Rattle.std.specs.List.{flat_map, All, AllByRecursion}
use Rattle.std.proofs.lemmas.List.Elements.{All-from_recursion}
use Rattle.gate_values.specs.declared.logic.Logic.{Logic}
use Rattle.gate_values.specs.declared.logic.Logic.TheVariants.{X}
use Rattle.gate_values.specs.Behaviour.{Source}
use Rattle.warp_stores.specs.Words.{Move}
use Rattle.warp_stores.specs.Dated.{Dated, at, undated, since, standing, last_from, last_time}
use Rattle.warp_stores.specs.Delays.{Delayed, queue_at, due_by, read_by, with_made, made_since}
use Rattle.warp_stores.specs.Order.{AreApart}
use Rattle.warp_gates.specs.Cells as cells
use Rattle.warp_gates.specs.Cells.{value_at}
use Rattle.place_moves.specs.Moves.{of_place, value_before, made_before, last_after, AreChained}
use Rattle.place_moves.specs.Journals.{Journal, IsPlayed, AreBrought, step_words}
use Rattle.place_moves.specs.Inner.Journals.{AreMoves}
use Rattle.place_moves.proofs.Filtering.{every-append, every-weaker}
use Rattle.place_moves.proofs.Moving.{every-at_time, moves-last, moves-chained, moves-still}
use Rattle.place_moves.proofs.Places.{every-within}
use Rattle.place_moves.proofs.Ordering.{apart-from, move_of-few}
use Rattle.place_moves.proofs.Queueing.{standing-step}
use Rattle.place_moves.proofs.Coming.{value-none}
use Rattle.place_moves.proofs.Due.{moves_now, moves_in_order}
use Rattle.place_moves.proofs.Sourcing.{made-outside}
use Rattle.place_moves.proofs.Stepping.{words-within, history-times, queue-times, outside_past}
use Rattle.place_moves.proofs.Backing.{undone-within, all_made}

-- the last of words is no later than all of them
last_from-most : {T : Type 0} (m low : ℕ) (ds : List (Dated T)) → low ≤ m → AllByRecursion (λ d. d.0 ≤ m) ds → last_from low ds ≤ m
last_from-most m low [] l h = l
last_from-most m low (d ∷ ds) l h = last_from-most m d.0 ds h.0 h.1

apart_in_gates : (words : List Move) → AreApart words → cells.AreApart words
apart_in_gates words h = record { apart = λ i j d l m. h i j d l m }

module _ (source : ℕ → Source) (given : ℕ → ℕ → Logic) (floor : ℕ) (j : Journal) (played : IsPlayed source given floor j) where
  within-cells : (words : List Move) → AllByRecursion (λ (w : Move). w.place < length j.gates.values) words → All (λ (w : Move). w.place < length j.gates.cells) words
  within-cells words h = All-from_recursion (λ (w : Move). w.place < length j.gates.cells) words (subst (λ (n : ℕ). AllByRecursion (λ (w : Move). w.place < n) words) played.gates.law.values h)

  module _ (outside : List Move) (brought : AreBrought source given j.mark outside) where
    -- what is due and what is brought can be put in order
    pub sortable : AreApart (flat_map (due_by j.mark) j.queues ++ outside)
    sortable =
        let moving : AreMoves source given j.mark (flat_map (due_by j.mark) j.queues ++ outside) = moves_now source given floor j played outside brought in
        apart-from (flat_map (due_by j.mark) j.queues ++ outside)
        (λ p. subst (λ (ws : List Move). length ws ≤ 1) (sym (moving p)) (move_of-few p (value_before source given p j.mark) (value_before source given p (suc j.mark))))

    pub step_moves : AreMoves source given j.mark (step_words j outside)
    step_moves = (moves_in_order source given j.mark (flat_map (due_by j.mark) j.queues ++ outside) (moves_now source given floor j played outside brought)).0

    -- the words of a step are of the gates' places, each of another one
    pub step_apart : cells.AreApart (step_words j outside)
    step_apart =
        apart_in_gates (step_words j outside) (apart-from (step_words j outside)
        (λ p. subst (λ (ws : List Move). length ws ≤ 1) (sym (step_moves p)) (move_of-few p (value_before source given p j.mark) (value_before source given p (suc j.mark)))))

    pub step_within : All (λ (w : Move). w.place < length j.gates.cells) (step_words j outside)
    step_within = within-cells (step_words j outside) (words-within source given j.mark j.gates j.queues (step_words j outside) played.gates played.past step_moves)

  -- the mark is no earlier than all that came
  pub history-last : last_time j.history ≤ j.mark
  history-last = last_from-most j.mark 0 j.history (omega arith) (every-weaker (λ d. d.0 < j.mark) (λ d. d.0 ≤ j.mark) j.history (λ d l. omega arith) (history-times source given j.mark j.history played.history))

  -- nor than all that was made, some of it at the mark
  pub queue-last : (number : ℕ) (words : List Move) → last_time (standing (with_made j.mark words (read_by j.mark (queue_at j.queues number))).line) ≤ j.mark
  queue-last number words =
      let q : Delayed = queue_at j.queues number in
      subst (λ (xs : List (Dated Move)). last_time xs ≤ j.mark) (sym (standing-step j.mark q (played.queues number) words))
      (last_from-most j.mark 0 (standing q.line ++ at j.mark words) (omega arith)
      (every-append (λ d. d.0 ≤ j.mark) (standing q.line) (at j.mark words)
      (every-weaker (λ d. d.0 < j.mark) (λ d. d.0 ≤ j.mark) (standing q.line) (λ d l. omega arith) (queue-times source given floor j.mark j.gates number q (played.made number)))
      (every-at_time (λ d. d.0 ≤ j.mark) j.mark words (λ w. omega arith))))

  module _ (time : ℕ) (low : floor ≤ time) (high : time ≤ j.mark) where
    -- the words that are taken back are of the gates' places
    pub undone_there : All (λ (w : Move). w.place < length j.gates.cells) (undated (since time j.history))
    undone_there = within-cells (undated (since time j.history)) (undone-within source given floor j played time low high)

    -- and those that are given back
    pub unmade-within : AllByRecursion (λ (w : Move). w.place < length j.gates.cells) (flat_map (made_since time) j.queues)
    unmade-within =
        every-within (λ (w : Move). w.place) (length j.gates.cells) (flat_map (made_since time) j.queues)
        (λ p l. let out = outside_past source given j.gates j.queues p played.gates l in
        all_made source given floor j played time low high p
        ∙ ap (λ (ds : List (Dated Move)). undated (since time ds)) (moves-still p (made_before source given p) j.mark (λ t. made-outside source given p (suc t) out ∙ sym (made-outside source given p t out))))

  -- ---- what the history tells

  -- each word of a place goes from what the one before it left, the first from unknown
  pub history-chained : (place : ℕ) → AreChained X (undated (of_place place j.history))
  history-chained place =
      subst (λ (v : Logic). AreChained v (undated (of_place place j.history))) (value-none source given place)
      (subst (λ (ds : List (Dated Move)). AreChained (value_before source given place 0) (undated ds)) (sym (played.history.each place)) (moves-chained place (value_before source given place) j.mark))

  -- and the last one leaves the place's value
  pub history-tells : (place : ℕ) → last_after X (undated (of_place place j.history)) ≡ value_at j.gates.values place
  history-tells place =
      ap (λ (v : Logic). last_after v (undated (of_place place j.history))) (sym (value-none source given place))
      ∙ ap (λ (ds : List (Dated Move)). last_after (value_before source given place 0) (undated ds)) (played.history.each place)
      ∙ moves-last place (value_before source given place) j.mark ∙ sym (played.showing.values place)
