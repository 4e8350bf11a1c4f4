-- What comes true at a mark.
use Rattle.std.proofs.Common.{◌≡◌, ◌∙◌, ℕ, zero, suc, ◌+◌, ◌-◌, ◌<◌, ◌≤◌, ◌==◌, inl, inr, Bool, ◌&&◌, cond, List, [], ◌++◌, length, refl, ap, sym, subst, arith, nat_lt, nat_le}
use Rattle.std.specs.List.{filter, flat_map}
use Rattle.std.proofs.lemmas.Bool.{cases_lt, eq-eqb, ne_eqb, leb-true, cond-true, cond-false, and_left, and_right, and_from}
use Rattle.std.proofs.lemmas.List.{append-nil}
use Rattle.std.proofs.lemmas.List.Elements.{filter-append}
use Rattle.gate_values.specs.declared.logic.Logic.{Logic}
use Rattle.gate_values.specs.declared.logic.Logic.TheVariants.{X}
use Rattle.gate_values.specs.Behaviour as behaviour
use Rattle.gate_values.specs.Behaviour.{Source, source_delay, initial_of, IsWellFormed}
use Rattle.gate_values.proofs.Beginning.{initial_before}
use Rattle.warp_stores.specs.Words.{Move}
use Rattle.warp_stores.specs.Dated.{Dated, at, undated, standing}
use Rattle.warp_stores.specs.Delays.{Delayed, true_before, true_since, queue_at, empty_after, due_by}
use Rattle.warp_stores.specs.Lists.{words_at}
use Rattle.warp_stores.specs.Order.{by_place}
use Rattle.warp_stores.proofs.Telling.{lt_true, lt_false, le_true, le_false}
use Rattle.warp_gates.specs.Cells.{cell_at}
use Rattle.place_moves.specs.Moves.{move_of, moves, of_place, value_before, made_before, brought_before, Ascend}
use Rattle.place_moves.specs.Journals.{Journal, IsPlayed, AreBrought, queue_of}
use Rattle.place_moves.specs.Inner.Journals.{AreMoves}
use Rattle.place_moves.proofs.Filtering.{filter-comm, filter-absorb, filter-filter, filter-flat_map, flat_map-only, through}
use Rattle.place_moves.proofs.Moving.{move_of-same, moves-none, moves-one, moves-still, undated-at}
use Rattle.place_moves.proofs.Places.{words-undated}
use Rattle.place_moves.proofs.Ordering.{words-by_place, in_order, move_of-few}
use Rattle.place_moves.proofs.Queueing.{ahead-is}
use Rattle.place_moves.proofs.Coming.{value-later, value-first, value-none}
use Rattle.place_moves.proofs.Sourcing.{formed, cell_is, driven_or_not, made-outside, value-outside, brought-driven}

move_same : (place : ℕ) (a a' b b' : Logic) → a ≡ a' → b ≡ b' → move_of place a b ≡ move_of place a' b'
move_same place a a' b b' e f = rw (e, f) refl

-- what of words comes true just at a mark
pub due_of_all : ℕ → ℕ → List (Dated Move) → List Move
due_of_all delay mark words = undated (true_before delay (suc mark) (true_since delay mark words))

abbrev just_at : ℕ → ℕ → ℕ → Bool
just_at delay mark s = nat_le mark (s + delay) && nat_lt (s + delay) (suc mark)

just : (delay mark : ℕ) (words : List (Dated Move)) → due_of_all delay mark words ≡ undated (filter (λ (d : Dated Move). just_at delay mark d.0) words)
unfolding due_of_all
just delay mark words = ap undated (filter-filter (λ (d : Dated Move). nat_lt (d.0 + delay) (suc mark)) (λ (d : Dated Move). nat_le mark (d.0 + delay)) words)

-- ---- what a queue gives of a place

module _ (source : ℕ → Source) (given : ℕ → ℕ → Logic) (floor : ℕ) (j : Journal) (played : IsPlayed source given floor j) where
  abbrev pub made_at : ℕ → ℕ → List (Dated Move)
  made_at number place = moves place (made_before source given place) j.mark

  pub ahead_of : (number place : ℕ) → of_place place (queue_at j.queues number).line.ahead
      ≡ cond (number == queue_of j.gates place) (true_since (queue_at j.queues number).delay j.mark (made_at number place)) []
  ahead_of number place =
      let q : Delayed = queue_at j.queues number in
      let P : Dated Move → Bool = λ d. d.1.place == place in
      let S : Dated Move → Bool = λ d. nat_le j.mark (d.0 + q.delay) in
      let F : Dated Move → Bool = λ d. nat_le floor (d.0 + q.delay) in
      ap (of_place place) (sym (ahead-is j.mark q (played.queues number)))
      ∙ filter-comm P S (standing q.line)
      ∙ ap (filter S) (played.made number place)
      ∙ through (filter S) (number == queue_of j.gates place) (filter F (made_at number place)) []
      ∙ ap (λ (ws : List (Dated Move)). cond (number == queue_of j.gates place) ws [])
      (filter-absorb S F (made_at number place) (λ d e. let late : j.mark ≤ d.0 + q.delay = leb-true j.mark (d.0 + q.delay) e in le_true floor (d.0 + q.delay) (omega (arith, played.forgotten))))

  due_in : (number place : ℕ) → words_at place (due_by j.mark (queue_at j.queues number)) ≡ cond (number == queue_of j.gates place) (due_of_all (queue_at j.queues number).delay j.mark (made_at number place)) []
  unfolding due_of_all
  due_in number place =
      let q : Delayed = queue_at j.queues number in
      let P : Dated Move → Bool = λ d. d.1.place == place in
      let B : Dated Move → Bool = λ d. nat_lt (d.0 + q.delay) (suc j.mark) in
      words-undated place (filter B q.line.ahead)
      ∙ ap undated (filter-comm P B q.line.ahead ∙ ap (filter B) (ahead_of number place))
      ∙ through (λ (ws : List (Dated Move)). undated (filter B ws)) (number == queue_of j.gates place) (true_since q.delay j.mark (made_at number place)) []

  -- all queues give what the place's own one does
  pub due_all : (place : ℕ) → words_at place (flat_map (due_by j.mark) j.queues) ≡ due_of_all (queue_at j.queues (queue_of j.gates place)).delay j.mark (moves place (made_before source given place) j.mark)
  due_all place =
      let k : ℕ = queue_of j.gates place in
      let f : Delayed → List Move = λ q. words_at place (due_by j.mark q) in
      filter-flat_map (λ (w : Move). w.place == place) (due_by j.mark) j.queues
      ∙ flat_map-only f (empty_after 0) j.queues k refl (λ i n. due_in i place ∙ cond-false (i == k) (due_of_all (queue_at j.queues i).delay j.mark (made_at i place)) [] (ne_eqb i k n))
      ∙ due_in k place ∙ cond-true (k == k) (due_of_all (queue_at j.queues k).delay j.mark (made_at k place)) [] (eq-eqb k k refl)

  due_outside : (place : ℕ) → source place ≡ behaviour.Outside → words_at place (flat_map (due_by j.mark) j.queues) ≡ []
  unfolding due_of_all
  due_outside place e =
      due_all place ∙ ap (due_of_all (queue_at j.queues (queue_of j.gates place)).delay j.mark)
      (moves-still place (made_before source given place) j.mark (λ t. made-outside source given place (suc t) e ∙ sym (made-outside source given place t e)))

  due_early : (place : ℕ) → 0 < source_delay (source place) → j.mark < source_delay (source place) → words_at place (flat_map (due_by j.mark) j.queues) ≡ []
  due_early place h l =
      let delay : ℕ = (queue_at j.queues (queue_of j.gates place)).delay in
      let d : delay ≡ source_delay (source place) = played.gates.delays place h in
      due_all place ∙ just delay j.mark (moves place (made_before source given place) j.mark)
      ∙ ap undated (moves-none place (made_before source given place) (just_at delay j.mark) j.mark
      (λ s k. and_right (nat_le j.mark (s + delay)) (nat_lt (s + delay) (suc j.mark)) (lt_false (s + delay) (suc j.mark) (omega arith))))

  due_late : (place step : ℕ) → 0 < source_delay (source place) → step + source_delay (source place) ≡ j.mark
      → words_at place (flat_map (due_by j.mark) j.queues) ≡ move_of place (made_before source given place step) (made_before source given place (suc step))
  due_late place step h e =
      let delay : ℕ = (queue_at j.queues (queue_of j.gates place)).delay in
      let d : delay ≡ source_delay (source place) = played.gates.delays place h in
      due_all place ∙ just delay j.mark (moves place (made_before source given place) j.mark)
      ∙ ap undated (moves-one place (made_before source given place) (just_at delay j.mark) step j.mark (omega arith)
      (λ s n. elim (cases_lt (s + delay) j.mark) [
        | inl early ↦ and_left (nat_le j.mark (s + delay)) (nat_lt (s + delay) (suc j.mark)) (le_false j.mark (s + delay) early)
        | inr past ↦ and_right (nat_le j.mark (s + delay)) (nat_lt (s + delay) (suc j.mark)) (lt_false (s + delay) (suc j.mark) (omega arith))
      ])
      (and_from (nat_le j.mark (step + delay)) (nat_lt (step + delay) (suc j.mark)) (le_true j.mark (step + delay) (omega arith)) (lt_true (step + delay) (suc j.mark) (omega arith))))
      ∙ undated-at step (move_of place (made_before source given place step) (made_before source given place (suc step)))

  -- ---- what moves

  now_early : (place : ℕ) (words : List Move) (t : ℕ) → t ≡ j.mark → IsWellFormed (source place) → 0 < source_delay (source place) → t < source_delay (source place) → words_at place words ≡ move_of place (brought_before source given place t) (brought_before source given place (suc t))
      → words_at place (flat_map (due_by j.mark) j.queues) ++ words_at place words ≡ move_of place (value_before source given place t) (value_before source given place (suc t))
  now_early place words zero at w h l brought =
      ap (λ (ws : List Move). ws ++ words_at place words) (due_early place h (omega arith))
      ∙ brought
      ∙ move_same place X (value_before source given place 0) (brought_before source given place 1) (value_before source given place 1) (sym (value-none source given place))
      (brought-driven source given place 0 h ∙ sym (initial_before source given place 0 w h))
  now_early place words (suc t) at w h l brought =
      let first : Logic = made_before source given place 0 in
      ap (λ (ws : List Move). ws ++ words_at place words) (due_early place h (omega arith))
      ∙ brought
      ∙ move_same place (brought_before source given place (suc t)) (initial_of (source place)) (brought_before source given place (suc (suc t))) (initial_of (source place)) (brought-driven source given place t h) (brought-driven source given place (suc t) h)
      ∙ move_of-same place (initial_of (source place))
      ∙ sym (move_of-same place first)
      ∙ move_same place first (value_before source given place (suc t)) first (value_before source given place (suc (suc t)))
      (sym (value-first source given place (suc t) (omega arith) (omega arith))) (sym (value-first source given place (suc (suc t)) (omega arith) (omega arith)))

  now_late : (place : ℕ) (words : List Move) (t : ℕ) → suc t ≡ j.mark → 0 < source_delay (source place) → source_delay (source place) ≤ suc t → words_at place words ≡ move_of place (brought_before source given place (suc t)) (brought_before source given place (suc (suc t)))
      → words_at place (flat_map (due_by j.mark) j.queues) ++ words_at place words ≡ move_of place (value_before source given place (suc t)) (value_before source given place (suc (suc t)))
  now_late place words t at h l brought =
      let delay : ℕ = source_delay (source place) in
      let step : ℕ = suc t - delay in
      let e : step + delay ≡ suc t = omega arith in
      let e' : suc step + delay ≡ suc (suc t) = omega arith in
      let none : words_at place words ≡ [] = brought
      ∙ move_same place (brought_before source given place (suc t)) (initial_of (source place)) (brought_before source given place (suc (suc t))) (initial_of (source place)) (brought-driven source given place t h) (brought-driven source given place (suc t) h)
      ∙ move_of-same place (initial_of (source place)) in
      ap (λ (ws : List Move). words_at place (flat_map (due_by j.mark) j.queues) ++ ws) none
      ∙ append-nil (words_at place (flat_map (due_by j.mark) j.queues))
      ∙ due_late place step h (e ∙ at)
      ∙ move_same place (made_before source given place step) (value_before source given place (suc t)) (made_before source given place (suc step)) (value_before source given place (suc (suc t)))
      (sym (ap (value_before source given place) (sym e) ∙ value-later source given place step h)) (sym (ap (value_before source given place) (sym e') ∙ value-later source given place (suc step) h))

  now_driven : (place : ℕ) (words : List Move) (t : ℕ) → t ≡ j.mark → IsWellFormed (source place) → 0 < source_delay (source place) → words_at place words ≡ move_of place (brought_before source given place t) (brought_before source given place (suc t))
      → words_at place (flat_map (due_by j.mark) j.queues) ++ words_at place words ≡ move_of place (value_before source given place t) (value_before source given place (suc t))
  now_driven place words zero at w h brought = now_early place words 0 at w h h brought
  now_driven place words (suc t) at w h brought = elim (cases_lt (suc t) (source_delay (source place))) [
    | inl l ↦ now_early place words (suc t) at w h l brought
    | inr g ↦ now_late place words t at h g brought
  ]

  -- What is due, and what is brought from outside, is what moves.
  pub moves_now : (words : List Move) → AreBrought source given j.mark words → AreMoves source given j.mark (flat_map (due_by j.mark) j.queues ++ words)
  moves_now words brought place =
      let due : List Move = flat_map (due_by j.mark) j.queues in
      filter-append (λ (w : Move). w.place == place) due words
      ∙ elim (driven_or_not (cell_at j.gates.cells place) (source place) (played.gates.sources place)) [
        | inl e ↦
            ap (λ (ws : List Move). ws ++ words_at place words) (due_outside place e) ∙ brought place
            ∙ move_same place (brought_before source given place j.mark) (value_before source given place j.mark) (brought_before source given place (suc j.mark)) (value_before source given place (suc j.mark))
            (sym (value-outside source given place j.mark e)) (sym (value-outside source given place (suc j.mark) e))
        | inr h ↦
            now_driven place words j.mark refl
            (formed (length j.gates.cells) (cell_at j.gates.cells place) (source place) (played.gates.sources place) (cell_is (length j.gates.cells) j.gates.cells place played.gates.law.closed)) h (brought place)
      ]

-- What moves is what moves in order of places too, where no place comes twice.
pub moves_in_order : (source : ℕ → Source) (given : ℕ → ℕ → Logic) (time : ℕ) (words : List Move) → AreMoves source given time words → AreMoves source given time (by_place words) × Ascend (at time (by_place words))
moves_in_order source given time words moving =
    let few : (place : ℕ) → length (words_at place words) ≤ 1 = λ place. subst (λ (ws : List Move). length ws ≤ 1) (sym (moving place)) (move_of-few place (value_before source given place time) (value_before source given place (suc time))) in
    (λ place. words-by_place place words (few place) ∙ moving place, in_order time words few)
