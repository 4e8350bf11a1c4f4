-- What is made from a step on: words of places that there are, that come true a delay after the steps that made them.
use Rattle.std.proofs.Common.{◌≡◌, ◌∙◌, ℕ, suc, ◌+◌, ◌<◌, ◌≤◌, ◌==◌, inl, inr, Bool, true, false, cond, List, [], ◌∷◌, map, length, get_or, refl, ap, sym, subst, arith, nat_le}
use Rattle.std.specs.List.{All, filter, flat_map, AllByRecursion}
use Rattle.std.proofs.lemmas.Bool.{cases_lt, eqb-true, leb-true}
use Rattle.std.proofs.lemmas.List.Elements.{All-from_recursion}
use Rattle.gate_values.specs.declared.logic.Logic.{Logic}
use Rattle.gate_values.specs.Behaviour.{Source, source_delay}
use Rattle.warp_stores.specs.Words.{Move}
use Rattle.warp_stores.specs.Dated.{Dated, standing}
use Rattle.warp_stores.specs.Delays.{Delayed, queue_at, empty_after, told_since, true_since}
use Rattle.warp_gates.specs.Cells.{cell_at}
use Rattle.place_moves.specs.Moves.{of_place, moves, made_before}
use Rattle.place_moves.specs.Journals.{Journal, IsPlayed, queue_of}
use Rattle.place_moves.proofs.Filtering.{filter-comm, filter-map, every-append, every-weaker, every-both, every-kept, every-any, every-filter, every-map}
use Rattle.place_moves.proofs.Moving.{moves-times, moves-still}
use Rattle.place_moves.proofs.Places.{every-place}
use Rattle.place_moves.proofs.Sourcing.{driven_or_not, made-outside}
use Rattle.place_moves.proofs.Stepping.{outside_past}
use Rattle.warp_journal.specs.Books.{journal_of}
use Rattle.warp_engine.specs.Runs.{Run, Ran, makings, AreLater, AreMadeBy}

-- what is true of all that each of some items makes
every-flat_map : {X Y : Type 0} (P : Y → Type 0) (f : X → List Y) (d : X) (xs : List X) → ((i : ℕ) → AllByRecursion P (f (get_or xs i d))) → AllByRecursion P (flat_map f xs)
every-flat_map P f d [] h = tt
every-flat_map P f d (x ∷ xs) h = every-append P (f x) (flat_map f xs) (h 0) (every-flat_map P f d xs (λ i. h (suc i)))

module _ (source : ℕ → Source) (given : ℕ → ℕ → Logic) (floor : ℕ) (j : Journal) (played : IsPlayed source given floor j) where
  -- a word of a queue was made before the mark by the source of its place, which is there, and the queue has the source's delay
  abbrev IsOf : ℕ → ℕ → Dated Move → Type 0
  IsOf number place d = (place < length j.gates.cells) × (0 < source_delay (source place)) × ((queue_at j.queues number).delay ≡ source_delay (source place)) × (d.0 < j.mark)

  there : (place : ℕ) → 0 < source_delay (source place) → place < length j.gates.cells
  there place driven = elim (cases_lt place (length j.gates.cells)) [
    | inl l ↦ l
    | inr far ↦ (let none : source_delay (source place) ≡ 0 = ap source_delay (outside_past source given j.gates j.queues place played.gates far) in absurd (omega arith))
  ]

  made_of : (number place : ℕ) → AllByRecursion (IsOf number place) (of_place place (standing (queue_at j.queues number).line))
  made_of number place =
      subst (AllByRecursion (IsOf number place)) (sym (played.made number place)) (go (number == queue_of j.gates place) (λ e. eqb-true number (queue_of j.gates place) e))
    where
      shown : ℕ → Logic
      shown = made_before source given place

      kept : List (Dated Move)
      kept = true_since (queue_at j.queues number).delay floor (moves place (made_before source given place) j.mark)

      all : number ≡ queue_of j.gates place → AllByRecursion (IsOf number place) (true_since (queue_at j.queues number).delay floor (moves place (made_before source given place) j.mark))
      all own = elim (driven_or_not (cell_at j.gates.cells place) (source place) (played.gates.sources place)) [
        | inl out ↦
            (let none : moves place (made_before source given place) j.mark ≡ [] = moves-still place (made_before source given place) j.mark (λ t. made-outside source given place (suc t) out ∙ sym (made-outside source given place t out)) in
            subst (λ (ws : List (Dated Move)). AllByRecursion (IsOf number place) (true_since (queue_at j.queues number).delay floor ws)) (sym none) tt)
        | inr driven ↦
            (let delay : (queue_at j.queues number).delay ≡ source_delay (source place) = ap (λ (n : ℕ). (queue_at j.queues n).delay) own ∙ played.gates.delays place driven in
            every-filter (λ (d : Dated Move). nat_le floor (d.0 + (queue_at j.queues number).delay)) (IsOf number place) (moves place (made_before source given place) j.mark)
            (every-weaker (λ (d : Dated Move). d.0 < j.mark) (IsOf number place) (moves place (made_before source given place) j.mark) (λ d l. (there place driven, driven, delay, l)) (moves-times place (made_before source given place) j.mark)))
      ]

      go : (b : Bool) → (b ≡ true → number ≡ queue_of j.gates place) → AllByRecursion (IsOf number place) (cond b (true_since (queue_at j.queues number).delay floor (moves place (made_before source given place) j.mark)) [])
      go false own = tt
      go true own = all (own refl)

  -- a word that is told
  abbrev IsTold : ℕ → ℕ → Dated Move → Type 0
  IsTold step last d =
      (d.1.place < length j.gates.cells) × (0 < source_delay (source d.1.place)) × (step + source_delay (source d.1.place) ≤ d.0) × (d.0 < j.mark + source_delay (source d.1.place)) × (d.0 ≤ last)

  told_place : (step last number place : ℕ) → AllByRecursion (IsTold step last) (of_place place (told_since step last (queue_at j.queues number)))
  told_place step last number place =
      let q : Delayed = queue_at j.queues number in
      let P : Dated Move → Bool = λ d. d.1.place == place in
      let S : Dated Move → Bool = λ d. nat_le step d.0 in
      let L : Dated Move → Bool = λ d. nat_le d.0 last in
      let shift : Dated Move → Dated Move = λ d. (d.0 + q.delay, d.1) in
      let at_place : Dated Move → Type 0 = λ d. (d.1.place ≡ place) × IsOf number place d in
      let of_words : AllByRecursion at_place (of_place place (standing q.line)) =
      every-both (λ (d : Dated Move). d.1.place ≡ place) (IsOf number place) at_place (of_place place (standing q.line)) (λ d e is. (e, is))
      (every-kept P (λ (d : Dated Move). Unit {0}) (λ (d : Dated Move). d.1.place ≡ place) (standing q.line) (λ d e u. eqb-true d.1.place place e) (every-any (λ (d : Dated Move). Unit {0}) (standing q.line) (λ d. tt)))
      (made_of number place) in
      let late : Dated Move → Type 0 = λ d. (d.1.place ≡ place) × (place < length j.gates.cells) × (0 < source_delay (source place)) × (step + source_delay (source place) ≤ d.0 + q.delay) × (d.0 + q.delay < j.mark + source_delay (source place)) in
      let since_words : AllByRecursion late (filter S (of_place place (standing q.line))) =
      every-kept S at_place late (of_place place (standing q.line))
      (λ d e is. (let from : step ≤ d.0 = leb-true step d.0 e in (is.0, is.1.0, is.1.1, omega (arith, is.1.2), omega (arith, is.1.2, is.1.3)))) of_words in
      let Shifted : Dated Move → Type 0 = λ d. (d.1.place ≡ place) × (place < length j.gates.cells) × (0 < source_delay (source place)) × (step + source_delay (source place) ≤ d.0) × (d.0 < j.mark + source_delay (source place)) in
      let told : AllByRecursion (IsTold step last) (filter L (map shift (filter S (of_place place (standing q.line))))) =
      every-kept L Shifted (IsTold step last) (map shift (filter S (of_place place (standing q.line))))
      (λ d e is. (let until : d.0 ≤ last = leb-true d.0 last e in
      let same : source_delay (source d.1.place) ≡ source_delay (source place) = ap (λ (n : ℕ). source_delay (source n)) is.0 in
      (omega (arith, is.0, is.1), omega (arith, same, is.2), omega (arith, same, is.3), omega (arith, same, is.4), until)))
      (every-map Shifted shift (filter S (of_place place (standing q.line))) since_words) in
      let is : of_place place (told_since step last q) ≡ filter L (map shift (filter S (of_place place (standing q.line)))) =
      filter-comm P L (map shift (filter S (standing q.line))) ∙ ap (filter L) (filter-map P shift (filter S (standing q.line)) ∙ ap (map shift) (filter-comm P S (standing q.line))) in
      subst (AllByRecursion (IsTold step last)) (sym is) told

  pub told_made : (step last : ℕ) → All (IsTold step last) (flat_map (told_since step last) j.queues)
  told_made step last =
      All-from_recursion (IsTold step last) (flat_map (told_since step last) j.queues)
      (every-flat_map (IsTold step last) (told_since step last) (empty_after 0) j.queues
      (λ number. every-place (λ (d : Dated Move). d.1.place) (IsTold step last) (told_since step last (queue_at j.queues number)) (told_place step last number)))

-- ---- of a run

pub makings_later : (run : Run) (step : ℕ) → Ran run → AreLater step run (makings step run)
makings_later run step ran k d l =
    let is = told_made ran.source ran.given ran.floor (journal_of run.book) ran.is.played step run.horizon k d l in
    (is.0, omega (arith, is.1, is.2), is.4)

pub makings_made : (run : Run) (step : ℕ) (ran : Ran run) → AreMadeBy ran.source step run (makings step run)
makings_made run step ran k d l =
    let is = told_made ran.source ran.given ran.floor (journal_of run.book) ran.is.played step run.horizon k d l in
    (is.1, is.2, is.3)
