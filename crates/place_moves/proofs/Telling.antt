-- The log of a place: what came true, and what is ahead of its queue.
use Rattle.std.proofs.Common.{◌≡◌, ◌∙◌, ℕ, zero, suc, ◌+◌, ◌-◌, ◌<◌, ◌≤◌, ◌==◌, min, inl, inr, Bool, cond, List, [], ◌++◌, map, refl, ap, sym, arith, nat_le, append_assoc}
use Rattle.std.specs.List.{filter, flat_map}
use Rattle.std.proofs.lemmas.Bool.{cases_lt, eq-eqb, ne_eqb, leb-true, cond-true, cond-false}
use Rattle.std.proofs.lemmas.List.{map-append}
use Rattle.std.proofs.lemmas.List.Elements.{filter-append}
use Rattle.gate_values.specs.declared.logic.Logic.{Logic}
use Rattle.gate_values.specs.declared.logic.Change.{Change}
use Rattle.gate_values.specs.Behaviour as behaviour
use Rattle.gate_values.specs.Behaviour.{Source, source_delay, value}
use Rattle.gate_values.specs.Changes.{changes, before_time}
use Rattle.gate_values.proofs.ChangeLists.{before_time-changes}
use Rattle.warp_stores.specs.Words.{Move}
use Rattle.warp_stores.specs.Dated.{Dated, since, standing}
use Rattle.warp_stores.specs.Delays.{Delayed, true_since, queue_at, empty_after, told_since}
use Rattle.warp_stores.specs.Lists.{changes_at}
use Rattle.warp_stores.proofs.Telling.{le_true, le_false}
use Rattle.place_moves.specs.Moves.{moves, of_place, delayed, value_before, made_before}
use Rattle.place_moves.specs.Journals.{Journal, IsPlayed, queue_of}
use Rattle.place_moves.proofs.Filtering.{filter-comm, filter-absorb, filter-map, filter-flat_map, flat_map-only, through}
use Rattle.place_moves.proofs.Moving.{moves-quiet, moves-all, moves-none, moves-cut, moves-split, moves-later, moves-still, moves-changes, moves-of_place}
use Rattle.place_moves.proofs.Coming.{value-later, value-first, value-none}
use Rattle.place_moves.proofs.Sourcing.{made-outside}
use Rattle.place_moves.proofs.Due.{ahead_of}

-- what came up to a last time
abbrev pub up_to : ℕ → List (Dated Move) → List (Dated Move)
up_to last words = filter (λ d. nat_le d.0 last) words

pub moves-up_to : (place last end : ℕ) (shown : ℕ → Logic) → up_to last (moves place shown end) ≡ moves place shown (min end (last + 1))
moves-up_to place last end shown = elim (cases_lt end (last + 1)) [
  | inl l ↦ moves-all place shown (λ s. nat_le s last) end (λ s k. le_true s last (omega arith)) ∙ ap (moves place shown) (let e : end ≡ min end (last + 1) = omega arith in e)
  | inr g ↦ moves-cut place shown (λ s. nat_le s last) (last + 1) end g (λ s k. le_true s last (omega arith)) (λ s k. le_false s last (omega arith)) ∙ ap (moves place shown) (let e : last + 1 ≡ min end (last + 1) = omega arith in e)
]

module _ (source : ℕ → Source) (given : ℕ → ℕ → Logic) (place : ℕ) where
  -- until a delay has passed there is only what it begins with
  pub moves-early : (k : ℕ) → k < source_delay (source place) → moves place (value_before source given place) (suc k) ≡ moves place (value_before source given place) 1
  moves-early zero l = refl
  moves-early (suc k) l =
      moves-quiet place (value_before source given place) (suc k)
      (value-first source given place (suc (suc k)) (omega arith) (omega arith) ∙ sym (value-first source given place (suc k) (omega arith) (omega arith)))
      ∙ moves-early k (omega arith)

  -- a place's moves are what it begins with, and what was made, a delay later
  pub moves_are : (end : ℕ) → 0 < source_delay (source place)
      → moves place (value_before source given place) (end + source_delay (source place)) ≡ moves place (value_before source given place) 1 ++ delayed (source_delay (source place)) (moves place (made_before source given place) end)
  moves_are end h =
      let delay : ℕ = source_delay (source place) in
      let e : delay ≡ suc (delay - 1) = omega arith in
      moves-later place delay (value_before source given place) (made_before source given place) (λ t. value-later source given place t h) end
      ∙ ap (λ (ws : List (Dated Move)). ws ++ delayed delay (moves place (made_before source given place) end)) (ap (moves place (value_before source given place)) e ∙ moves-early (delay - 1) (omega arith))

  -- and what was made from a time on comes behind those of what was made before it
  pub moves_grow : (time end : ℕ) → time ≤ end → 0 < source_delay (source place)
      → moves place (value_before source given place) (end + source_delay (source place))
      ≡ moves place (value_before source given place) (time + source_delay (source place)) ++ delayed (source_delay (source place)) (since time (moves place (made_before source given place) end))
  moves_grow time end l h =
      let delay : ℕ = source_delay (source place) in
      let first : List (Dated Move) = moves place (value_before source given place) 1 in
      let early : List (Dated Move) = moves place (made_before source given place) time in
      let late : List (Dated Move) = since time (moves place (made_before source given place) end) in
      let shift : Dated Move → Dated Move = λ d. (d.0 + delay, d.1) in
      moves_are end h
      ∙ ap (λ (ws : List (Dated Move)). first ++ delayed delay ws) (moves-split place (made_before source given place) (λ s. nat_le time s) time end l (λ s k. le_false time s k) (λ s k. le_true time s k))
      ∙ ap (λ (ws : List (Dated Move)). first ++ ws) (map-append shift early late)
      ∙ sym (append_assoc first (delayed delay early) (delayed delay late))
      ∙ ap (λ (ws : List (Dated Move)). ws ++ delayed delay late) (sym (moves_are time h))

  -- the changes of what came up to a last time are those of the place's value
  pub changes_are : (last end : ℕ) → changes_at place (up_to last (moves place (value_before source given place) end)) ≡ before_time end (changes (value source given place) (last + 1))
  changes_are last end =
      ap (changes_at place) (moves-up_to place last end (value_before source given place))
      ∙ ap (map (λ (d : Dated Move). record { time = d.0; value = d.1.after })) (moves-of_place place (value_before source given place) (min end (last + 1)))
      ∙ moves-changes place (value_before source given place) (value source given place) (value-none source given place) (λ t. refl) (min end (last + 1))
      ∙ sym (before_time-changes (value source given place) end (last + 1))

module _ (source : ℕ → Source) (given : ℕ → ℕ → Logic) (floor : ℕ) (j : Journal) (played : IsPlayed source given floor j) (place : ℕ) where
  -- what is ahead of the place's own queue
  own_ahead : of_place place (queue_at j.queues (queue_of j.gates place)).line.ahead ≡ true_since (queue_at j.queues (queue_of j.gates place)).delay j.mark (moves place (made_before source given place) j.mark)
  own_ahead =
      let k : ℕ = queue_of j.gates place in
      ahead_of source given floor j played k place
      ∙ cond-true (k == k) (true_since (queue_at j.queues k).delay j.mark (moves place (made_before source given place) j.mark)) [] (eq-eqb k k refl)

  -- What came true of a place, and then what is ahead of its queue, are its moves up to a delay past the mark.
  pub log_is : 0 < source_delay (source place) → 0 < j.mark
      → moves place (value_before source given place) (j.mark + source_delay (source place)) ≡ of_place place j.history ++ delayed (source_delay (source place)) (of_place place (queue_at j.queues (queue_of j.gates place)).line.ahead)
  log_is h some =
      let delay : ℕ = source_delay (source place) in
      let q : Delayed = queue_at j.queues (queue_of j.gates place) in
      let same : q.delay ≡ delay = played.gates.delays place h in
      let shown : ℕ → Logic = value_before source given place in
      let made : List (Dated Move) = moves place (made_before source given place) j.mark in
      let S : Dated Move → Bool = λ d. nat_le j.mark d.0 in
      let shift : Dated Move → Dated Move = λ d. (d.0 + delay, d.1) in
      let ahead : of_place place q.line.ahead ≡ true_since delay j.mark made = own_ahead ∙ ap (λ (n : ℕ). true_since n j.mark made) same in
      moves-split place shown (λ s. nat_le j.mark s) j.mark (j.mark + delay) (omega arith) (λ s k. le_false j.mark s k) (λ s k. le_true j.mark s k)
      ∙ ap (λ (ws : List (Dated Move)). ws ++ filter S (moves place shown (j.mark + delay))) (sym (played.history.each place))
      ∙ ap (λ (ws : List (Dated Move)). of_place place j.history ++ ws)
      (ap (filter S) (moves_are source given place j.mark h)
      ∙ filter-append S (moves place shown 1) (delayed delay made)
      ∙ ap (λ (ws : List (Dated Move)). ws ++ filter S (delayed delay made)) (moves-none place shown (λ s. nat_le j.mark s) 1 (λ s k. le_false j.mark s (omega arith)))
      ∙ filter-map S shift made ∙ ap (delayed delay) (sym ahead))

  -- what of a queue's words is told of the place
  told_in : (number time last : ℕ) → floor ≤ time → of_place place (told_since time last (queue_at j.queues number))
      ≡ cond (number == queue_of j.gates place) (up_to last (delayed (queue_at j.queues number).delay (since time (moves place (made_before source given place) j.mark)))) []
  told_in number time last low =
      let q : Delayed = queue_at j.queues number in
      let P : Dated Move → Bool = λ d. d.1.place == place in
      let S : Dated Move → Bool = λ d. nat_le time d.0 in
      let L : Dated Move → Bool = λ d. nat_le d.0 last in
      let F : Dated Move → Bool = λ d. nat_le floor (d.0 + q.delay) in
      let shift : Dated Move → Dated Move = λ d. (d.0 + q.delay, d.1) in
      let all : List (Dated Move) = moves place (made_before source given place) j.mark in
      filter-comm P L (map shift (filter S (standing q.line)))
      ∙ ap (filter L) (filter-map P shift (filter S (standing q.line)) ∙ ap (map shift) (filter-comm P S (standing q.line) ∙ ap (filter S) (played.made number place)))
      ∙ through (λ (ws : List (Dated Move)). filter L (map shift (filter S ws))) (number == queue_of j.gates place) (filter F all) []
      ∙ ap (λ (ws : List (Dated Move)). cond (number == queue_of j.gates place) (filter L (map shift ws)) [])
      (filter-absorb S F all (λ d e. let late : time ≤ d.0 = leb-true time d.0 e in le_true floor (d.0 + q.delay) (omega arith)))

  pub told_all : (time last : ℕ) → floor ≤ time → of_place place (flat_map (told_since time last) j.queues)
      ≡ up_to last (delayed (queue_at j.queues (queue_of j.gates place)).delay (since time (moves place (made_before source given place) j.mark)))
  told_all time last low =
      let k : ℕ = queue_of j.gates place in
      let told : ℕ → List (Dated Move) = λ i. up_to last (delayed (queue_at j.queues i).delay (since time (moves place (made_before source given place) j.mark))) in
      filter-flat_map (λ (d : Dated Move). d.1.place == place) (told_since time last) j.queues
      ∙ flat_map-only (λ (q : Delayed). of_place place (told_since time last q)) (empty_after 0) j.queues k refl (λ i n. told_in i time last low ∙ cond-false (i == k) (told i) [] (ne_eqb i k n))
      ∙ told_in k time last low ∙ cond-true (k == k) (told k) [] (eq-eqb k k refl)

  -- What is told from a time on makes the place's log longer, to one delay past the mark.
  pub log_grows : (time last : ℕ) → floor ≤ time → time ≤ j.mark → 0 < source_delay (source place)
      → up_to last (moves place (value_before source given place) (j.mark + source_delay (source place)))
      ≡ up_to last (moves place (value_before source given place) (time + source_delay (source place))) ++ of_place place (flat_map (told_since time last) j.queues)
  log_grows time last low high h =
      let delay : ℕ = source_delay (source place) in
      let L : Dated Move → Bool = λ d. nat_le d.0 last in
      let shown : ℕ → Logic = value_before source given place in
      let late : List (Dated Move) = since time (moves place (made_before source given place) j.mark) in
      ap (filter L) (moves_grow source given place time j.mark high h)
      ∙ filter-append L (moves place shown (time + delay)) (delayed delay late)
      ∙ ap (λ (ws : List (Dated Move)). filter L (moves place shown (time + delay)) ++ ws)
      (ap (λ (n : ℕ). filter L (delayed n late)) (sym (played.gates.delays place h)) ∙ sym (told_all time last low))

  -- the same as changes, up to a horizon
  pub changes_grow : (time last : ℕ) → floor ≤ time → time ≤ j.mark → 0 < source_delay (source place)
      → before_time (j.mark + source_delay (source place)) (changes (value source given place) (last + 1))
      ≡ before_time (time + source_delay (source place)) (changes (value source given place) (last + 1)) ++ changes_at place (flat_map (told_since time last) j.queues)
  changes_grow time last low high h =
      let delay : ℕ = source_delay (source place) in
      let P : Dated Move → Bool = λ d. d.1.place == place in
      let before : List (Dated Move) = up_to last (moves place (value_before source given place) (time + delay)) in
      let told : List (Dated Move) = flat_map (told_since time last) j.queues in
      let change : Dated Move → Change = λ d. record { time = d.0; value = d.1.after } in
      sym (changes_are source given place last (j.mark + delay))
      ∙ ap (changes_at place) (log_grows time last low high h)
      ∙ ap (map change) (filter-append P before (of_place place told) ∙ ap (λ (ws : List (Dated Move)). filter P before ++ ws) (filter-absorb P P told (λ d e. e)))
      ∙ map-append change (filter P before) (of_place place told)
      ∙ ap (λ (cs : List Change). cs ++ changes_at place told) (changes_are source given place last (time + delay))

  -- of a place that is set from outside nothing is told
  pub outside_told : (time last : ℕ) → floor ≤ time → source place ≡ behaviour.Outside → of_place place (flat_map (told_since time last) j.queues) ≡ []
  outside_told time last low e =
      told_all time last low
      ∙ ap (λ (ws : List (Dated Move)). up_to last (delayed (queue_at j.queues (queue_of j.gates place)).delay (since time ws)))
      (moves-still place (made_before source given place) j.mark (λ t. made-outside source given place (suc t) e ∙ sym (made-outside source given place t e)))
