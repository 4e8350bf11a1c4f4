-- Before the first step nothing is played, and what is forgotten changes nothing that is to come.
use Rattle.std.proofs.Common.{◌≡◌, ◌∙◌, ℕ, ◌+◌, ◌<◌, ◌≤◌, ◌==◌, inl, inr, Bool, true, false, cond, List, [], ◌++◌, length, refl, ap, sym, subst, arith, nat_le}
use Rattle.std.specs.List.{filter, AllByRecursion}
use Rattle.std.proofs.lemmas.Bool.{cases_lt, leb-true}
use Rattle.std.proofs.lemmas.List.{get_or_past}
use Rattle.std.proofs.lemmas.List.Elements.{filter-append}
use Rattle.gate_values.specs.declared.logic.Logic.{Logic}
use Rattle.gate_values.specs.declared.logic.Logic.TheVariants.{X}
use Rattle.gate_values.specs.Behaviour.{Source, initial_of}
use Rattle.warp_stores.specs.Words.{Move}
use Rattle.warp_stores.specs.Dated.{Dated, Rises, standing}
use Rattle.warp_stores.specs.Delays.{Delayed, true_since, queue_at, empty_after, IsForgotten, AreForgotten}
use Rattle.warp_stores.proofs.Telling.{le_true}
use Rattle.warp_gates.specs.Cells.{Gates, cell_at}
use Rattle.place_moves.specs.Moves.{moves, of_place, made_before}
use Rattle.place_moves.specs.Journals.{Journal, IsReadTo, StandFor, HasMade, HaveCome, AreShowing, IsPlayed, IsBegun, HasForgotten, queue_of}
use Rattle.place_moves.proofs.Filtering.{filter-absorb, filter-comm, every-filter, through}
use Rattle.place_moves.proofs.Queueing.{since-floor, rises-filter}
use Rattle.place_moves.proofs.Coming.{value-none}
use Rattle.place_moves.proofs.Sourcing.{formed, cell_is, driven_or_not, made-outside, made-first}

-- ---- the first moment

no_choice : (b : Bool) → ◌≡◌ {A = List (Dated Move)} [] (cond b [] [])
no_choice true = refl
no_choice false = refl

pub begun_plays : (source : ℕ → Source) (given : ℕ → ℕ → Logic) (j : Journal) → IsBegun source j → ((p t : ℕ) → length j.gates.cells ≤ p → given t p ≡ X) → IsPlayed source given 0 j
unfolding moves
begun_plays source given j begun past =
    let to : 0 ≡ j.mark = sym begun.mark in
    let outputs : (p : ℕ) → made_before source given p 0 ≡ initial_of (source p) = λ p.
    elim (driven_or_not (cell_at j.gates.cells p) (source p) (begun.gates.sources p)) [
      | inl out ↦ made-outside source given p 0 out ∙ sym (ap initial_of out)
      | inr h ↦ made-first source given p (formed (length j.gates.cells) (cell_at j.gates.cells p) (source p) (begun.gates.sources p) (cell_is (length j.gates.cells) j.gates.cells p begun.gates.law.closed)) h
    ] in
    record {
      forgotten = omega arith;
      past = past;
      gates = begun.gates;
      showing = subst (λ (t : ℕ). AreShowing source given t j.gates) to (record { values = λ p. begun.values p ∙ sym (value-none source given p); outputs = λ p. begun.outputs p ∙ sym (outputs p) });
      history = subst (λ (t : ℕ). HaveCome source given t j.history) to (subst (HaveCome source given 0) (sym begun.history) (record { each = λ p. refl; order = tt }));
      queues = λ number.
          let q : Delayed = queue_at j.queues number in
          record {
            read = subst (AllByRecursion (λ (d : Dated Move). d.0 + q.delay < j.mark)) (sym (begun.read number)) tt;
            ahead = subst (AllByRecursion (λ (d : Dated Move). j.mark ≤ d.0 + q.delay)) (sym (begun.ahead number)) tt;
            rises = subst (λ (xs : List (Dated Move)). Rises (xs ++ q.line.ahead)) (sym (begun.read number)) (subst Rises (sym (begun.ahead number)) tt);
          };
      made = λ number p.
          let q : Delayed = queue_at j.queues number in
          ap (λ (xs : List (Dated Move)). of_place p (xs ++ q.line.ahead)) (begun.read number) ∙ ap (of_place p) (begun.ahead number)
          ∙ no_choice (number == queue_of j.gates p)
          ∙ ap (λ (t : ℕ). cond (number == queue_of j.gates p) (true_since q.delay 0 (moves p (made_before source given p) t)) []) to;
    }

-- ---- what is forgotten

-- what was read is what came true at a time or later, and what is ahead stays
pub record IsShort (time : ℕ) (old new : Delayed) : Type 0 where
  pub delay : new.delay ≡ old.delay
  pub read : new.line.read ≡ true_since old.delay time old.line.read
  pub ahead : new.line.ahead ≡ old.line.ahead

shortened : (time : ℕ) (old new : List Delayed) → AreForgotten time old new → (number : ℕ) → IsShort time (queue_at old number) (queue_at new number)
shortened time old new h number = elim (cases_lt number (length old)) [
  | inl l ↦ let f : IsForgotten time (queue_at old number) (queue_at new number) = h.each number l in record { delay = f.delay; read = f.read; ahead = f.ahead }
  | inr g ↦
      let was : queue_at old number ≡ empty_after 0 = get_or_past old number (empty_after 0) g in
      let is : queue_at new number ≡ empty_after 0 = get_or_past new number (empty_after 0) (subst (λ (n : ℕ). n ≤ number) (sym h.same) g) in
      subst (λ (q : Delayed). IsShort time q (queue_at new number)) (sym was) (subst (λ (q : Delayed). IsShort time (empty_after 0) q) (sym is) (record { delay = refl; read = refl; ahead = refl }))
]

module _ (mark time : ℕ) (l : time ≤ mark) (old new : Delayed) (r : IsReadTo mark old) (f : IsShort time old new) where
  short-standing : standing new.line ≡ true_since old.delay time (standing old.line)
  short-standing =
      let F : Dated Move → Bool = λ d. nat_le time (d.0 + old.delay) in
      ap (λ (xs : List (Dated Move)). xs ++ new.line.ahead) f.read ∙ ap (λ (xs : List (Dated Move)). true_since old.delay time old.line.read ++ xs) (f.ahead ∙ sym (since-floor mark old r time l))
      ∙ sym (filter-append F old.line.read old.line.ahead)

  short-read : IsReadTo mark new
  short-read =
      let F : Dated Move → Bool = λ d. nat_le time (d.0 + old.delay) in
      record {
        read =
            subst (λ (n : ℕ). AllByRecursion (λ (d : Dated Move). d.0 + n < mark) new.line.read) (sym f.delay)
            (subst (AllByRecursion (λ (d : Dated Move). d.0 + old.delay < mark)) (sym f.read) (every-filter F (λ (d : Dated Move). d.0 + old.delay < mark) old.line.read r.read));
        ahead =
            subst (λ (n : ℕ). AllByRecursion (λ (d : Dated Move). mark ≤ d.0 + n) new.line.ahead) (sym f.delay)
            (subst (AllByRecursion (λ (d : Dated Move). mark ≤ d.0 + old.delay)) (sym f.ahead) r.ahead);
        rises = subst Rises (sym short-standing) (rises-filter F 0 (standing old.line) r.rises);
      }

  short-made : (source : ℕ → Source) (given : ℕ → ℕ → Logic) (floor : ℕ) (gates : Gates) (number place : ℕ) → floor ≤ time → HasMade source given floor mark gates number old place → HasMade source given time mark gates number new place
  short-made source given floor gates number place low made =
      let P : Dated Move → Bool = λ d. d.1.place == place in
      let T : Dated Move → Bool = λ d. nat_le time (d.0 + old.delay) in
      let F : Dated Move → Bool = λ d. nat_le floor (d.0 + old.delay) in
      let all : List (Dated Move) = moves place (made_before source given place) mark in
      ap (filter P) short-standing ∙ filter-comm P T (standing old.line) ∙ ap (filter T) made
      ∙ through (filter T) (number == queue_of gates place) (filter F all) []
      ∙ ap (λ (ws : List (Dated Move)). cond (number == queue_of gates place) ws [])
      (filter-absorb T F all (λ d e. let late : time ≤ d.0 + old.delay = leb-true time (d.0 + old.delay) e in le_true floor (d.0 + old.delay) (omega arith)))
      ∙ ap (λ (n : ℕ). cond (number == queue_of gates place) (true_since n time all) []) (sym f.delay)

-- What came true before a time may be forgotten.
pub forgotten_plays : (source : ℕ → Source) (given : ℕ → ℕ → Logic) (floor time : ℕ) (old new : Journal) → IsPlayed source given floor old → floor ≤ time → time ≤ old.mark → HasForgotten time old new → IsPlayed source given time new
forgotten_plays source given floor time old new played low high h =
    let to : old.mark ≡ new.mark = sym h.mark in
    let same : old.gates ≡ new.gates = sym h.gates in
    let short : (number : ℕ) → IsShort time (queue_at old.queues number) (queue_at new.queues number) = shortened time old.queues new.queues h.queues in
    let stand : StandFor source old.gates new.queues = record {
      law = played.gates.law;
      sources = played.gates.sources;
      within = λ p s. subst (λ (n : ℕ). queue_of old.gates p < n) (sym h.queues.same) (played.gates.within p s);
      delays = λ p s. let f : IsShort time (queue_at old.queues (queue_of old.gates p)) (queue_at new.queues (queue_of old.gates p)) = short (queue_of old.gates p) in f.delay ∙ played.gates.delays p s;
    } in
    record {
      forgotten = omega arith;
      past = λ p t s. played.past p t (subst (λ (g : Gates). length g.cells ≤ p) h.gates s);
      gates = subst (λ (g : Gates). StandFor source g new.queues) same stand;
      showing = subst (λ (t : ℕ). AreShowing source given t new.gates) to (subst (AreShowing source given old.mark) same played.showing);
      history = subst (λ (t : ℕ). HaveCome source given t new.history) to (subst (HaveCome source given old.mark) (sym h.history) played.history);
      queues = λ number. subst (λ (t : ℕ). IsReadTo t (queue_at new.queues number)) to (short-read old.mark time high (queue_at old.queues number) (queue_at new.queues number) (played.queues number) (short number));
      made = λ number p.
          subst (λ (t : ℕ). HasMade source given time t new.gates number (queue_at new.queues number) p) to
          (subst (λ (g : Gates). HasMade source given time old.mark g number (queue_at new.queues number) p) same
          (short-made old.mark time high (queue_at old.queues number) (queue_at new.queues number) (played.queues number) (short number) source given floor old.gates number p low (played.made number p)));
    }
