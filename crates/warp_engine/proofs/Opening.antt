-- An engine that was opened has run up to time 0.
use Rattle.std.proofs.Common.{◌≡◌, ◌∙◌, ℕ, zero, suc, ◌<◌, ◌≤◌, ◌++◌, inl, inr, List, [], ◌∷◌, map, length, get_or, replicate, refl, ap, sym, subst, arith}
use Rattle.std.proofs.lemmas.Bool.{cases_lt}
use Rattle.std.proofs.lemmas.List.{map-append, length-map, get_or_past, get_or-replicate, length-replicate}
use Rattle.gate_values.specs.declared.logic.Logic.{Logic}
use Rattle.gate_values.specs.declared.logic.Logic.TheVariants.{X}
use Rattle.gate_values.specs.Behaviour.{Source, initial_of}
use Rattle.warp_stores.specs.Delays.{Delayed, queue_at, empty_after}
use Rattle.warp_gates.specs.Cells.{Cell, Outside, Gate, Flop, AreGates, value_at, cell_at, first_output}
use Rattle.place_moves.specs.Journals.{IsBegun, IsSetBy, StandFor, queue_of}
use Rattle.place_moves.proofs.Beginning.{begun_plays}
use Rattle.warp_journal.specs.Books.{all_of, journal_of}
use Rattle.warp_engine.specs.Runs.{Run, IsRun}
use Rattle.warp_engine.specs.Opening.{IsOpened, DoSuit}

-- what cells put out first is what their sources begin with
first_is : (cell : Cell) (s : Source) (content : Logic) → IsSetBy cell s → content ≡ initial_of s → first_output cell content ≡ initial_of s
first_is Outside s content set e = e
first_is (Gate kind inputs) s content set e = sym (ap initial_of set.2)
first_is (Flop d clock) s content set e = e

value_of_many : (n place : ℕ) → value_at (replicate n X) place ≡ X
value_of_many n place = elim (cases_lt place n) [
  | inl l ↦ get_or-replicate n place X X l
  | inr g ↦ get_or_past (replicate n X) place X (omega (arith, length-replicate n X))
]

-- a new queue
new_queue : (delays : List ℕ) (number : ℕ) → queue_at (map empty_after delays) number ≡ empty_after (get_or delays number 0)
new_queue [] number = refl
new_queue (d ∷ ds) zero = refl
new_queue (d ∷ ds) (suc number) = new_queue ds number

module _ (source : ℕ → Source) (given : ℕ → ℕ → Logic) (wiring : List Cell) (numbering read unread : List ℕ) (contents : List Logic) (horizon : ℕ) (run : Run)
    (opened : IsOpened wiring numbering read unread contents horizon run) (gates : AreGates run.book.gates) (suit : DoSuit source wiring numbering (read ++ unread) contents) where
  queues_are : all_of run.book.queues ≡ map empty_after (read ++ unread)
  queues_are = rw (opened.book.read, opened.book.unread) (sym (map-append empty_after read unread))

  queue_is : (number : ℕ) → queue_at (all_of run.book.queues) number ≡ empty_after (get_or (read ++ unread) number 0)
  queue_is number = ap (λ (qs : List Delayed). queue_at qs number) queues_are ∙ new_queue (read ++ unread) number

  number_is : (place : ℕ) → queue_of run.book.gates place ≡ get_or numbering place 0
  number_is place = ap (λ (ns : List ℕ). get_or ns place 0) opened.book.numbers

  cell_same : (place : ℕ) → cell_at run.book.gates.cells place ≡ cell_at wiring place
  cell_same place = ap (λ (cs : List Cell). cell_at cs place) opened.book.cells

  set : (place : ℕ) → IsSetBy (cell_at run.book.gates.cells place) (source place)
  set place = subst (λ (c : Cell). IsSetBy c (source place)) (sym (cell_same place)) (suit.sources place)

  stand : StandFor source run.book.gates (all_of run.book.queues)
  stand =
      let many : length (all_of run.book.queues) ≡ length (read ++ unread) = ap length queues_are ∙ length-map (read ++ unread) empty_after in
      record {
        law = gates;
        sources = set;
        within = λ place h. omega (arith, number_is place, suit.within place h, many);
        delays = λ place h.
            ap (λ (q : Delayed). q.delay) (queue_is (queue_of run.book.gates place)) ∙ ap (λ (n : ℕ). get_or (read ++ unread) n 0) (number_is place) ∙ suit.delays place h;
      }

  begun : IsBegun source (journal_of run.book)
  begun =
      record {
        mark = opened.book.mark;
        history = opened.book.history;
        gates = stand;
        values = λ place. ap (λ (vs : List Logic). value_at vs place) opened.book.values ∙ value_of_many (length wiring) place;
        outputs = λ place. opened.book.outputs place ∙ first_is (cell_at wiring place) (source place) (value_at contents place) (suit.sources place) (suit.contents place);
        read = λ number. ap (λ (q : Delayed). q.line.read) (queue_is number);
        ahead = λ number. ap (λ (q : Delayed). q.line.ahead) (queue_is number);
      }

  pub run_opens : ((place time : ℕ) → length wiring ≤ place → given time place ≡ X) → IsRun source given 0 run
  run_opens past =
      record {
        played = begun_plays source given (journal_of run.book) begun (λ p t l. past p t (subst (λ (cs : List Cell). length cs ≤ p) opened.book.cells l));
        low = omega arith;
      }
