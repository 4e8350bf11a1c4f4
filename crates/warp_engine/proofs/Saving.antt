-- What a journal shows of a moment that it has played.
use Rattle.std.proofs.Common.{◌≡◌, ◌∙◌, ℕ, zero, suc, ◌<◌, ◌≤◌, List, map, length, refl, sym, arith}
use Rattle.std.specs.List.{range_with_len}
use Rattle.std.proofs.lemmas.List.FromFn.{get_or-map-range_with_len, length-map-range_with_len}
use Rattle.gate_values.specs.declared.logic.Logic.{Logic}
use Rattle.gate_values.specs.declared.logic.Logic.TheVariants.{X}
use Rattle.gate_values.specs.declared.gate.Kind.{Kind}
use Rattle.gate_values.specs.Behaviour as behaviour
use Rattle.gate_values.specs.Behaviour.{Source, before, history}
use Rattle.warp_stores.specs.Dated.{since, undated}
use Rattle.warp_gates.specs.Cells.{Cell, Outside, Gate, Flop, value_at, cell_at}
use Rattle.place_moves.specs.Moves.{made_before}
use Rattle.place_moves.specs.Journals.{IsPlayed, IsSetBy}
use Rattle.place_moves.proofs.Places.{length-unmoved}
use Rattle.place_moves.proofs.Backing.{value_back, told_back}
use Rattle.place_moves.proofs.Sourcing.{made-flop}
use Rattle.warp_journal.specs.Books.{Book, journal_of}
use Rattle.warp_engine.specs.States.{values_before, output_before, content_by, contents_before}

-- a place that holds nothing has no content
no_content : (source : ℕ → Source) (given : ℕ → ℕ → Logic) (place t : ℕ) → source place ≡ behaviour.Outside → (before source given t).content place ≡ X
unfolding history
no_content source given place zero e = rw e refl
no_content source given place (suc t) e = rw e refl

gate_content : (source : ℕ → Source) (given : ℕ → ℕ → Logic) (place t delay : ℕ) (kind : Kind) (inputs : List ℕ) → source place ≡ behaviour.Gate kind delay inputs → (before source given t).content place ≡ X
unfolding history
gate_content source given place zero delay kind inputs e = rw e refl
gate_content source given place (suc t) delay kind inputs e = rw e refl

content_is_by : (source : ℕ → Source) (given : ℕ → ℕ → Logic) (place t : ℕ) (cell : Cell) (output : Logic) → IsSetBy cell (source place) → output ≡ made_before source given place t → content_by cell output ≡ (before source given t).content place
content_is_by source given place t Outside output set h = sym (no_content source given place t set)
content_is_by source given place t (Gate kind inputs) output set h = sym (gate_content source given place t set.0 kind inputs set.2)
content_is_by source given place t (Flop d clock) output set h = h ∙ made-flop source given place t set.0 d clock set.1 set.3

module _ (source : ℕ → Source) (given : ℕ → ℕ → Logic) (floor time : ℕ) (book : Book) (played : IsPlayed source given floor (journal_of book)) (low : floor ≤ time) (high : time ≤ book.mark) where
  pub values_are : (place : ℕ) → value_at (values_before time book) place ≡ (before source given time).value place
  values_are place = value_back source given floor (journal_of book) played time low high place

  pub contents_are : (place : ℕ) → place < length book.gates.cells → value_at (contents_before time book) place ≡ (before source given time).content place
  contents_are place l =
      at_place (λ p. content_by (cell_at book.gates.cells p) (output_before time book p)) (length book.gates.cells) place l
      ∙ content_is_by source given place time (cell_at book.gates.cells place) (output_before time book place) (played.gates.sources place) (told_back source given floor (journal_of book) played time low high place)
    where
      at_place : (f : ℕ → Logic) (n p : ℕ) → p < n → value_at (map f (range_with_len 0 n)) p ≡ f p
      at_place f n p l = get_or-map-range_with_len f 0 n p p X l (omega arith)

pub many_are : (source : ℕ → Source) (given : ℕ → ℕ → Logic) (floor time : ℕ) (book : Book) → IsPlayed source given floor (journal_of book)
    → (length (values_before time book) ≡ length book.gates.cells) × (length (contents_before time book) ≡ length book.gates.cells)
many_are source given floor time book played = (
  length-unmoved (undated (since time book.history)) book.gates.values ∙ played.gates.law.values,
  length-map-range_with_len (λ p. content_by (cell_at book.gates.cells p) (output_before time book p)) 0 (length book.gates.cells),
)
