-- What is given from the mark on doesn't matter to what was played.
use Rattle.std.proofs.Common.{◌≡◌, ◌∙◌, ℕ, ◌<◌, ◌≤◌, cond, nat_lt, length, ap, arith}
use Rattle.std.proofs.lemmas.List.{length-map}
use Rattle.gate_values.specs.declared.logic.Logic.{Logic}
use Rattle.gate_values.specs.declared.logic.Logic.TheVariants.{X}
use Rattle.gate_values.specs.Behaviour.{Source}
use Rattle.place_moves.proofs.Regiving.{given_plays}
use Rattle.warp_journal.specs.Books.{journal_of}
use Rattle.warp_engine.specs.Runs.{Run}
use Rattle.warp_part.specs.Portion.{Portion, IsPortion}
use Rattle.warp_part.specs.Placing.{net_of_place, place_source, place_given, cell_by}
use Rattle.warp_part.proofs.Placing.{nothing_past}
use Rattle.part_engine.specs.Runs.{IsRunOf}

pub runs_go_on : (p : Portion) → IsPortion p → (given given' : ℕ → ℕ → Logic) (horizon floor : ℕ) (run : Run) → IsRunOf p given horizon floor run
    → ((t n : ℕ) → t < run.book.mark → given t n ≡ given' t n) → IsRunOf p given' horizon floor run
runs_go_on p portion given given' horizon floor run of agree =
    let source : ℕ → Source = place_source p in
    let old : ℕ → ℕ → Logic = place_given p given in
    let new : ℕ → ℕ → Logic = place_given p given' in
    let same : (t i : ℕ) → t < run.book.mark → old t i ≡ new t i = λ t i l. ap (λ (v : Logic). cond (nat_lt i (length p.nets)) v X) (agree t (net_of_place p i) l) in
    record {
      is = record {
        played = given_plays source old new floor (journal_of run.book) of.is.played same past;
        low = of.is.low;
      };
      horizon = of.horizon;
      cells = of.cells;
      parted = of.parted;
    }
  where
    past : (i t : ℕ) → length run.book.gates.cells ≤ i → place_given p given' t i ≡ X
    past i t far = nothing_past p portion given' i t (let many : length run.book.gates.cells ≡ length p.sources = ap length of.cells ∙ length-map p.sources (cell_by p.nets) in omega (arith, portion.sources))
