-- What is true of all gates.
use Rattle.std.proofs.Common.{◌≡◌, ◌∙◌, inl, inr, ℕ, false, List, length, map, sym, subst, arith}
use Rattle.std.proofs.lemmas.Bool.{cases_lt}
use Rattle.std.proofs.lemmas.List.{length-map, get_or_past}
use Rattle.gate_values.specs.declared.logic.Logic.{Logic}
use Rattle.warp_gates.specs.declared.front.Front.{Front}
use Rattle.warp_gates.specs.Cells.{Cell, Outside, Gate, Flop, value_at, cell_at, IsSettled, AreGates}
use Rattle.warp_gates.specs.Inner.Fronts.{front_at, IsFresh}
use Rattle.warp_gates.specs.Inner.Held.{AreHeld}
use Rattle.warp_gates.specs.Shown.Held.{gates_of}
use Rattle.warp_gates.proofs.Steps.{nothing, output-map}

settled_cell : (values : List Logic) (cell : Cell) (f : Front) (v : Logic) → v ≡ f.output → f.is_stale ≡ false → IsFresh values cell f → IsSettled values cell v
settled_cell values Outside f v is fresh h = tt
settled_cell values (Flop d clock) f v is fresh h = tt
settled_cell values (Gate kind inputs) f v is fresh h = elim h [
  | inl stale ↦ cc
  | inr output ↦ is ∙ output
]

pub gates_law : (cells : List Cell) (fronts : List Front) (values : List Logic) (rows flops : List (List ℕ)) → AreHeld cells fronts values rows flops → AreGates (gates_of cells fronts values)
gates_law cells fronts values rows flops held =
    let many : length fronts ≡ length cells = held.fronts.same in
    record {
      queues = length-map fronts (λ (f : Front). f.queue) ∙ many;
      values = held.values;
      outputs = length-map fronts (λ (f : Front). f.output) ∙ many;
      closed = held.closed;
      settled = λ place. elim (cases_lt place (length cells)) [
        | inl lt ↦ settled_cell values (cell_at cells place) (front_at nothing fronts place) (value_at (map (λ (f : Front). f.output) fronts) place) (output-map fronts place) (held.settled.each place nothing (omega arith)) (held.fronts.fresh place nothing lt)
        | inr ge ↦ subst (λ (c : Cell). IsSettled values c (value_at (map (λ (f : Front). f.output) fronts) place)) (sym (get_or_past cells place Outside ge)) tt
      ];
    }
