-- Words are taken back from gates, and what was put is given back.
use Rattle.std.proofs.Common.{◌≡◌, ◌∙◌, ℕ, ◌<◌, ◌==◌, List, ◌++◌, length, ap, sym, subst}
use Rattle.std.specs.List.{AllByRecursion}
use Rattle.std.proofs.lemmas.List.Elements.{filter-append}
use Rattle.gate_values.specs.declared.logic.Logic.{Logic}
use Rattle.warp_stores.specs.Words.{Move}
use Rattle.warp_stores.specs.Lists.{words_at}
use Rattle.warp_gates.specs.Cells.{Cell, Outside, Gate, Flop, Gates, value_at, cell_at, gate_output, unmoved, settled_output, restored_output, HaveSettled, HaveRestored}
use Rattle.place_moves.specs.Moves.{first_before}
use Rattle.place_moves.specs.Journals.{output_back}
use Rattle.place_moves.proofs.Filtering.{every-append}
use Rattle.place_moves.proofs.Moving.{first_before-append}
use Rattle.place_moves.proofs.Places.{value-unmoved}

back_one : (cell : Cell) (then now : List Logic) (words : List Move) (first mid last : Logic) → now ≡ then → mid ≡ settled_output then cell first → last ≡ restored_output cell (first_before mid words) mid → last ≡ output_back now cell (first_before first words) first
back_one Outside then now words first mid last same settled restored = restored ∙ settled
back_one (Gate kind inputs) then now words first mid last same settled restored = restored ∙ settled ∙ ap (λ (vs : List Logic). gate_output vs kind inputs) (sym same)
back_one (Flop d clock) then now words first mid last same settled restored = restored ∙ ap (λ (v : Logic). first_before v words) settled

-- Gates that took words back, and then gave back what was put, put out what they did before.
pub back_outputs : (old mid new : Gates) (words : List Move) → mid.cells ≡ old.cells → new.values ≡ mid.values → AllByRecursion (λ w. w.place < length mid.outputs) words → HaveSettled old mid → HaveRestored words mid new
    → (place : ℕ) → value_at new.outputs place ≡ output_back new.values (cell_at old.cells place) (first_before (value_at old.outputs place) (words_at place words)) (value_at old.outputs place)
back_outputs old mid new words cells values within settled restored place =
    let told : value_at (unmoved words mid.outputs) place ≡ first_before (value_at mid.outputs place) (words_at place words) = value-unmoved place words mid.outputs within in
    back_one (cell_at old.cells place) mid.values new.values (words_at place words) (value_at old.outputs place) (value_at mid.outputs place) (value_at new.outputs place) values (settled place)
    (restored place ∙ ap (λ (cs : List Cell). restored_output (cell_at cs place) (value_at (unmoved words mid.outputs) place) (value_at mid.outputs place)) cells
    ∙ ap (λ (v : Logic). restored_output (cell_at old.cells place) v (value_at mid.outputs place)) told)

then_one : (cell : Cell) (v : Logic) (words later : List Move) (mid last : Logic) → mid ≡ restored_output cell (first_before v later) v → last ≡ restored_output cell (first_before mid words) mid
    → last ≡ restored_output cell (first_before v (words ++ later)) v
then_one Outside v words later mid last e f = f ∙ e
then_one (Gate kind inputs) v words later mid last e f = f ∙ e
then_one (Flop d clock) v words later mid last e f = f ∙ ap (λ (x : Logic). first_before x words) e ∙ sym (first_before-append v words later)

-- What was put is given back, and then what was put ahead of it.
pub restored_then : (old mid new : Gates) (words later : List Move) → mid.cells ≡ old.cells → length mid.outputs ≡ length old.outputs → AllByRecursion (λ w. w.place < length old.outputs) words → AllByRecursion (λ w. w.place < length old.outputs) later
    → HaveRestored later old mid → HaveRestored words mid new → HaveRestored (words ++ later) old new
restored_then old mid new words later cells many within within' first second place =
    let cell : Cell = cell_at old.cells place in
    let v : Logic = value_at old.outputs place in
    let both : value_at (unmoved (words ++ later) old.outputs) place ≡ first_before v (words_at place words ++ words_at place later) =
    value-unmoved place (words ++ later) old.outputs (every-append (λ (w : Move). w.place < length old.outputs) words later within within')
    ∙ ap (first_before v) (filter-append (λ (w : Move). w.place == place) words later) in
    let one : value_at mid.outputs place ≡ restored_output cell (first_before v (words_at place later)) v =
    first place ∙ ap (λ (x : Logic). restored_output cell x v) (value-unmoved place later old.outputs within') in
    let two : value_at new.outputs place ≡ restored_output cell (first_before (value_at mid.outputs place) (words_at place words)) (value_at mid.outputs place) =
    second place ∙ ap (λ (cs : List Cell). restored_output (cell_at cs place) (value_at (unmoved words mid.outputs) place) (value_at mid.outputs place)) cells
    ∙ ap (λ (x : Logic). restored_output cell x (value_at mid.outputs place)) (value-unmoved place words mid.outputs (subst (λ (n : ℕ). AllByRecursion (λ (w : Move). w.place < n) words) (sym many) within)) in
    then_one cell v (words_at place words) (words_at place later) (value_at mid.outputs place) (value_at new.outputs place) one two
    ∙ ap (λ (x : Logic). restored_output cell x v) (sym both)
