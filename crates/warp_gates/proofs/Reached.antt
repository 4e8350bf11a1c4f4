-- What the edges from the places of words are.
use Rattle.std.proofs.Common.{◌≡◌, ◌∙◌, inl, inr, ℕ, suc, ◌/◌, ◌<◌, Bool, true, ◌||◌, eqb, List, [], ◌∷◌, length, get_or, ap, sym, subst, arith}
use borrow.Author.Tests.{eqb-true}
use Rattle.std.specs.List.{All}
use Rattle.std.proofs.lemmas.List.Folds.{list_any-append}
use Rattle.warp_stores.specs.Words.{Move}
use Rattle.warp_gates.specs.declared.front.Front.{Front}
use Rattle.warp_gates.specs.Cells.{Cell, cell_at}
use Rattle.warp_gates.specs.Inner.Fronts.{row_of, has, has_gate, AreReaders}
use Rattle.warp_gates.specs.Inner.Told.{AreListed, IsEdge, all_edges, is_gate}
use Rattle.warp_gates.proofs.Moving.{true_or_not, either}
use Rattle.warp_gates.proofs.Evaluating.{has_get_or, is_edge, edge_within}

-- an edge from the places of words is one from a place
from_place : (rows : List (List ℕ)) (words : List Move) (edge : ℕ) → has (all_edges rows words) edge ≡ true → (place : ℕ) × (has (row_of rows place) edge ≡ true)
from_place rows [] edge h = cc
from_place rows (w ∷ ws) edge h = elim (either (has (row_of rows w.place) edge) (has (all_edges rows ws) edge) (sym (list_any-append (λ x. eqb x edge) (row_of rows w.place) (all_edges rows ws)) ∙ h)) [
  | inl here ↦ (w.place, here)
  | inr there ↦ from_place rows ws edge there
]

-- what is listed are edges
pub listed_edges : (cells : List Cell) (rows : List (List ℕ)) (words : List Move) (fronts : List Front) (stale : List ℕ) → AreReaders cells rows → AreListed (all_edges rows words) fronts stale → All (IsEdge cells) stale
listed_edges cells rows words fronts stale readers listed k d h =
    let from : (place : ℕ) × (has (row_of rows place) (get_or stale k d) ≡ true) = from_place rows words (get_or stale k d) (listed.some (get_or stale k d) (has_get_or stale k d h)) in
    is_edge cells rows from.0 (get_or stale k d) readers from.1

-- they are to places
pub listed_within : (cells : List Cell) (rows : List (List ℕ)) (words : List Move) (fronts : List Front) (stale : List ℕ) → AreReaders cells rows → AreListed (all_edges rows words) fronts stale → All (λ e. e / 8 < length cells) stale
listed_within cells rows words fronts stale readers listed k d h =
    let from : (place : ℕ) × (has (row_of rows place) (get_or stale k d) ≡ true) = from_place rows words (get_or stale k d) (listed.some (get_or stale k d) (has_get_or stale k d h)) in
    edge_within cells rows from.0 (get_or stale k d) readers from.1

-- what an edge is to is a gate
pub listed_gate : (cells : List Cell) (edges : List ℕ) (gate : ℕ) → All (IsEdge cells) edges → has_gate edges gate ≡ true → is_gate (cell_at cells gate) ≡ true
listed_gate cells [] gate all h = cc
listed_gate cells (e ∷ es) gate all h = elim (true_or_not (eqb (e / 8) gate)) [
  | inl here ↦
      let edge : IsEdge cells e = all 0 e (omega arith) in
      subst (λ (g : ℕ). is_gate (cell_at cells g) ≡ true) (eqb-true (e / 8) gate here) edge.gate
  | inr there ↦ listed_gate cells es gate (λ k d l. all (suc k) d (omega arith)) (sym (ap (λ (b : Bool). b || has_gate es gate) there) ∙ h)
]
