-- What holds where no word is of a place that clocks a flip-flop.
use Rattle.std.proofs.Common.{◌≡◌, ◌∙◌, inl, inr, ℕ, suc, ◌<◌, true, false, ◌||◌, nat_lt, nat_le, List, [], ◌∷◌, ◌++◌, length, get_or, refl, ap, sym, arith}
use borrow.Author.Tests.{ltb-true, leb-true}
use Rattle.std.specs.List.{All}
use Rattle.std.proofs.lemmas.Bool.{or_cases}
use Rattle.gate_values.specs.declared.logic.Logic.{Logic}
use Rattle.gate_values.specs.Tables.{flip_of}
use Rattle.warp_stores.specs.Words.{Move}
use Rattle.warp_gates.specs.declared.front.Front.{Front}
use Rattle.warp_gates.specs.Cells.{Cell, Outside, Gate, Flop, value_at, cell_at, moved}
use Rattle.warp_gates.specs.Inner.Clocked.{AreBetween}
use Rattle.warp_gates.specs.Inner.Fronts.{front_at, has, row_of, is_clocked_by, AreClocked}
use Rattle.warp_gates.specs.Inner.Told.{all_edges}
use Rattle.warp_gates.specs.Inner.Loading.{AreLoaded, loaded_output}
use Rattle.warp_gates.proofs.Showing.{eqb_same}
use Rattle.warp_gates.proofs.Loading.{flip_still, moved_other}

-- a place that doesn't stand between those that clock flip-flops clocks none
pub outside : (from to place : ℕ) (rows : List (List ℕ)) → AreBetween from to rows → (nat_lt place from || nat_le to place) ≡ true → get_or rows place [] ≡ []
outside from to place rows between is =
    elim (or_cases (nat_lt place from) (nat_le to place) is) [
      | inl below ↦ between.below place (ltb-true place from below)
      | inr above ↦ between.above place (leb-true to place above)
    ]

-- no flip-flop is to be let load then
pub no_edges : (rows : List (List ℕ)) (words : List Move) → All (λ word. get_or rows word.place [] ≡ []) words → all_edges rows words ≡ []
no_edges rows [] empty = refl
no_edges rows (w ∷ ws) empty =
    ap (λ (es : List ℕ). es ++ all_edges rows ws) (empty 0 w (omega arith)) ∙ no_edges rows ws (λ k d within. empty (suc k) d (omega arith))

-- and what the words make of the flip-flops is what they were
pub loaded_still : (cells : List Cell) (rows : List (List ℕ)) (values : List Logic) (words : List Move) (fronts : List Front)
    → AreClocked cells rows → All (λ word. get_or rows word.place [] ≡ []) words → ((place : ℕ) (d : Front) → place < length fronts → (front_at d fronts place).is_stale ≡ false)
    → AreLoaded cells values words fronts fronts
loaded_still cells rows values words fronts clocked empty fresh =
    record {
      same = refl;
      each = λ place d h.
          record {
            queue = refl;
            kind = refl;
            pins = refl;
            output = out (cell_at cells place) place (front_at d fronts place).output (λ clock. clocked.each clock place);
            fresh = fresh place d h;
          };
    }
  where
    out : (cell : Cell) (flop : ℕ) (last : Logic) → ((clock : ℕ) → has (row_of rows clock) flop ≡ is_clocked_by clock cell) → last ≡ loaded_output values words cell last
    out Outside flop last each = refl
    out (Gate kind inputs) flop last each = refl
    out (Flop data_place clock) flop last each =
        let stays : value_at (moved words values) clock ≡ value_at values clock =
        moved_other words values clock
        (λ i d within same.
        let none : has (row_of rows (get_or words i d).place) flop ≡ false = ap (λ (row : List ℕ). has row flop) (empty i d within) in
        let one : has (row_of rows (get_or words i d).place) flop ≡ true = each (get_or words i d).place ∙ eqb_same clock (get_or words i d).place (sym same) in
        cc) in
        sym (ap (λ (v : Logic). flip_of last (value_at values clock) v (value_at values data_place)) stays ∙ flip_still last (value_at values clock) (value_at values data_place))
