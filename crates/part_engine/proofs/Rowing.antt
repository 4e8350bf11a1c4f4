-- A row of what is heard at a time, as moves of places.
use Rattle.std.proofs.Common.{◌≡◌, ◌≢◌, ℕ, suc, ◌+◌, ◌<◌, ◌++◌, ◌==◌, true, List, [], ◌∷◌, map, length, get_or, refl, ap, sym, ◌∙◌, subst, arith, inl, inr, All, IsSome}
use Rattle.std.specs.List.{flat_map}
use Rattle.std.specs.List.Sorted.{IsStrictlyIncreasing}
use Rattle.std.proofs.lemmas.Bool.{true≢false, eq-eqb}
use Rattle.std.proofs.lemmas.List.{get_or-map, length-map}
use Rattle.std.proofs.lemmas.List.Folds.{list_any_at}
use Rattle.gate_values.specs.declared.logic.Logic.{Logic}
use Rattle.warp_stores.specs.Words.{Move}
use Rattle.warp_gates.specs.Cells.{value_at}
use Rattle.warp_part.specs.Inner.Building.{has}
use Rattle.warp_part.specs.Placing.{net_of_place}
use Rattle.warp_process.specs.declared.entry.Entry.{Entry}
use Rattle.warp_process.specs.Entries.{effective_of, no_messages}
use Rattle.warp_process.specs.Rows.{Standing, entry_on, IsRow}
use Rattle.warp_process.specs.View.{View, entry_of, effective_at}
use Rattle.warp_process.proofs.RowOrder.{nothing, entry_on-at, entry_on-place}
use Rattle.part_engine.specs.Inner.Bringing.{move_to, heard_move, standing_move}

abbrev pub places_of : List Standing → List ℕ
places_of row = map (λ (s : Standing). s.place) row

-- lists of moves that are the same one by one
flat_same : (f : Standing → List Move) (g : ℕ → List Move) (ss : List Standing) → ((k : ℕ) (d : Standing) → k < length ss → f (get_or ss k d) ≡ g (get_or ss k d).place) → flat_map f ss ≡ flat_map g (places_of ss)
flat_same f g [] h = refl
flat_same f g (s ∷ ss) h = ap (λ (ms : List Move). ms ++ flat_map f ss) (h 0 s (omega arith)) ∙ ap (λ (ms : List Move). g s.place ++ ms) (flat_same f g ss (λ k d l. h (suc k) d (omega arith)))

module _ (v : View) (values : List Logic) (time : ℕ) (row : List Standing) (is : IsRow row)
    (all : (i : ℕ) → i < length v.part.nets → entry_of v (get_or v.part.nets i 0) time ≡ entry_on row i) (within : All (λ (s : Standing). s.place < length v.part.nets) row) where
  pub row_moves : flat_map (standing_move values) row ≡ flat_map (heard_move v values time) (places_of row)
  row_moves = flat_same (standing_move values) (heard_move v values time) row (λ k d l.
      (let s : Standing = get_or row k d in
      ap (λ (e : Entry). move_to s.place (value_at values s.place) (effective_of e)) (entry_on-at row k s.place d is.in_order l refl ∙ sym (all s.place (within k d l)))))

  pub row_rises : IsStrictlyIncreasing (places_of row)
  row_rises k l =
      let size = length-map row (λ (s : Standing). s.place) in
      let order : (get_or row k nothing).place < (get_or row (k + 1) nothing).place = is.in_order k (k + 1) nothing (omega arith) (omega (arith, size, l)) in
      rw (get_or-map (λ (s : Standing). s.place) row k nothing 0 (omega (arith, size, l)), get_or-map (λ (s : Standing). s.place) row (k + 1) nothing 0 (omega (arith, size, l))) order

  pub row_inside : All (λ i. i < length v.part.nets) (places_of row)
  row_inside k d l =
      let size = length-map row (λ (s : Standing). s.place) in
      rw (get_or-map (λ (s : Standing). s.place) row k nothing d (omega (arith, size, l))) (within k nothing (omega (arith, size, l)))

  pub row_all : (i : ℕ) → i < length v.part.nets → entry_of v (get_or v.part.nets i 0) time ≢ no_messages → has (places_of row) i ≡ true
  row_all i l some = elim (entry_on-place row i) [
    | inl none ↦ absurd (some (all i l ∙ none))
    | inr (k, h, at, entry) ↦
        (let size = length-map row (λ (s : Standing). s.place) in
        list_any_at (λ x. x == i) (places_of row) k 0 (omega (arith, size, h)) (eq-eqb (get_or (places_of row) k 0) i (get_or-map (λ (s : Standing). s.place) row k nothing 0 h ∙ at nothing)))
  ]
