-- A net is used where its place is read.
use Rattle.std.proofs.Common.{◌≡◌, ◌∙◌, ℕ, ◌<◌, ◌==◌, ◌||◌, inl, inr, Bool, true, false, is_some, unwrap_or, IsTrue, List, [], ◌∷◌, map, length, get_or, refl, ap, sym, subst, arith}
use Rattle.std.specs.List.{All, list_any}
use Rattle.std.proofs.lemmas.Bool.{cases_lt, eqb-true, eq-eqb, true≢false}
use Rattle.std.proofs.lemmas.List.{get_or_past, get_or_default}
use Rattle.std.proofs.lemmas.List.Elements.{All-head, All-tail}
use Rattle.std.proofs.lemmas.List.Folds.{Any-from_list_any, list_any_at}
use Rattle.gate_values.specs.Behaviour.{Source, Outside, Gate, Flop}
use Rattle.warp_engine.specs.Nexts.{IsIn, IsPin, IsUsed}
use Rattle.warp_part.specs.Portion.{Portion, IsPortion, slot_of, is_driven, uses, does_use, is_used}
use Rattle.warp_part.specs.Shown.Building.{place_of}
use Rattle.warp_part.specs.Placing.{cell_by, place_cells}
use Rattle.warp_part.proofs.Slots.{slot_at}
use Rattle.warp_part.proofs.PartBuilding.{place_is}
use Rattle.warp_part.proofs.Placing.{uses_there}
use Rattle.part_engine.proofs.Sources.{cell_there}

-- ---- a number is among others just where a test finds it

in_list : (n : ℕ) (us : List ℕ) → list_any (λ u. u == n) us ≡ true → IsIn n us
in_list n [] e = absurd (true≢false (sym e))
in_list n (u ∷ us) e = go (in_list n us) (u == n) refl e
  where
    go : (list_any (λ v. v == n) us ≡ true → IsIn n us) → (b : Bool) → (u == n) ≡ b → (b || list_any (λ v. v == n) us) ≡ true → IsIn n (u ∷ us)
    go rest true is h = inl (sym (eqb-true u n is))
    go rest false is h = inr (rest h)

from_in : (n : ℕ) (us : List ℕ) → IsIn n us → list_any (λ u. u == n) us ≡ true
from_in n [] h = absurd h
from_in n (u ∷ us) (inl e) = ap (λ b. b || list_any (λ v. v == n) us) (eq-eqb u n (sym e))
from_in n (u ∷ us) (inr h) = or_right (u == n) (list_any (λ v. v == n) us) (from_in n us h)
  where
    or_right : (a b : Bool) → b ≡ true → (a || b) ≡ true
    or_right true b e = refl
    or_right false b e = e

module _ (p : Portion) (portion : IsPortion p) (i : ℕ) (l : i < length p.nets) where
  abbrev net : ℕ
  net = get_or p.nets i 0

  abbrev Has : ℕ → Type 0
  Has u = IsTrue (is_some (slot_of p.nets u))

  own_place : (u : ℕ) → net ≡ u → i ≡ place_of p.nets u
  own_place u e = sym (ap (place_of p.nets) (sym e) ∙ ap (λ o. unwrap_or o 0) (slot_at p.nets i portion.ascending l))

  own_net : (u : ℕ) → Has u → i ≡ place_of p.nets u → net ≡ u
  own_net u has e = ap (λ k. get_or p.nets k 0) e ∙ (place_is p.nets u has).1

  place_in : (us : List ℕ) → IsIn net us → IsIn i (map (place_of p.nets) us)
  place_in [] h = absurd h
  place_in (u ∷ us) (inl e) = inl (own_place u e)
  place_in (u ∷ us) (inr h) = inr (place_in us h)

  net_in : (us : List ℕ) → All Has us → IsIn i (map (place_of p.nets) us) → IsIn net us
  net_in [] all h = absurd h
  net_in (u ∷ us) all (inl e) = inl (own_net u (All-head Has u us all) e)
  net_in (u ∷ us) all (inr h) = inr (net_in us (All-tail Has u us all) h)

  pin_of : (s : Source) → IsIn net (uses s) → IsPin i (cell_by p.nets s)
  pin_of Outside h = absurd h
  pin_of (Gate kind delay inputs) h = place_in inputs h
  pin_of (Flop delay d clock initial) (inl e) = inl (own_place d e)
  pin_of (Flop delay d clock initial) (inr (inl e)) = inr (own_place clock e)
  pin_of (Flop delay d clock initial) (inr (inr h)) = absurd h

  use_of : (s : Source) → (IsTrue (is_driven s) → All Has (uses s)) → IsPin i (cell_by p.nets s) → IsIn net (uses s)
  use_of Outside all h = absurd h
  use_of (Gate kind delay inputs) all h = net_in inputs (all refl) h
  use_of (Flop delay d clock initial) all (inl e) = inl (own_net d (All-head Has d (clock ∷ []) (all refl)) e)
  use_of (Flop delay d clock initial) all (inr e) = inr (inl (own_net clock (All-head Has clock [] (All-tail Has d (clock ∷ []) (all refl))) e))

  pub used_place : is_used p net ≡ true → IsUsed (place_cells p) i
  used_place h =
      let a = Any-from_list_any (does_use net) p.sources h in
      let there : does_use net (get_or p.sources a.0 Outside) ≡ true = ap (does_use net) (get_or_default p.sources a.0 Outside a.1 a.2 ∙ a.3) ∙ a.4 in
      (a.0, subst (IsPin i) (sym (cell_there p a.0)) (pin_of (get_or p.sources a.0 Outside) (in_list net (uses (get_or p.sources a.0 Outside)) there)))

  pub place_used : IsUsed (place_cells p) i → is_used p net ≡ true
  place_used used = elim (cases_lt used.0 (length p.sources)) [
    | inl k ↦
        list_any_at (does_use net) p.sources used.0 Outside k
        (from_in net (uses (get_or p.sources used.0 Outside))
        (use_of (get_or p.sources used.0 Outside) (uses_there p portion used.0 (omega (arith, portion.sources))) (subst (IsPin i) (cell_there p used.0) used.1)))
    | inr far ↦ absurd (subst (IsPin i) (cell_there p used.0 ∙ ap (cell_by p.nets) (get_or_past p.sources used.0 Outside far)) used.1)
  ]
