-- The places of a portion stand for its nets.
use Rattle.std.proofs.Common.{◌≡◌, ℕ, ◌<◌, ◌≤◌, true, false, cond, nat_lt, is_some, IsTrue, List, [], ◌∷◌, map, length, get_or, refl, ap, sym, subst, arith}
use Rattle.std.specs.List.{All, AllByRecursion}
use Rattle.std.proofs.lemmas.Grind.{common_steps}
use Rattle.std.proofs.lemmas.List.Elements.{All-head, All-tail}
use Rattle.gate_values.specs.declared.logic.Logic.{Logic}
use Rattle.gate_values.specs.declared.logic.Logic.TheVariants.{X}
use Rattle.gate_values.specs.Behaviour.{Source, Outside, Gate, Flop, before}
use Rattle.place_names.specs.Names.{IsNamed, IsBelow, StandForNets}
use Rattle.place_names.proofs.Naming.{moments_same}
use Rattle.warp_part.specs.Portion.{Portion, IsPortion, slot_of, at_slot, source_of, is_driven, uses}
use Rattle.warp_part.specs.Shown.Building.{place_of}
use Rattle.warp_part.specs.Placing.{net_of_place, placed, place_source, place_given}
use Rattle.warp_part.proofs.Slots.{slot_at}
use Rattle.warp_part.proofs.PartBuilding.{place_is}

below_yes : (i n : ℕ) → i < n → nat_lt i n ≡ true
below_yes i n l = grind (arith, common_steps)

below_no : (i n : ℕ) → n ≤ i → nat_lt i n ≡ false
below_no i n l = grind (arith, common_steps)

module _ (nets : List ℕ) where
  abbrev Has : ℕ → Type 0
  Has u = IsTrue (is_some (slot_of nets u))

  net_back : (u : ℕ) → Has u → get_or nets (place_of nets u) 0 ≡ u
  net_back u h = (place_is nets u h).1

  nets_back : (us : List ℕ) → All Has us → map (λ i. get_or nets i 0) (map (place_of nets) us) ≡ us
  nets_back [] all = refl
  nets_back (u ∷ us) all =
      let head : get_or nets (place_of nets u) 0 ≡ u = net_back u (All-head Has u us all) in
      let rest : map (λ (i : ℕ). get_or nets i 0) (map (place_of nets) us) ≡ us = nets_back us (All-tail Has u us all) in
      cc

  places_below : (us : List ℕ) → All Has us → AllByRecursion (λ i. i < length nets) (map (place_of nets) us)
  places_below [] all = tt
  places_below (u ∷ us) all = ((place_is nets u (All-head Has u us all)).0, places_below us (All-tail Has u us all))

  named_by : (s : Source) → (IsTrue (is_driven s) → All Has (uses s)) → IsNamed (λ i. get_or nets i 0) (placed nets s) s
  named_by Outside all = refl
  named_by (Gate kind delay inputs) all = ap (Gate kind delay) (sym (nets_back inputs (all refl)))
  named_by (Flop delay d clock initial) all =
      let over : All Has (d ∷ clock ∷ []) = all refl in
      let data_is : get_or nets (place_of nets d) 0 ≡ d = net_back d (All-head Has d (clock ∷ []) over) in
      let clock_is : get_or nets (place_of nets clock) 0 ≡ clock = net_back clock (All-head Has clock [] (All-tail Has d (clock ∷ []) over)) in
      rw (data_is, clock_is) refl

  below_by : (s : Source) → (IsTrue (is_driven s) → All Has (uses s)) → IsBelow (length nets) (placed nets s)
  below_by Outside all = tt
  below_by (Gate kind delay inputs) all = places_below inputs (all refl)
  below_by (Flop delay d clock initial) all =
      let over : All Has (d ∷ clock ∷ []) = all refl in
      ((place_is nets d (All-head Has d (clock ∷ []) over)).0, (place_is nets clock (All-head Has clock [] (All-tail Has d (clock ∷ []) over))).0)

module _ (p : Portion) (portion : IsPortion p) where
  pub uses_there : (i : ℕ) → i < length p.nets → IsTrue (is_driven (get_or p.sources i Outside)) → All (λ u. IsTrue (is_some (slot_of p.nets u))) (uses (get_or p.sources i Outside))
  uses_there i l driven = (portion.driven i l driven).2

  pub source_at : (i : ℕ) → i < length p.nets → source_of p (net_of_place p i) ≡ get_or p.sources i Outside
  source_at i l = ap (at_slot p.sources Outside) (slot_at p.nets i portion.ascending l)

  -- the places of a portion stand for its nets
  pub stand : (given : ℕ → ℕ → Logic) → StandForNets (length p.nets) (net_of_place p) (place_source p) (source_of p) (place_given p given) given
  stand given = record {
    named = λ i l. subst (IsNamed (net_of_place p) (place_source p i)) (sym (source_at i l)) (named_by p.nets (get_or p.sources i Outside) (uses_there i l));
    closed = λ i l. below_by p.nets (get_or p.sources i Outside) (uses_there i l);
    given = λ i t l. ap (λ b. cond b (given t (net_of_place p i)) X) (below_yes i (length p.nets) l);
  }

  -- and show and hold what these do
  pub shown_at : (given : ℕ → ℕ → Logic) (t i : ℕ) → i < length p.nets → (before (place_source p) (place_given p given) t).value i ≡ (before (source_of p) given t).value (net_of_place p i)
  shown_at given t i l = (moments_same (length p.nets) (net_of_place p) (place_source p) (source_of p) (place_given p given) given (stand given) t).values i l

  pub held_at : (given : ℕ → ℕ → Logic) (t i : ℕ) → i < length p.nets → (before (place_source p) (place_given p given) t).content i ≡ (before (source_of p) given t).content (net_of_place p i)
  held_at given t i l = (moments_same (length p.nets) (net_of_place p) (place_source p) (source_of p) (place_given p given) given (stand given) t).contents i l

  pub nothing_past : (given : ℕ → ℕ → Logic) (i t : ℕ) → length p.nets ≤ i → place_given p given t i ≡ X
  nothing_past given i t l = ap (λ b. cond b (given t (net_of_place p i)) X) (below_no i (length p.nets) l)
