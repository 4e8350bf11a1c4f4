-- What the part of a block has of the circuit.
use Rattle.std.proofs.Common.{◌≡◌, ℕ, ◌<◌, ◌&&◌, Bool, true, false, not, cond, Option, Some, None, is_some, length, get_or, inl, inr, refl, ap, sym, ◌∙◌, arith}
use Rattle.std.proofs.lemmas.Bool.{cases_Bool, cases_lt, eqb-true, eq-eqb, or_left, true≢false}
use Rattle.std.proofs.lemmas.List.{get_or_past}
use Rattle.gate_values.specs.Behaviour.{Source, Outside}
use Rattle.gate_netlist.specs.Circuit.{Design, CutFits, nets_of, driver_of, source_of as circuit_source, source_by, is_input}
use Rattle.gate_netlist.specs.Cut.{Ownership, is_owner, owner_of}
use Rattle.gate_netlist.specs.declared.driver.Driver.{Driver}
use Rattle.gate_netlist.specs.declared.driver.Driver.TheVariants.{Input, Gate, Flop}
use Rattle.warp_part.specs.Portion.{Portion, is_driven, source_of, owns, reads, slot_of}
use Rattle.warp_part.specs.PartOf.{is_own, is_used_by, part_nets, part_source, part_of}
use Rattle.warp_part.proofs.Slots.{of_net-map, slot_is}
use Rattle.warp_part.proofs.PartLists.{has_kept}
use Rattle.warp_part.proofs.PartBuilding.{is_net, nets_rise, nets_within, slot_some}

owner_is : (b : ℕ) (o : Option ℕ) → is_owner b o ≡ true → o ≡ Some b
owner_is b None e = absurd cc
owner_is b (Some o) e = ap (λ k. Some k) (eqb-true o b e)

owner_within : (cut : Ownership) (n b : ℕ) → owner_of cut n ≡ Some b → n < length cut.owners
owner_within cut n b e = elim (cases_lt n (length cut.owners)) [
  | inl within ↦ within
  | inr past ↦ absurd (let none = get_or_past cut.owners n None past in cc)
]

driver_drives : (driver : Driver) (delay : ℕ) → is_input driver ≡ false → is_driven (source_by driver delay) ≡ true
driver_drives Input delay e = absurd cc
driver_drives (Gate kind inputs) delay e = refl
driver_drives (Flop d clock init) delay e = refl

input_outside : (driver : Driver) (delay : ℕ) → is_input driver ≡ true → source_by driver delay ≡ Outside
input_outside Input delay e = refl
input_outside (Gate kind inputs) delay e = absurd cc
input_outside (Flop d clock init) delay e = absurd cc

undriven : (s : Source) → is_driven s ≡ false → s ≡ Outside
undriven Source.Outside e = refl
undriven (Source.Gate kind delay inputs) e = absurd cc
undriven (Source.Flop delay d clock init) e = absurd cc

-- a net that is read is set outside, and is a net of the part
pub read_outside : (p : Portion) (n : ℕ) → reads p n ≡ true → (is_some (slot_of p.nets n) ≡ true) × (source_of p n ≡ Outside)
read_outside p n h = go (is_some (slot_of p.nets n)) (owns p n) refl refl h
  where
    go : (a b : Bool) → is_some (slot_of p.nets n) ≡ a → owns p n ≡ b → (a && not b) ≡ true → (is_some (slot_of p.nets n) ≡ true) × (source_of p n ≡ Outside)
    go true false in_ own h = (in_, undriven (source_of p n) own)
    go true true in_ own h = absurd cc
    go false b in_ own h = absurd cc

module _ (d : Design) (cut : Ownership) (fits : CutFits d cut) where
  -- a net without an owner is an input
  pub unowned_outside : (n : ℕ) → n < nets_of d → owner_of cut n ≡ None → circuit_source d n ≡ Outside
  unowned_outside n within e = go (is_input (driver_of d n)) refl
    where
      go : (b : Bool) → is_input (driver_of d n) ≡ b → circuit_source d n ≡ Outside
      go true is = input_outside (driver_of d n) (get_or d.delays n 0) is
      go false is = absurd (true≢false (ap not (sym is) ∙ sym (fits.owned n within) ∙ ap is_some e))

  module _ (b : ℕ) where
    own_within : (n : ℕ) → is_own cut b n ≡ true → n < nets_of d
    own_within n own =
        let within = owner_within cut n b (owner_is b (owner_of cut n) own) in
        omega (arith, within, fits.nets)

    own_slot : (n : ℕ) → is_own cut b n ≡ true → is_some (slot_of (part_nets d cut b) n) ≡ true
    own_slot n own =
        slot_some (part_nets d cut b) n (nets_rise d cut b)
        (has_kept (is_net d cut b) (nets_of d) n (own_within n own) ∙ or_left (is_own cut b n) (is_used_by d cut b n) own)

    other_outside : (n : ℕ) → is_own cut b n ≡ false → part_source d cut b n ≡ Outside
    other_outside n other = ap (λ o. cond o (circuit_source d n) Outside) other

    source_of-part : (n : ℕ) → source_of (part_of d cut b) n ≡ part_source d cut b n
    source_of-part n =
        of_net-map (part_nets d cut b) (part_source d cut b) Outside n
        (λ none. elim (cases_Bool (is_own cut b n)) [
          | inl own ↦ absurd (true≢false (sym (own_slot n own) ∙ ap is_some none))
          | inr other ↦ other_outside n other
        ])

    own_is : (n : ℕ) → is_own cut b n ≡ true → source_of (part_of d cut b) n ≡ circuit_source d n
    own_is n own = source_of-part n ∙ ap (λ o. cond o (circuit_source d n) Outside) own

    -- an own net has the circuit's source
    pub own_source : (n : ℕ) → owns (part_of d cut b) n ≡ true → source_of (part_of d cut b) n ≡ circuit_source d n
    own_source n h = elim (cases_Bool (is_own cut b n)) [
      | inl own ↦ own_is n own
      | inr other ↦ absurd (true≢false (sym h ∙ ap is_driven (source_of-part n ∙ other_outside n other)))
    ]

    -- it owns no other net
    pub other_owns : (n : ℕ) → is_own cut b n ≡ false → owns (part_of d cut b) n ≡ false
    other_owns n other = ap is_driven (source_of-part n ∙ other_outside n other)

    -- what the cut gives a block is its own
    pub owner_owns : (n : ℕ) → owner_of cut n ≡ Some b → owns (part_of d cut b) n ≡ true
    owner_owns n e =
        let own : is_own cut b n ≡ true = ap (is_owner b) e ∙ eq-eqb b b refl in
        ap is_driven (own_is n own) ∙ go (is_input (driver_of d n)) refl
      where
        go : (i : Bool) → is_input (driver_of d n) ≡ i → is_driven (circuit_source d n) ≡ true
        go false is = driver_drives (driver_of d n) (get_or d.delays n 0) is
        go true is =
            let within : n < nets_of d = omega (arith, owner_within cut n b e, fits.nets) in
            absurd (true≢false (sym (ap is_some e) ∙ fits.owned n within ∙ ap not is))

    -- the nets of a part are the circuit's
    pub net_within : (n : ℕ) → is_some (slot_of (part_nets d cut b) n) ≡ true → n < nets_of d
    net_within n h = go (slot_of (part_nets d cut b) n) refl
      where
        go : (o : Option ℕ) → slot_of (part_nets d cut b) n ≡ o → n < nets_of d
        go None e = absurd (true≢false (sym h ∙ ap is_some e))
        go (Some i) e =
            let at = slot_is (part_nets d cut b) n i e in
            omega (arith, at.1, nets_within d cut b i 0 at.0)
