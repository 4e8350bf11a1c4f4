-- The even cut: its owners one by one, and that it is a cut which fits.
use Rattle.std.proofs.Common.{◌≡◌, ◌∙◌, ℕ, ◌+◌, ◌*◌, ◌/◌, ◌<◌, ◌≤◌, Bool, true, false, not, cond, List, [], ◌∷◌, ◌++◌, length, map, take, drop, get_or, Option, Some, None, is_some, IfSome, refl, ap, sym, arith, inl, inr}
use Rattle.std.specs.List.{range_with_len}
use Rattle.std.proofs.lemmas.Bool.{cases_Bool, cases_lt}
use Rattle.std.proofs.lemmas.List.{take-append-drop, get_or_past}
use Rattle.std.proofs.lemmas.List.Sums.{count_by_more_yes, count_by_more_no, sum_by-append}
use Rattle.std.proofs.lemmas.List.FromFn.{map-range_with_len_more, length-map-range_with_len, get_or-map-range_with_len}
use Rattle.std.proofs.lemmas.Nat.{mul-add-lt, div_below}
use Rattle.gate_netlist.specs.declared.driver.Driver.{Driver}
use Rattle.gate_netlist.specs.declared.driver.Driver.TheVariants.{Input}
use Rattle.gate_netlist.specs.Cut.{owner_of, IsOwnership}
use Rattle.gate_netlist.specs.Circuit.{Design, nets_of, driver_of, is_input, IsCircuit, CutFits}
use Rattle.gate_netlist.specs.Even.{driven_count, even_owner, even_cut}

abbrev is_driven : Driver → Bool
is_driven driver = not (is_input driver)

-- the owners of the first nets are given, and so many of these nets aren't inputs
pub record IsEvenUpTo (d : Design) (blocks net : ℕ) (number : ℕ) (owners : List (Option ℕ)) : Type 0 where
  pub counted : number ≡ driven_count (take net d.drivers)
  pub given : owners ≡ map (even_owner d blocks) (range_with_len 0 net)

pub evenly_none : (d : Design) (blocks : ℕ) → IsEvenUpTo d blocks 0 0 []
evenly_none d blocks = record { counted = refl; given = refl }

even_owner-input : (d : Design) (blocks net : ℕ) → is_input (driver_of d net) ≡ true → even_owner d blocks net ≡ None
even_owner-input d blocks net e = rw e refl

even_owner-driven : (d : Design) (blocks net : ℕ) → is_input (driver_of d net) ≡ false → even_owner d blocks net ≡ Some (driven_count (take net d.drivers) * blocks / driven_count d.drivers)
even_owner-driven d blocks net e = rw e refl

pub evenly_input : (d : Design) (blocks net number : ℕ) (owners : List (Option ℕ)) → net < length d.drivers → is_input (driver_of d net) ≡ true
    → IsEvenUpTo d blocks net number owners → IsEvenUpTo d blocks (net + 1) number (owners ++ None ∷ [])
evenly_input d blocks net number owners l e h = record {
  counted = h.counted ∙ sym (count_by_more_no is_driven d.drivers net Input l (ap not e));
  given = rw (map-range_with_len_more (even_owner d blocks) 0 net net (omega arith), even_owner-input d blocks net e, ← h.given) refl;
}

pub evenly_driven : (d : Design) (blocks net number driven : ℕ) (owners : List (Option ℕ)) → net < length d.drivers → is_input (driver_of d net) ≡ false → driven ≡ driven_count d.drivers
    → IsEvenUpTo d blocks net number owners → IsEvenUpTo d blocks (net + 1) (number + 1) (owners ++ Some (number * blocks / driven) ∷ [])
evenly_driven d blocks net number driven owners l e k h = record {
  counted = ap (λ n. n + 1) h.counted ∙ sym (count_by_more_yes is_driven d.drivers net Input l (ap not e));
  given = rw (map-range_with_len_more (even_owner d blocks) 0 net net (omega arith), even_owner-driven d blocks net e, ← h.given, ← h.counted, k) refl;
}

driven_count-take-le : (ds : List Driver) (n : ℕ) → driven_count (take n ds) ≤ driven_count ds
driven_count-take-le ds n =
    let both : driven_count (take n ds) + driven_count (drop n ds) ≡ driven_count ds = sym (sum_by-append (λ d. cond (is_driven d) 1 0) (take n ds) (drop n ds)) ∙ ap driven_count (take-append-drop n ds) in
    omega arith

-- the number of a net that isn't an input is below their count
pub number_below : (ds : List Driver) (n : ℕ) → n < length ds → is_input (get_or ds n Input) ≡ false → driven_count (take n ds) < driven_count ds
number_below ds n l e =
    let one : driven_count (take (n + 1) ds) ≡ driven_count (take n ds) + 1 = count_by_more_yes is_driven ds n Input l (ap not e) in
    omega (arith, driven_count-take-le ds (n + 1))

-- number j of g goes to a block that there is
pub share_below : (j blocks g : ℕ) → j < g → 1 ≤ blocks → j * blocks / g < blocks
share_below j blocks g l some = div_below (j * blocks) g blocks (omega arith) (omega (arith, mul-add-lt j blocks 0 g l some))

owned_below : (d : Design) (blocks n : ℕ) → 1 ≤ blocks → n < length d.drivers → IfSome (even_owner d blocks n) (λ block. block < blocks)
owned_below d blocks n some l =
    elim (cases_Bool (is_input (driver_of d n))) [
      | inl input ↦ rw input tt
      | inr driven ↦ rw driven (share_below _ blocks _ (number_below d.drivers n l driven) some)
    ]

owner_of-even_cut : (d : Design) (blocks n : ℕ) → n < nets_of d → owner_of (even_cut d blocks) n ≡ even_owner d blocks n
owner_of-even_cut d blocks n l = get_or-map-range_with_len (even_owner d blocks) 0 (nets_of d) n n None l (omega arith)

owner_of-even_cut-past : (d : Design) (blocks n : ℕ) → nets_of d ≤ n → owner_of (even_cut d blocks) n ≡ None
owner_of-even_cut-past d blocks n l = get_or_past _ n None (omega (arith, length-map-range_with_len (even_owner d blocks) 0 (nets_of d)))

pub even_cut_is_ownership : (d : Design) (blocks : ℕ) → IsCircuit d → 1 ≤ blocks → blocks ≤ 1024 → IsOwnership (even_cut d blocks)
even_cut_is_ownership d blocks h some within = record {
  some = some;
  within = within;
  owned = λ n. elim (cases_lt n (nets_of d)) [
    | inl l ↦ rw (owner_of-even_cut d blocks n l) (owned_below d blocks n some (omega (arith, h.drivers)))
    | inr past ↦ rw (owner_of-even_cut-past d blocks n past) tt
  ];
}

is_some-even_owner : (d : Design) (blocks n : ℕ) → is_some (even_owner d blocks n) ≡ not (is_input (driver_of d n))
is_some-even_owner d blocks n = elim (cases_Bool (is_input (driver_of d n))) [ inl input ↦ rw input refl | inr driven ↦ rw driven refl ]

pub even_cut_fits : (d : Design) (blocks : ℕ) → CutFits d (even_cut d blocks)
even_cut_fits d blocks = record {
  nets = length-map-range_with_len (even_owner d blocks) 0 (nets_of d);
  owned = λ n l. rw (owner_of-even_cut d blocks n l) (is_some-even_owner d blocks n);
}
