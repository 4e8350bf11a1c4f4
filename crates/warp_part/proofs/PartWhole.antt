-- A part that was built is the circuit's, and has the law of parts.
use Rattle.std.proofs.Common.{◌≡◌, ◌≢◌, ℕ, ◌+◌, ◌<◌, ◌≤◌, ◌==◌, Bool, true, false, not, ◌&&◌, ◌||◌, cond, Option, Some, None, is_some, IsTrue, List, [], ◌∷◌, map, length, get_or, inl, inr, refl, ap, sym, ◌∙◌, arith}
use Rattle.std.specs.List.{filter, list_any, range_with_len, All}
use Rattle.std.specs.List.Sorted.{IsStrictlyIncreasing}
use Rattle.std.proofs.lemmas.Bool.{cases_Bool, or_cases, and_parts, eq-eqb, true≢false}
use Rattle.std.proofs.lemmas.List.{length-map, get_or-map, ext_get_or}
use Rattle.std.proofs.lemmas.List.Elements.{All-weaker, filter_passes}
use Rattle.gate_values.specs.Behaviour.{Source, Outside, IsWellFormed, source_delay}
use Rattle.gate_netlist.specs.Circuit.{Design, IsCircuit, IsDriven, CutFits, nets_of, driver_of, source_of, source_by, is_input, IsDelay}
use Rattle.gate_netlist.specs.Cut.{Ownership, is_owner, owner_of}
use Rattle.gate_netlist.specs.declared.driver.Driver.{Driver}
use Rattle.gate_netlist.specs.declared.driver.Driver.TheVariants.{Input, Gate, Flop}
use Rattle.warp_part.specs.declared.cell.Cell.TheVariants as Cell
use Rattle.warp_part.specs.declared.cell.Span.{Span}
use Rattle.warp_part.specs.declared.part.Part.TheInside.{Inside}
use Rattle.warp_part.specs.Portion.{Portion, IsPortion, is_driven, is_used, slot_of, uses, does_use}
use Rattle.warp_part.specs.PartOf.{is_own, is_used_by, part_nets, part_source, part_readers, part_of}
use Rattle.warp_part.specs.Inner.HeldPart.{IsHeld}
use Rattle.warp_part.specs.Shown.Part.{portion_of, cell_source, is_input_cell, stretch}
use Rattle.warp_part.specs.Inner.Building.{AreCells}
use Rattle.warp_part.proofs.PartLists.{and_none, any_kept, any_same, kept_rises}
use Rattle.warp_part.proofs.PartBuilding.{uses-driver, is_net, nets_rise, nets_within, nets_few, own_uses}

-- ---- sources

driven_source : (nets : ℕ) (driver : Driver) (delay : ℕ) → IsDriven nets driver delay → is_driven (source_by driver delay) ≡ true → IsWellFormed (source_by driver delay) × IsDelay (source_delay (source_by driver delay))
driven_source nets Input delay h e = absurd cc
driven_source nets (Gate kind inputs) delay h e = ((omega (arith, h.2.0), h.0), h.2)
driven_source nets (Flop d clock init) delay h e = (omega (arith, h.2.0), h.2)

input_source : (driver : Driver) (delay : ℕ) → is_input driver ≡ true → source_by driver delay ≡ Outside
input_source Input delay e = refl
input_source (Gate kind inputs) delay e = absurd cc
input_source (Flop d clock init) delay e = absurd cc

source_input : (driver : Driver) (delay : ℕ) → source_by driver delay ≡ Outside → is_input driver ≡ true
source_input Input delay e = refl
source_input (Gate kind inputs) delay e = absurd (let f : is_driven (Source.Gate kind delay inputs) ≡ is_driven Outside = ap is_driven e in cc)
source_input (Flop d clock init) delay e = absurd (let f : is_driven (Source.Flop delay d clock init) ≡ is_driven Outside = ap is_driven e in cc)

owner_some : (b : ℕ) (o : Option ℕ) → is_owner b o ≡ true → is_some o ≡ true
owner_some b None e = absurd cc
owner_some b (Some o) e = refl

-- ---- what is used

pub map_same : {f g : ℕ → Bool} → ((n : ℕ) → f n ≡ g n) → (ns : List ℕ) → map f ns ≡ map g ns
map_same same [] = refl
map_same same (n ∷ ns) =
    let first = same n in
    let rest = map_same same ns in
    cc

any_map : (p : Source → Bool) (f : ℕ → Source) (xs : List ℕ) → list_any p (map f xs) ≡ list_any (λ x. p (f x)) xs
any_map p f [] = refl
any_map p f (x ∷ xs) = ap (λ t. p (f x) || t) (any_map p f xs)

module _ (d : Design) (cut : Ownership) (b : ℕ) where
  part_source_own : (n : ℕ) → is_own cut b n ≡ true → part_source d cut b n ≡ source_of d n
  part_source_own n own = ap (λ o. cond o (source_of d n) Outside) own

  part_source_other : (n : ℕ) → is_own cut b n ≡ false → part_source d cut b n ≡ Outside
  part_source_other n other = ap (λ o. cond o (source_of d n) Outside) other

  does : (n g : ℕ) → does_use n (part_source d cut b g) ≡ (is_own cut b g && does_use n (source_of d g))
  does n g =
      elim (cases_Bool (is_own cut b g)) [
        | inl own ↦ ap (does_use n) (part_source_own g own) ∙ sym (ap (λ o. o && does_use n (source_of d g)) own)
        | inr other ↦ ap (does_use n) (part_source_other g other) ∙ sym (ap (λ o. o && does_use n (source_of d g)) other)
      ]

  -- the part's gates use just what the block's gates use
  pub used_same : (n : ℕ) → is_used (part_of d cut b) n ≡ is_used_by d cut b n
  used_same n =
      any_map (does_use n) (part_source d cut b) (part_nets d cut b)
      ∙ any_kept (λ g. does_use n (part_source d cut b g)) (is_net d cut b) (range_with_len 0 (nets_of d))
      ∙ any_same (λ g. is_net d cut b g && does_use n (part_source d cut b g)) (λ g. is_own cut b g && does_use n (source_of d g))
      (λ g. ap (λ u. is_net d cut b g && u) (does n g) ∙ own_net (is_own cut b g) (is_used_by d cut b g) (does_use n (source_of d g))) (range_with_len 0 (nets_of d))
    where
      own_net : (own used uses : Bool) → ((own || used) && (own && uses)) ≡ (own && uses)
      own_net true used uses = refl
      own_net false used uses = and_none used

  module _ (law : IsCircuit d) (fits : CutFits d cut) where
    abbrev net : ℕ → ℕ
    net i = get_or (part_nets d cut b) i 0

    source_at : (i : ℕ) → i < length (part_nets d cut b) → get_or (part_of d cut b).sources i Outside ≡ part_source d cut b (get_or (part_nets d cut b) i 0)
    source_at i l = get_or-map (part_source d cut b) (part_nets d cut b) i 0 Outside l

    driven : (n : ℕ) → n < nets_of d → IsTrue (is_driven (part_source d cut b n))
        → IsWellFormed (part_source d cut b n) × IsDelay (source_delay (part_source d cut b n)) × All (λ u. IsTrue (is_some (slot_of (part_nets d cut b) u))) (uses (part_source d cut b n))
    driven n l h =
        elim (cases_Bool (is_own cut b n)) [
          | inl own ↦
              (let is = part_source_own n own in
              let source = driven_source (nets_of d) (driver_of d n) (get_or d.delays n 0) (law.driven n l) (ap is_driven (sym is) ∙ h) in
              let there : All (λ u. IsTrue (is_some (slot_of (part_nets d cut b) u))) (uses (source_of d n)) = rw (uses-driver (driver_of d n) (get_or d.delays n 0)) (own_uses d cut b n law l own) in
              rw is (source.0, source.1, there))
          | inr other ↦ absurd (let e : is_driven Outside ≡ true = ap is_driven (sym (part_source_other n other)) ∙ h in cc)
        ]

    input : (n : ℕ) → is_input (driver_of d n) ≡ true → part_source d cut b n ≡ Outside
    input n h =
        elim (cases_Bool (is_own cut b n)) [
          | inl own ↦ part_source_own n own ∙ input_source (driver_of d n) (get_or d.delays n 0) h
          | inr other ↦ part_source_other n other
        ]

    not_own : (n : ℕ) → n < nets_of d → part_source d cut b n ≡ Outside → is_own cut b n ≡ true → ⊥
    not_own n l e own =
        let outer = source_input (driver_of d n) (get_or d.delays n 0) (sym (part_source_own n own) ∙ e) in
        let some = owner_some b (owner_of cut n) own in
        let none : is_some (owner_of cut n) ≡ false = fits.owned n l ∙ ap not outer in
        cc

    read : (n : ℕ) → n < nets_of d → is_net d cut b n ≡ true → part_source d cut b n ≡ Outside → is_used (part_of d cut b) n ≡ true
    read n l in_ e =
        elim (or_cases (is_own cut b n) (is_used_by d cut b n) in_) [
          | inl own ↦ absurd (not_own n l e own)
          | inr used ↦ used_same n ∙ used
        ]

    readers_rise : (n : ℕ) → IsStrictlyIncreasing (part_readers d cut b n)
    readers_rise n =
        elim (cases_Bool (is_own cut b n)) [
          | inl own ↦ rw own (kept_rises (λ c. not (c == b) && is_used_by d cut c n) cut.blocks)
          | inr other ↦ rw other (λ k l. absurd (omega (arith, l)))
        ]

    -- the block isn't among the readers of a net
    others : (n : ℕ) → All (λ r. r ≢ b) (part_readers d cut b n)
    others n =
        elim (cases_Bool (is_own cut b n)) [
          | inl own ↦ rw own (All-weaker (λ c. test c ≡ true) (λ c. c ≢ b) other (filter test (range_with_len 0 cut.blocks)) (filter_passes test (range_with_len 0 cut.blocks)))
          | inr foreign ↦ rw foreign (λ k e l. absurd (omega (arith, l)))
        ]
      where
        test : ℕ → Bool
        test c = not (c == b) && is_used_by d cut c n

        other : (c : ℕ) → test c ≡ true → c ≢ b
        other c passes same = (let apart = (and_parts (not (c == b)) (is_used_by d cut c n) passes).0 in absurd (true≢false (sym apart ∙ ap not (eq-eqb c b same))))

    -- a net that the block doesn't own has no readers
    untold : (n : ℕ) → n < nets_of d → part_source d cut b n ≡ Outside → part_readers d cut b n ≡ []
    untold n l e =
        elim (cases_Bool (is_own cut b n)) [
          | inl own ↦ absurd (not_own n l e own)
          | inr foreign ↦ rw foreign refl
        ]

    pub IsPortion-part_of : IsPortion (part_of d cut b)
    IsPortion-part_of = record {
      few = omega (arith, nets_few d cut b, law.within);
      ascending = nets_rise d cut b;
      sources = length-map (part_nets d cut b) (part_source d cut b);
      inputs = length-map (part_nets d cut b) (λ n. is_input (driver_of d n));
      readers = length-map (part_nets d cut b) (part_readers d cut b);
      driven = λ i l h. (let at = source_at i l in let driving = rw at at h in rw at (driven (net i) (nets_within d cut b i 0 l) driving));
      input = λ i l h. source_at i l ∙ input (net i) (sym (get_or-map (λ n. is_input (driver_of d n)) (part_nets d cut b) i 0 false l) ∙ h);
      read = λ i l e. read (net i) (nets_within d cut b i 0 l) (filter_passes (is_net d cut b) (range_with_len 0 (nets_of d)) i 0 l) (sym (source_at i l) ∙ e);
      told = λ i l. (let at = get_or-map (part_readers d cut b) (part_nets d cut b) i 0 [] l in rw at (readers_rise (net i)));
      others = λ i l. (let at = get_or-map (part_readers d cut b) (part_nets d cut b) i 0 [] l in rw at (others (net i)));
      untold = λ i l e. get_or-map (part_readers d cut b) (part_nets d cut b) i 0 [] l ∙ untold (net i) (nets_within d cut b i 0 l) (sym (source_at i l) ∙ e);
    }

-- ---- the fields of a part

pub same_portion : (p q : Portion) → p.block ≡ q.block → p.nets ≡ q.nets → p.sources ≡ q.sources → p.inputs ≡ q.inputs → p.readers ≡ q.readers → p ≡ q
same_portion p q block nets sources inputs readers = λ i. record { block = block i; nets = nets i; sources = sources i; inputs = inputs i; readers = readers i }

-- the fields are those of the circuit's part
pub record AreFields (d : Design) (cut : Ownership) (b : ℕ) (p : Inside) : Type 0 where
  pub number : p.block ≡ b
  pub nets : p.nets.items ≡ part_nets d cut b
  pub many : length p.cells.items ≡ length p.nets.items
  pub cells : AreCells d cut b p.nets.items p.pins.items p.cells.items
  pub readers : map (stretch p.readers.items) p.told.items ≡ map (part_readers d cut b) p.nets.items
  pub spans : All (λ (span : Span). span.start + span.count ≤ length p.readers.items) p.told.items
  pub used : p.used.items ≡ map (is_used_by d cut b) p.nets.items

pub built : (d : Design) (cut : Ownership) (b : ℕ) (p : Inside) → AreFields d cut b p → portion_of p ≡ part_of d cut b
built d cut b p h =
    let nets = p.nets.items in
    let cells = p.cells.items in
    let pins = p.pins.items in
    let sources : map (cell_source nets pins) cells ≡ map (part_source d cut b) nets =
    ext_get_or Outside (map (cell_source nets pins) cells) (map (part_source d cut b) nets)
    (length-map cells (cell_source nets pins) ∙ h.many ∙ sym (length-map nets (part_source d cut b)))
    (λ i l. (let m : i < length cells = omega (arith, l, length-map cells (cell_source nets pins)) in
    get_or-map (cell_source nets pins) cells i Cell.Input Outside m ∙ (h.cells.each i Cell.Input m).source ∙ sym (get_or-map (part_source d cut b) nets i 0 Outside (omega (arith, m, h.many))))) in
    let inputs : map is_input_cell cells ≡ map (λ n. is_input (driver_of d n)) nets =
    ext_get_or false (map is_input_cell cells) (map (λ n. is_input (driver_of d n)) nets)
    (length-map cells is_input_cell ∙ h.many ∙ sym (length-map nets (λ n. is_input (driver_of d n))))
    (λ i l. (let m : i < length cells = omega (arith, l, length-map cells is_input_cell) in
    get_or-map is_input_cell cells i Cell.Input false m ∙ (h.cells.each i Cell.Input m).input ∙ sym (get_or-map (λ n. is_input (driver_of d n)) nets i 0 false (omega (arith, m, h.many))))) in
    same_portion (portion_of p) (part_of d cut b) h.number h.nets
    (sources ∙ ap (map (part_source d cut b)) h.nets)
    (inputs ∙ ap (map (λ n. is_input (driver_of d n))) h.nets)
    (h.readers ∙ ap (map (part_readers d cut b)) h.nets)

pub IsHeld-built : (d : Design) (cut : Ownership) (b : ℕ) (p : Inside) → IsCircuit d → CutFits d cut → AreFields d cut b p → IsHeld p
IsHeld-built d cut b p law fits h =
    let is = built d cut b p h in
    let nets = p.nets.items in
    record {
      portion = rw is (IsPortion-part_of d cut b law fits);
      cells = h.many;
      fit = λ i e l. (h.cells.each i e l).fits;
      pins = h.cells.places;
      told = sym (length-map p.told.items (stretch p.readers.items)) ∙ ap length h.readers ∙ length-map nets (part_readers d cut b);
      spans = h.spans;
      used = h.used ∙ map_same (λ n. sym (used_same d cut b n)) nets ∙ ap (λ (q : Portion). map (is_used q) nets) (sym is);
    }
