-- The nets of a part and what they are to it, as they are built.
use Rattle.std.proofs.Common.{◌≡◌, ℕ, suc, ◌+◌, ◌<◌, ◌≤◌, ◌==◌, Bool, true, false, ◌&&◌, ◌||◌, Option, Some, None, is_some, IsTrue, unwrap_or, List, [], ◌∷◌, ◌++◌, map, take, drop, length, get_or, inl, inr, refl, ap, sym, subst, ◌∙◌, arith}
use Rattle.std.specs.List.{filter, range_with_len, All}
use Rattle.std.specs.List.Sorted.{IsStrictlyIncreasing}
use Rattle.std.proofs.lemmas.Bool.{cases_Bool, cases_lt, eqb-true, or_right, or_left, and_right, and_from}
use Rattle.std.proofs.lemmas.List.{append_assoc, map_more, length-drop, get_or_default, length-map, length-append, take-append-le, drop-append-le, take_all, drop_at, get_or_append_left, get_or_push}
use Rattle.std.proofs.lemmas.List.Elements.{All-append, All-map, All-nil, All-cons}
use Rattle.std.proofs.lemmas.List.Folds.{Any-from_list_any, list_any_none}
use Rattle.gate_values.specs.declared.gate.Kind.{Kind}
use Rattle.gate_values.specs.declared.logic.Logic.{Logic}
use Rattle.gate_values.specs.Tables.{HasInputs}
use Rattle.gate_values.specs.Behaviour.{Source}
use Rattle.gate_netlist.specs.Circuit.{Design, IsCircuit, IsDriven, CutFits, IsDelay, nets_of, driver_of, source_of, source_by, is_input, delay_of, delay_by}
use Rattle.gate_netlist.specs.Cut.{Ownership, own_among, own_nets}
use Rattle.gate_netlist.specs.declared.driver.Driver.{Driver}
use Rattle.gate_netlist.specs.declared.driver.Driver.TheVariants.{Input, Gate, Flop}
use Rattle.warp_part.specs.declared.cell.Cell.{Cell}
use Rattle.warp_part.specs.declared.cell.Cell.TheVariants as cell
use Rattle.warp_part.specs.declared.cell.Span.{Span}
use Rattle.warp_part.specs.Portion.{slot_of, uses, does_use}
use Rattle.warp_part.specs.PartOf.{is_own, is_used_by, part_nets, part_source}
use Rattle.warp_part.specs.Shown.Part.{stretch}
use Rattle.warp_part.specs.Inner.Building.{driver_uses, has, is_used_among, IsCell, HasMore, AreCells}
use Rattle.warp_part.specs.Shown.Building.{place_of}
use Rattle.warp_part.proofs.Slots.{slot_at, slot_is}
use Rattle.warp_part.proofs.PartLists.{any_below, any_kept, any_same, has_at, has_past, has_kept, past_kept, range_below, kept_below, kept_is, kept_rises, kept_few}

-- ---- which nets a driver uses

pub uses-driver : (driver : Driver) (delay : ℕ) → uses (source_by driver delay) ≡ driver_uses driver
uses-driver Input delay = refl
uses-driver (Gate kind inputs) delay = refl
uses-driver (Flop d clock init) delay = refl

driver_uses-below : (driver : Driver) (nets delay : ℕ) → IsDriven nets driver delay → All (λ u. u < nets) (driver_uses driver)
driver_uses-below Input nets delay h = All-nil (λ u. u < nets)
driver_uses-below (Gate kind inputs) nets delay h = h.1
driver_uses-below (Flop d clock init) nets delay h = All-cons (λ u. u < nets) d (clock ∷ []) h.0 (All-cons (λ u. u < nets) clock [] h.1 (All-nil (λ u. u < nets)))

-- ---- a net that is among ascending ones

pub slot_some : (nets : List ℕ) (n : ℕ) → IsStrictlyIncreasing nets → has nets n ≡ true → IsTrue (is_some (slot_of nets n))
slot_some nets n up h =
    let (k, x, l, at, e) = Any-from_list_any (λ y. y == n) nets h in
    let same : get_or nets k 0 ≡ n = get_or_default nets k 0 x l ∙ at ∙ eqb-true x n e in
    let there : slot_of nets n ≡ Some k = subst (λ m. slot_of nets m ≡ Some k) same (slot_at nets k up l) in
    rw there refl

-- a net has a place just where it is among them
pub is_some-slot : (nets : List ℕ) (n : ℕ) → IsStrictlyIncreasing nets → is_some (slot_of nets n) ≡ has nets n
is_some-slot nets n up = go (slot_of nets n) refl
  where
    go : (o : Option ℕ) → slot_of nets n ≡ o → is_some (slot_of nets n) ≡ has nets n
    go (Some i) e = (let is = slot_is nets n i e in ap is_some e ∙ sym (has_at nets i n is.0 is.1))
    go None e = elim (cases_Bool (has nets n)) [
      | inl there ↦ slot_some nets n up there ∙ sym there
      | inr apart ↦ ap is_some e ∙ sym apart
    ]

-- the place of a net that is among others
pub place_is : (nets : List ℕ) (n : ℕ) → IsTrue (is_some (slot_of nets n)) → (place_of nets n < length nets) × (get_or nets (place_of nets n) 0 ≡ n)
place_is nets n h = go (slot_of nets n) refl h
  where
    go : (o : Option ℕ) → slot_of nets n ≡ o → IsTrue (is_some o) → (unwrap_or (slot_of nets n) 0 < length nets) × (get_or nets (unwrap_or (slot_of nets n) 0) 0 ≡ n)
    go None e h = absurd cc
    go (Some i) e h = rw e (slot_is nets n i e)

-- ---- what is used

module _ (d : Design) (cut : Ownership) (b : ℕ) where
  -- a block's own nets are those of the circuit that it owns
  pub own_is : CutFits d cut → own_nets cut b ≡ filter (is_own cut b) (range_with_len 0 (nets_of d))
  own_is fits = ap (λ count. own_among cut.owners count b) fits.nets

  pub own_within : CutFits d cut → All (λ n. n < nets_of d) (own_nets cut b)
  own_within fits = rw (own_is fits) (kept_below (is_own cut b) (nets_of d))

  -- what the own nets use is what gates of the block use
  pub used_is : CutFits d cut → (n : ℕ) → is_used_among d (own_nets cut b) n ≡ is_used_by d cut b n
  used_is fits n =
      ap (λ gates. is_used_among d gates n) (own_is fits)
      ∙ any_kept (λ g. has (driver_uses (driver_of d g)) n) (is_own cut b) (range_with_len 0 (nets_of d))
      ∙ any_same (λ g. is_own cut b g && has (driver_uses (driver_of d g)) n) (λ g. is_own cut b g && does_use n (source_of d g))
      (λ g. ap (λ us. is_own cut b g && has us n) (sym (uses-driver (driver_of d g) (get_or d.delays g 0)))) (range_with_len 0 (nets_of d))

  pub uses-below : (g : ℕ) → IsCircuit d → g < nets_of d → All (λ u. u < nets_of d) (driver_uses (driver_of d g))
  uses-below g law l = driver_uses-below (driver_of d g) (nets_of d) (get_or d.delays g 0) (law.driven g l)

  -- gates use no net past the circuit's
  pub used_past : (n : ℕ) → IsCircuit d → nets_of d ≤ n → is_used_by d cut b n ≡ false
  used_past n law past =
      list_any_none (λ g. is_own cut b g && does_use n (source_of d g)) (range_with_len 0 (nets_of d))
      (λ k e l. none (get_or (range_with_len 0 (nets_of d)) k e) (range_below (nets_of d) k e l))
    where
      none : (g : ℕ) → g < nets_of d → (is_own cut b g && does_use n (source_of d g)) ≡ false
      none g l =
          and_right (is_own cut b g) (does_use n (source_of d g))
          (ap (λ us. has us n) (uses-driver (driver_of d g) (get_or d.delays g 0)) ∙ has_past (driver_uses (driver_of d g)) (nets_of d) n (uses-below g law l) past)

  -- ---- the nets of a part

  abbrev pub is_net : ℕ → Bool
  is_net n = is_own cut b n || is_used_by d cut b n

  pub nets_rise : IsStrictlyIncreasing (part_nets d cut b)
  nets_rise = kept_rises is_net (nets_of d)

  pub nets_within : All (λ n. n < nets_of d) (part_nets d cut b)
  nets_within = kept_below is_net (nets_of d)

  -- the own nets and those that the block's gates use, in order
  pub nets_are : (nets uses : List ℕ) → IsCircuit d → CutFits d cut → IsStrictlyIncreasing nets → ((n : ℕ) → has nets n ≡ (has (own_nets cut b) n || has uses n))
      → ((n : ℕ) → has uses n ≡ is_used_by d cut b n) → nets ≡ part_nets d cut b
  nets_are nets uses law fits up both used =
      kept_is is_net (nets_of d) nets up
      (λ n l. both n ∙ ap (λ o. o || has uses n) (own n ∙ has_kept (is_own cut b) (nets_of d) n l) ∙ ap (λ u. is_own cut b n || u) (used n))
      (λ n l. both n ∙ ap (λ o. o || has uses n) (own n ∙ past_kept (is_own cut b) (nets_of d) n l) ∙ (used n ∙ used_past n law l))
    where
      own : (n : ℕ) → has (own_nets cut b) n ≡ has (filter (is_own cut b) (range_with_len 0 (nets_of d))) n
      own n = ap (λ ns. has ns n) (own_is fits)

  pub nets_few : length (part_nets d cut b) ≤ nets_of d
  nets_few = kept_few is_net (nets_of d)

  pub net_slot : (n : ℕ) → n < nets_of d → is_net n ≡ true → IsTrue (is_some (slot_of (part_nets d cut b) n))
  net_slot n l h = slot_some (part_nets d cut b) n nets_rise (has_kept is_net (nets_of d) n l ∙ h)

  pub own_slot : (n : ℕ) → n < nets_of d → is_own cut b n ≡ true → IsTrue (is_some (slot_of (part_nets d cut b) n))
  own_slot n l own = net_slot n l (or_left (is_own cut b n) (is_used_by d cut b n) own)

  -- the nets that an own net's driver uses are nets of the part
  pub own_uses : (g : ℕ) → IsCircuit d → g < nets_of d → is_own cut b g ≡ true → All (λ u. IsTrue (is_some (slot_of (part_nets d cut b) u))) (driver_uses (driver_of d g))
  own_uses g law l own k e m =
      let us = driver_uses (driver_of d g) in
      let u = get_or us k e in
      let there : has us u ≡ true = has_at us k u m (get_or_default us k 0 e m) in
      let does : does_use u (source_of d g) ≡ true = ap (λ ns. has ns u) (uses-driver (driver_of d g) (get_or d.delays g 0)) ∙ there in
      let used : is_used_by d cut b u ≡ true = any_below (λ o. is_own cut b o && does_use u (source_of d o)) g (nets_of d) l (and_from (is_own cut b g) (does_use u (source_of d g)) own does) in
      net_slot u (uses-below g law l k e m) (or_right (is_own cut b u) (is_used_by d cut b u) used)

-- ---- pins

pub pushed_more : {A : Type 0} (f : ℕ → A) (old sofar new : List A) (xs : List ℕ) (i : ℕ) → i < length xs → sofar ≡ old ++ map f (take i xs) → new ≡ sofar ++ f (get_or xs i 0) ∷ []
    → new ≡ old ++ map f (take (i + 1) xs)
pushed_more f old sofar new xs i l h e =
    e ∙ ap (λ ys. ys ++ f (get_or xs i 0) ∷ []) h ∙ append_assoc old (map f (take i xs)) (f (get_or xs i 0) ∷ []) ∙ ap (λ ys. old ++ ys) (sym (map_more f xs i 0 l))

-- a stretch that lies within a list stays as it is when the list grows
pub stretch-append : (xs ys : List ℕ) (span : Span) → span.start + span.count ≤ length xs → stretch (xs ++ ys) span ≡ stretch xs span
stretch-append xs ys span h =
    ap (take span.count) (drop-append-le span.start xs ys (omega arith))
    ∙ take-append-le span.count (drop span.start xs) ys (omega (arith, length-drop span.start xs))

-- the stretch behind a list
pub stretch-behind : (xs ys : List ℕ) (span : Span) → span.start ≡ length xs → span.count ≡ length ys → stretch (xs ++ ys) span ≡ ys
stretch-behind xs ys span start count =
    ap (take span.count) (drop_at xs ys span.start (sym start)) ∙ take_all span.count ys (omega (arith, count))

-- ---- drivers

pub flop_is : (d : Design) (n data_net clock delay : ℕ) (init : Logic) → IsCircuit d → n < nets_of d → driver_of d n ≡ Flop data_net clock init → Some delay ≡ delay_of d n
    → (source_of d n ≡ Source.Flop delay data_net clock init) × (is_input (driver_of d n) ≡ false) × IsDelay delay
flop_is d n data_net clock delay init law l is delays =
    let same : delay ≡ get_or d.delays n 0 = (let e : Some delay ≡ Some (get_or d.delays n 0) = subst (λ driver. Some delay ≡ delay_by driver (get_or d.delays n 0)) is delays in cc) in
    let driven : IsDriven (nets_of d) (Flop data_net clock init) delay =
    subst (IsDriven (nets_of d) (Flop data_net clock init)) (sym same) (subst (λ driver. IsDriven (nets_of d) driver (get_or d.delays n 0)) is (law.driven n l)) in
    (ap (λ driver. source_by driver (get_or d.delays n 0)) is ∙ ap (λ k. Source.Flop k data_net clock init) (sym same), ap is_input is, driven.2)

-- ---- cells

module _ (nets : List ℕ) where
  places_are : (ns : List ℕ) → All (λ u. IsTrue (is_some (slot_of nets u))) ns → map (λ place. get_or nets place 0) (map (place_of nets) ns) ≡ ns
  places_are [] h = refl
  places_are (n ∷ ns) h =
      let first = (place_is nets n (h 0 0 (omega arith))).1 in
      let rest = places_are ns (λ k d l. h (suc k) d (omega (arith, l))) in
      cc

  pub places_within : (ns : List ℕ) → All (λ u. IsTrue (is_some (slot_of nets u))) ns → All (λ place. place < length nets) (map (place_of nets) ns)
  places_within ns h =
      All-map (λ place. place < length nets) (place_of nets) ns (λ k d l. (place_is nets (get_or ns k d) (h k d l)).0)

  pub gate_cell : (old inputs : List ℕ) (kind : Kind) (delay : ℕ) (span : Span) → All (λ u. IsTrue (is_some (slot_of nets u))) inputs → HasInputs kind (length inputs) → IsDelay delay
      → span.start ≡ length old → span.count ≡ length inputs
      → IsCell nets (old ++ map (place_of nets) inputs) (Source.Gate kind delay inputs) false (cell.Gate kind delay span)
  gate_cell old inputs kind delay span there has_ delays start count = record {
    fits = (omega (arith, length-append old (map (place_of nets) inputs), length-map inputs (place_of nets)), rw count has_, delays.0, delays.1);
    source = ap (Source.Gate kind delay)
        (ap (map (λ place. get_or nets place 0)) (stretch-behind old (map (place_of nets) inputs) span start (omega (arith, length-map inputs (place_of nets)))) ∙ places_are inputs there);
    input = refl;
  }

  -- one whose pins stand in the cell
  pub pair_cell : (pins inputs : List ℕ) (kind : Kind) (delay : ℕ) → length inputs ≡ 2 → All (λ u. IsTrue (is_some (slot_of nets u))) inputs → HasInputs kind (length inputs) → IsDelay delay
      → IsCell nets pins (Source.Gate kind delay inputs) false (cell.Pair kind delay (map (place_of nets) inputs))
  pair_cell pins inputs kind delay two there has_ delays = record {
    fits = (length-map inputs (place_of nets) ∙ two, places_within inputs there, rw two at has_, delays.0, delays.1);
    source = ap (Source.Gate kind delay) (places_are inputs there);
    input = refl;
  }

  pub flop_cell : (pins : List ℕ) (delay d clock : ℕ) (init : Logic) → IsTrue (is_some (slot_of nets d)) → IsTrue (is_some (slot_of nets clock)) → IsDelay delay
      → IsCell nets pins (Source.Flop delay d clock init) false (cell.Flop init delay (place_of nets d) (place_of nets clock))
  flop_cell pins delay d clock init data_there clock_there delays =
      let data_is = place_is nets d data_there in
      let clock_is = place_is nets clock clock_there in
      record {
        fits = (data_is.0, clock_is.0, delays.0, delays.1);
        source = ap (λ n. Source.Flop delay n (get_or nets (place_of nets clock) 0) init) data_is.1 ∙ ap (λ n. Source.Flop delay d n init) clock_is.1;
        input = refl;
      }

  IsCell-more : (pins more : List ℕ) (sets : Source) (outer : Bool) (e : Cell) → IsCell nets pins sets outer e → IsCell nets (pins ++ more) sets outer e
  IsCell-more pins more sets outer cell.Input h = record { fits = tt; source = h.source; input = h.input }
  IsCell-more pins more sets outer cell.Foreign h = record { fits = tt; source = h.source; input = h.input }
  IsCell-more pins more sets outer (cell.Pair kind delay two) h = record { fits = h.fits; source = h.source; input = h.input }
  IsCell-more pins more sets outer (cell.Gate kind delay span) h =
      let (within, has_, low, high) = h.fits in
      record {
        fits = (omega (arith, within, length-append pins more), has_, low, high);
        source = ap (λ ps. Source.Gate kind delay (map (λ place. get_or nets place 0) ps)) (stretch-append pins more span within) ∙ h.source;
        input = h.input;
      }
  IsCell-more pins more sets outer (cell.Flop init delay d clock) h = record { fits = h.fits; source = h.source; input = h.input }

-- one cell more
pub AreCells-push : (d : Design) (cut : Ownership) (b : ℕ) (nets pins new : List ℕ) (cells : List Cell) (i : ℕ) (e : Cell) → length cells ≡ i → AreCells d cut b nets pins cells → HasMore (length nets) pins new
    → IsCell nets new (part_source d cut b (get_or nets i 0)) (is_input (driver_of d (get_or nets i 0))) e → AreCells d cut b nets new (cells ++ e ∷ [])
AreCells-push d cut b nets pins new cells i e many h more is = record {
  each = λ k other l.
      elim (cases_lt k (length cells)) [
        | inl before ↦
            rw (more.added, get_or_append_left cells (e ∷ []) other k before)
            (IsCell-more nets pins more.more (part_source d cut b (get_or nets k 0)) (is_input (driver_of d (get_or nets k 0))) (get_or cells k other) (h.each k other before))
        | inr last ↦
            (let at : k ≡ i = omega (arith, many, last, l, length-append cells (e ∷ [])) in
            rw (at, get_or_push cells e other i many) is)
      ];
  places = rw more.added (All-append (λ pin. pin < length nets) pins more.more h.places more.places);
}
