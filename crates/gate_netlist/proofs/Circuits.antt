-- The circuit of a netlist with its flip-flops' clocks has the law of circuits, and its cut that of cuts.
use Rattle.std.proofs.Common.{◌≡◌, ◌∙◌, ℕ, ◌+◌, ◌<◌, Bool, true, false, not, ◌||◌, nat_lt, List, [], ◌∷◌, length, map, get_or, Option, Some, None, is_some, IsSome, IfSome, unwrap_or, option_map, option_and_then, refl, ap, arith, inl, inr, codes}
use Rattle.std.specs.List.{All, range_with_len, zip, list_any, position, position_or_len}
use Rattle.std.specs.Str.{bytes_eq}
use Rattle.std.proofs.lemmas.Bool.{cases_Bool, cases_lt, ltb-true, eq-eqb}
use Rattle.std.proofs.lemmas.List.{length-map, get_or-map, get_or_past}
use Rattle.std.proofs.lemmas.List.Elements.{All-nil, All-cons}
use Rattle.std.proofs.lemmas.Slice.Eq.{bytes_eq-Decides}
use Rattle.std.proofs.lemmas.Slice.Zip.{length-zip, get_or-zip}
use Rattle.toml.specs.Data.{Members, get_member, as_table}
use Rattle.gate_values.specs.Words.{word_of}
use Rattle.gate_netlist.specs.declared.bench.Definition.{Definition}
use Rattle.gate_netlist.specs.declared.bench.Definition.TheVariants.{Input, Gate, Flop}
use Rattle.gate_netlist.specs.declared.driver.Driver.{Driver}
use Rattle.gate_netlist.specs.declared.driver.Driver.TheVariants as driver
use Rattle.gate_netlist.specs.Netlist.{Netlist, place_of, any_net}
use Rattle.gate_netlist.specs.Inner.Netlist.{IsDefinition}
use Rattle.gate_netlist.specs.Cut.{IsOwnership}
use Rattle.gate_netlist.specs.Circuit.{Design, IsCircuit, CutFits, IsDriven, IsDelay, nets_of, driver_of, nets_used, readers_among, readers_of, is_input, is_clocked_by}
use Rattle.gate_netlist.specs.Settings.{delay_at, table_at, net_delay, net_block, greatest_block, clock_name, clock_of_flop, takes_clock, delay_of_key}
use Rattle.gate_netlist.specs.Causes.{is_flop_line}
use Rattle.gate_netlist.specs.Meaning.{with_clock, driver_by, drivers_of, clock_among, delays_of, cut_of, clocked_circuit, circuit_of}
use Rattle.gate_netlist.specs.Inner.Clocked.{HasClocks}
use Rattle.gate_netlist.specs.Statements.{flop_word}
use Rattle.gate_netlist.proofs.SettingValues.{unwrap_or_fits, delay_at-IsDelay, delay_of_key-IsDelay, greatest_block-within, block_at-le}

or-last : (b : Bool) → (b || true) ≡ true
or-last true = refl
or-last false = refl

-- ---- a list over names and definitions

abbrev by_net : {X : Type 0} → (List ℕ → Definition → X) → List (List ℕ) → List Definition → List X
by_net f names ds = map (λ (net : List ℕ × Definition). f net.0 net.1) (zip names ds)

length-by_net : {X : Type 0} (f : List ℕ → Definition → X) (names : List (List ℕ)) (ds : List Definition) → length ds ≡ length names → length (by_net f names ds) ≡ length names
length-by_net f names ds e = length-map (zip names ds) (λ net. f net.0 net.1) ∙ length-zip names ds ∙ omega arith

get_or-by_net : {X : Type 0} (f : List ℕ → Definition → X) (names : List (List ℕ)) (ds : List Definition) (n : ℕ) (d : X) → n < length names → n < length ds
    → get_or (by_net f names ds) n d ≡ f (get_or names n []) (get_or ds n Input)
get_or-by_net f names ds n d l m =
    get_or-map (λ (net : List ℕ × Definition). f net.0 net.1) (zip names ds) n ([], Input) d (omega (arith, length-zip names ds))
    ∙ ap (λ (net : List ℕ × Definition). f net.0 net.1) (get_or-zip names ds n ([], Input) l m)

-- ---- drivers and delays

position-below : {X : Type 0} (p : X → Bool) (xs : List X) → IfSome (position p xs) (λ n. n < length xs)
position-below p xs =
    elim (cases_Bool (nat_lt (position_or_len p xs) (length xs))) [
      | inl found ↦ rw found (ltb-true _ _ found)
      | inr absent ↦ rw absent tt
    ]

known_below : (o : Option ℕ) (most : ℕ) → IsSome o → IfSome o (λ n. n < most) → unwrap_or o 0 < most
known_below None most some h = absurd cc
known_below (Some n) most some h = h

IsDriven-by : (ms : Members) (names : List (List ℕ)) (name : List ℕ) (d : Definition) → IsDefinition (length names) d
    → (is_flop_line d ≡ true → IsSome (place_of names (clock_of_flop ms name))) → IsDriven (length names) (driver_by ms names name d) (net_delay ms name d)
IsDriven-by ms names name Input h c = refl
IsDriven-by ms names name (Gate kind inputs) h c =
    (h.0, h.1, unwrap_or_fits IsDelay (delay_at name (table_at (codes "net") ms)) (delay_of_key ms (word_of kind)) (delay_at-IsDelay name (table_at (codes "net") ms)) (delay_of_key-IsDelay ms (word_of kind)))
IsDriven-by ms names name (Flop d) h c = (
  h,
  known_below (place_of names (clock_of_flop ms name)) (length names) (c refl) (position-below (λ other. bytes_eq (clock_of_flop ms name) other) names),
  unwrap_or_fits IsDelay (delay_at name (table_at (codes "net") ms)) (delay_of_key ms flop_word) (delay_at-IsDelay name (table_at (codes "net") ms)) (delay_of_key-IsDelay ms flop_word),
)

-- ---- the clock that `clock` names

-- a flip-flop that takes it has it
clocked_by_it : (ms : Members) (names : List (List ℕ)) (c : ℕ) (name : List ℕ) (d : Definition) → place_of names (clock_name ms) ≡ Some c
    → takes_clock ms name d ≡ true → is_clocked_by c (driver_by ms names name d) ≡ true
clocked_by_it ms names c name Input e t = absurd cc
clocked_by_it ms names c name (Gate kind inputs) e t = absurd cc
clocked_by_it ms names c name (Flop d) e t =
    let same : clock_of_flop ms name ≡ clock_name ms = (bytes_eq-Decides (clock_of_flop ms name) (clock_name ms)).0 t in
    rw (same, e) (eq-eqb c c refl)

some_clocked_by_it : (ms : Members) (names : List (List ℕ)) (c : ℕ) (nets : List (List ℕ × Definition)) → place_of names (clock_name ms) ≡ Some c
    → list_any (λ (net : List ℕ × Definition). takes_clock ms net.0 net.1) nets ≡ true
    → list_any (is_clocked_by c) (map (λ (net : List ℕ × Definition). driver_by ms names net.0 net.1) nets) ≡ true
some_clocked_by_it ms names c [] e t = absurd cc
some_clocked_by_it ms names c (net ∷ nets) e t =
    elim (cases_Bool (takes_clock ms net.0 net.1)) [
      | inl takes ↦ rw (clocked_by_it ms names c net.0 net.1 e takes) refl
      | inr other ↦ (let rest : list_any (λ (n : List ℕ × Definition). takes_clock ms n.0 n.1) nets ≡ true = rw other at t in
          rw (some_clocked_by_it ms names c nets e rest) (or-last (is_clocked_by c (driver_by ms names net.0 net.1))))
    ]

clock_taken : (ms : Members) (names : List (List ℕ)) (definitions : List Definition)
    → IfSome (clock_among ms names definitions) (λ c. list_any (is_clocked_by c) (drivers_of ms names definitions) ≡ true)
clock_taken ms names definitions =
    elim (cases_Bool (any_net (takes_clock ms) names definitions)) [
      | inl takes ↦ rw takes (by_place (place_of names (clock_name ms)) refl takes)
      | inr none ↦ rw none tt
    ]
  where
    by_place : (o : Option ℕ) → place_of names (clock_name ms) ≡ o → any_net (takes_clock ms) names definitions ≡ true
        → IfSome o (λ c. list_any (is_clocked_by c) (drivers_of ms names definitions) ≡ true)
    by_place None e t = tt
    by_place (Some c) e t = some_clocked_by_it ms names c (zip names definitions) e t

clock_among-below : (ms : Members) (names : List (List ℕ)) (definitions : List Definition) → IfSome (clock_among ms names definitions) (λ n. n < length names)
clock_among-below ms names definitions =
    elim (cases_Bool (any_net (takes_clock ms) names definitions)) [
      | inl takes ↦ rw takes (position-below (λ other. bytes_eq (clock_name ms) other) names)
      | inr none ↦ rw none tt
    ]

-- ---- the cut

is_some-net_block : (blocks ms : Members) (names : List (List ℕ)) (name : List ℕ) (d : Definition) → is_some (net_block blocks name d) ≡ not (is_input (driver_by ms names name d))
is_some-net_block blocks ms names name Input = refl
is_some-net_block blocks ms names name (Gate kind inputs) = refl
is_some-net_block blocks ms names name (Flop d) = refl

net_block-below : (blocks : Members) (name : List ℕ) (d : Definition) → IfSome (net_block blocks name d) (λ block. block < greatest_block blocks + 1)
net_block-below blocks name Input = tt
net_block-below blocks name (Gate kind inputs) = omega (arith, block_at-le name blocks)
net_block-below blocks name (Flop d) = omega (arith, block_at-le name blocks)

pub cut_is_ownership : (blocks : Members) (names : List (List ℕ)) (ds : List Definition) → length ds ≡ length names → IsOwnership (cut_of blocks names ds)
cut_is_ownership blocks names ds e = record {
  some = omega arith;
  within = omega (arith, greatest_block-within blocks);
  owned = λ n. elim (cases_lt n (length names)) [
    | inl l ↦ rw (get_or-by_net (net_block blocks) names ds n None l (omega arith)) (net_block-below blocks (get_or names n []) (get_or ds n Input))
    | inr past ↦ rw (get_or_past (by_net (net_block blocks) names ds) n None (omega (arith, length-by_net (net_block blocks) names ds e))) tt
  ];
}

-- ---- the circuit

module _ (ms : Members) (b : Netlist) (h : HasClocks ms b) where
  driver_at : (n : ℕ) → n < length b.names → driver_of (clocked_circuit ms b) n ≡ driver_by ms b.names (get_or b.names n []) (get_or b.definitions n Input)
  driver_at n l = get_or-by_net (driver_by ms b.names) b.names b.definitions n driver.Input l (omega (arith, h.definitions))

  delay_at_net : (n : ℕ) → n < length b.names → get_or (delays_of ms b.names b.definitions) n 0 ≡ net_delay ms (get_or b.names n []) (get_or b.definitions n Input)
  delay_at_net n l = get_or-by_net (net_delay ms) b.names b.definitions n 0 l (omega (arith, h.definitions))

  driven_at : (n : ℕ) → n < length b.names → IsDriven (length b.names) (driver_of (clocked_circuit ms b) n) (get_or (delays_of ms b.names b.definitions) n 0)
  driven_at n l = rw (driver_at n l, delay_at_net n l)
      (IsDriven-by ms b.names (get_or b.names n []) (get_or b.definitions n Input) (h.defined n l) (h.clocked n l))

  cut_fits : (blocks : Members) → CutFits (clocked_circuit ms b) (cut_of blocks b.names b.definitions)
  cut_fits blocks = record {
    nets = length-by_net (net_block blocks) b.names b.definitions h.definitions;
    owned = λ n l. rw (get_or-by_net (net_block blocks) b.names b.definitions n None l (omega (arith, h.definitions)), driver_at n l)
        (is_some-net_block blocks ms b.names (get_or b.names n []) (get_or b.definitions n Input));
  }

  cut_of_table : (o : Option Members) → IfSome (option_map (λ blocks. cut_of blocks b.names b.definitions) o) (CutFits (clocked_circuit ms b))
  cut_of_table None = tt
  cut_of_table (Some blocks) = cut_fits blocks

  pub is_circuit : IsCircuit (clocked_circuit ms b)
  is_circuit = record {
    within = h.within;
    named = h.named;
    drivers = length-by_net (driver_by ms b.names) b.names b.definitions h.definitions;
    delays = length-by_net (net_delay ms) b.names b.definitions h.definitions;
    driven = driven_at;
    outputs = h.outputs;
    distinct = h.distinct;
    clock = clock_among-below ms b.names b.definitions;
    taken = clock_taken ms b.names b.definitions;
    marks = h.marks;
    cut = cut_of_table (option_and_then as_table (get_member (codes "block") ms));
  }

pub length-owners_of : (blocks : Members) (names : List (List ℕ)) (ds : List Definition) → length ds ≡ length names → length (cut_of blocks names ds).owners ≡ length names
length-owners_of blocks names ds e = length-by_net (net_block blocks) names ds e

-- ---- what drivers use

used_by : (nets : ℕ) (s : Driver) (delay : ℕ) → IsDriven nets s delay → All (λ n. n < nets) (nets_used s)
used_by nets driver.Input delay h = All-nil (λ n. n < nets)
used_by nets (driver.Gate kind inputs) delay h = h.1
used_by nets (driver.Flop d clock init) delay h = All-cons (λ n. n < nets) d (clock ∷ []) h.0 (All-cons (λ n. n < nets) clock [] h.1 (All-nil (λ n. n < nets)))

pub used_below : (d : Design) → IsCircuit d → (g : ℕ) → g < length d.drivers → All (λ n. n < length d.drivers) (nets_used (get_or d.drivers g driver.Input))
used_below d h g l = rw h.drivers (used_by (nets_of d) (driver_of d g) (get_or d.delays g 0) (h.driven g (omega (arith, h.drivers))))

pub readers_all : {d : Design} → IsCircuit d → map (readers_among d.drivers (length d.drivers)) (range_with_len 0 (length d.drivers)) ≡ map (readers_of d) (range_with_len 0 (nets_of d))
readers_all {d} h = rw h.drivers refl

pub clocked_circuit-circuit_of : (ms : Members) (more parts b : Netlist) → more ≡ with_clock ms parts → parts ≡ b → clocked_circuit ms more ≡ circuit_of b ms
unfolding circuit_of
clocked_circuit-circuit_of ms more parts b added same = rw (added, same) refl
