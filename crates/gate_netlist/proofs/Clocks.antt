-- A netlist with its flip-flops' clocks among its nets.
use Rattle.std.proofs.Common.{◌≡◌, ◌∙◌, ap, map, ℕ, zero, suc, ◌+◌, ◌<◌, ◌≤◌, ◌⊎◌, Bool, true, false, not, cond, ◌&&◌, ◌||◌, List, [], ◌∷◌, ◌++◌, length, get_or, codes, Option, Some, None, is_none, IsSome, refl, sym, arith, inl, inr, lt-ltb}
use Rattle.std.specs.List.{position, position_or_len, zip}
use Rattle.std.specs.Str.{bytes_eq}
use Rattle.std.proofs.lemmas.Bool.{cases_Bool, cases_lt, le-ltb}
use Rattle.std.proofs.lemmas.List.{length-append, length-map, map-append, get_or_past, get_or_append_left}
use Rattle.std.proofs.lemmas.List.Folds.{list_any_at}
use Rattle.std.proofs.lemmas.Slice.Eq.{bytes_eq-Decides}
use Rattle.std.proofs.lemmas.Slice.Zip.{length-zip, get_or-zip}
use Rattle.toml.specs.Data.{Members, as_str}
use Rattle.gate_netlist.specs.declared.bench.Definition.{Definition}
use Rattle.gate_netlist.specs.declared.bench.Definition.TheVariants.{Input, Gate, Flop}
use Rattle.gate_netlist.specs.declared.fault.SettingsFault.{SettingsFault}
use Rattle.gate_netlist.specs.declared.fault.SettingsFault.TheVariants.{UnknownKey, UnknownNet, BadDelay, BadCut, BadClock, BadInit}
use Rattle.gate_netlist.specs.Netlist.{Netlist, net_named, any_net}
use Rattle.gate_netlist.specs.Inner.Netlist.{IsNetlist, IsDefinition}
use Rattle.gate_netlist.specs.Settings.{table_at, net_delay, clock_name, clock_of_flop, takes_clock}
use Rattle.gate_netlist.specs.Causes.{is_flop_line, any_member, is_name, is_missing_clock, lacks_clock, has_unknown_key, has_unknown_net, has_bad_delay, has_bad_block, has_bad_clock, has_bad_init, cause_of}
use Rattle.gate_netlist.specs.Meaning.{with_input, with_clock, delays_of}
use Rattle.gate_netlist.specs.Inner.Clocked.{HasClocks}
use Rattle.gate_netlist.proofs.Distinct.{length-le-bound}
use Rattle.gate_netlist.proofs.Differing.{names_differ_more, absent}

-- ---- places in a list

-- a list whose last element passes has one that passes
position_or_len-last : {X : Type 0} (p : X → Bool) (xs : List X) (y : X) → p y ≡ true → position_or_len p (xs ++ y ∷ []) < length (xs ++ y ∷ [])
position_or_len-last p [] y e = rw e (omega arith)
position_or_len-last p (x ∷ xs) y e =
    elim (cases_Bool (p x)) [
      | inl passes ↦ rw passes (omega arith)
      | inr fails ↦ rw fails (omega (arith, position_or_len-last p xs y e))
    ]

position_or_len-more : {X : Type 0} (p : X → Bool) (xs : List X) (y : X) → position_or_len p xs < length xs → position_or_len p (xs ++ y ∷ []) < length (xs ++ y ∷ [])
position_or_len-more p [] y l = absurd (omega arith)
position_or_len-more p (x ∷ xs) y l =
    elim (cases_Bool (p x)) [
      | inl passes ↦ rw passes (omega arith)
      | inr fails ↦ (let rest : 1 + position_or_len p xs < suc (length xs) = rw fails at l in rw fails (omega (arith, position_or_len-more p xs y (omega arith))))
    ]

-- one that passes stays
position-more : {X : Type 0} (p : X → Bool) (xs : List X) (y : X) → IsSome (position p xs) → IsSome (position p (xs ++ y ∷ []))
position-more p xs y there =
    elim (cases_lt (position_or_len p xs) (length xs)) [
      | inl l ↦ rw (lt-ltb _ _ (position_or_len-more p xs y l)) refl
      | inr past ↦ (let none : position p xs ≡ None = rw (le-ltb _ _ past) refl in absurd cc)
    ]

position-last : {X : Type 0} (p : X → Bool) (xs : List X) (y : X) → p y ≡ true → IsSome (position p (xs ++ y ∷ []))
position-last p xs y e = rw (lt-ltb _ _ (position_or_len-last p xs y e)) refl

-- ---- the clock as the last net

IsDefinition-wider : (m n : ℕ) (d : Definition) → m ≤ n → IsDefinition m d → IsDefinition n d
IsDefinition-wider m n Input le h = tt
IsDefinition-wider m n (Gate kind inputs) le h = (h.0, λ k e l. omega (arith, h.1 k e l))
IsDefinition-wider m n (Flop d) le h = omega (arith, h)

-- one more input is what stands past the end anyhow
get_or-and_input : (ds : List Definition) (n : ℕ) → get_or (ds ++ Input ∷ []) n Input ≡ get_or ds n Input
get_or-and_input [] zero = refl
get_or-and_input [] (suc n) = refl
get_or-and_input (d ∷ ds) zero = refl
get_or-and_input (d ∷ ds) (suc n) = get_or-and_input ds n

IsDefinition-anywhere : (b : Netlist) (n : ℕ) → IsNetlist b → IsDefinition (length b.names) (get_or b.definitions n Input)
IsDefinition-anywhere b n h =
    elim (cases_lt n (length b.names)) [
      | inl l ↦ h.defined n l
      | inr past ↦ rw (get_or_past b.definitions n Input (omega (arith, h.definitions))) tt
    ]

-- no more nets are marked than there are
marks_within : (b : Netlist) → IsNetlist b → length b.outputs ≤ length b.names
marks_within b h = length-le-bound b.outputs (length b.names) h.distinct h.outputs

-- ---- a flip-flop's clock

-- what is true of some net among all, by its place
net_test : (p : List ℕ → Definition → Bool) (b : Netlist) (n : ℕ) → n < length b.names → length b.definitions ≡ length b.names
    → p (get_or b.names n []) (get_or b.definitions n Input) ≡ true → any_net p b.names b.definitions ≡ true
net_test p b n l e passes =
    list_any_at (λ (net : List ℕ × Definition). p net.0 net.1) (zip b.names b.definitions) n ([], Input) (omega (arith, length-zip b.names b.definitions))
    (rw (get_or-zip b.names b.definitions n ([], Input) l (omega arith)) passes)

no_net_test : (p : List ℕ → Definition → Bool) (b : Netlist) (n : ℕ) → n < length b.names → length b.definitions ≡ length b.names
    → any_net p b.names b.definitions ≡ false → p (get_or b.names n []) (get_or b.definitions n Input) ≡ false
no_net_test p b n l e none =
    elim (cases_Bool (p (get_or b.names n []) (get_or b.definitions n Input))) [
      | inl passes ↦ (let some = net_test p b n l e passes in absurd cc)
      | inr fails ↦ fails
    ]

takes_by : (ms : Members) (flop : List ℕ) (d : Definition) → is_flop_line d ≡ true → takes_clock ms flop d ≡ bytes_eq (clock_of_flop ms flop) (clock_name ms)
takes_by ms flop Input e = absurd cc
takes_by ms flop (Gate kind inputs) e = absurd cc
takes_by ms flop (Flop d) e = refl

lacks_by : (b : Netlist) (ms : Members) (flop : List ℕ) (d : Definition) → is_flop_line d ≡ true → lacks_clock b ms flop d ≡ is_missing_clock b ms (clock_of_flop ms flop)
lacks_by b ms flop Input e = absurd cc
lacks_by b ms flop (Gate kind inputs) e = absurd cc
lacks_by b ms flop (Flop d) e = refl

-- there is one, or the name is the one that may be added
there_or_shared : {X : Type 0} (o : Option X) (same named : Bool) → (is_none o && not (same && named)) ≡ false → IsSome o ⊎ (same ≡ true)
there_or_shared (Some x) same named e = inl refl
there_or_shared None true named e = inr refl
there_or_shared None false named e = absurd cc

missing : {X : Type 0} (takes : Bool) (o : Option X) → (takes && is_none o) ≡ true → o ≡ None
missing true (Some x) e = absurd cc
missing true None e = refl
missing false o e = absurd cc

there_if_taken : {X : Type 0} (takes : Bool) (o : Option X) → (takes && is_none o) ≡ false → takes ≡ true → IsSome o
there_if_taken true (Some x) e t = refl
there_if_taken true None e t = absurd cc
there_if_taken false o e t = absurd cc

module _ (ms : Members) (b : Netlist) (h : IsNetlist b) (good : any_net (lacks_clock b ms) b.names b.definitions ≡ false) where
  abbrev clock_at : ℕ → List ℕ
  clock_at n = clock_of_flop ms (get_or b.names n [])

  -- a flip-flop's clock is a net, or has the name that `clock` gives
  clock_known : (n : ℕ) → n < length b.names → is_flop_line (get_or b.definitions n Input) ≡ true → IsSome (net_named b (clock_at n)) ⊎ (bytes_eq (clock_at n) (clock_name ms) ≡ true)
  clock_known n l flop =
      there_or_shared (net_named b (clock_at n)) (bytes_eq (clock_at n) (clock_name ms)) (is_name (clock_at n))
      (sym (lacks_by b ms (get_or b.names n []) (get_or b.definitions n Input) flop) ∙ no_net_test (lacks_clock b ms) b n l h.definitions good)

  clocked_as_it_is : (any_net (takes_clock ms) b.names b.definitions && is_none (net_named b (clock_name ms))) ≡ false → HasClocks ms b
  clocked_as_it_is e = record {
    within = omega (arith, h.within);
    named = h.named;
    distinct = h.distinct;
    definitions = h.definitions;
    defined = h.defined;
    outputs = h.outputs;
    marks = marks_within b h;
    clocked = λ n l flop. elim (clock_known n l flop) [
      | inl there ↦ there
      | inr shared ↦
          (let taken = net_test (takes_clock ms) b n l h.definitions (takes_by ms (get_or b.names n []) (get_or b.definitions n Input) flop ∙ shared) in
          let same : clock_at n ≡ clock_name ms = (bytes_eq-Decides (clock_at n) (clock_name ms)).0 shared in
          rw same (there_if_taken (any_net (takes_clock ms) b.names b.definitions) (net_named b (clock_name ms)) e taken))
    ];
  }

  clocked_by_one_more : net_named b (clock_name ms) ≡ None → HasClocks ms (with_input (clock_name ms) b)
  clocked_by_one_more new = record {
    named = names_differ_more b.names (clock_name ms) h.named (absent (λ other. bytes_eq (clock_name ms) other) b.names new);
    distinct = h.distinct;
    within = omega (arith, h.within, length-append b.names (clock_name ms ∷ []));
    definitions = omega (arith, h.definitions, length-append b.names (clock_name ms ∷ []), length-append b.definitions (Input ∷ []));
    defined = λ n l. rw (get_or-and_input b.definitions n) (IsDefinition-wider (length b.names) _ _ (omega (arith, length-append b.names (clock_name ms ∷ []))) (IsDefinition-anywhere b n h));
    outputs = λ k d l. omega (arith, h.outputs k d l, length-append b.names (clock_name ms ∷ []));
    marks = omega (arith, marks_within b h, length-append b.names (clock_name ms ∷ []));
    clocked = λ n l flop. clocked_there n (rw (get_or-and_input b.definitions n) at flop);
  }
    where
      clocked_there : (n : ℕ) → is_flop_line (get_or b.definitions n Input) ≡ true → IsSome (net_named (with_input (clock_name ms) b) (clock_of_flop ms (get_or (b.names ++ clock_name ms ∷ []) n [])))
      clocked_there n flop =
          elim (cases_lt n (length b.names)) [
            | inl l ↦ rw (get_or_append_left b.names (clock_name ms ∷ []) [] n l) (elim (clock_known n l flop) [
              | inl there ↦ position-more (λ other. bytes_eq (clock_at n) other) b.names (clock_name ms) there
              | inr shared ↦ position-last (λ other. bytes_eq (clock_at n) other) b.names (clock_name ms) shared
            ])
            | inr past ↦ (let none : is_flop_line (get_or b.definitions n Input) ≡ false = rw (get_or_past b.definitions n Input (omega (arith, h.definitions))) refl in absurd cc)
          ]

  pub has_clocks : HasClocks ms (with_clock ms b)
  has_clocks =
      elim (cases_Bool (any_net (takes_clock ms) b.names b.definitions && is_none (net_named b (clock_name ms)))) [
        | inl added ↦ rw added (clocked_by_one_more (missing (any_net (takes_clock ms) b.names b.definitions) (net_named b (clock_name ms)) added))
        | inr stays ↦ rw stays (clocked_as_it_is stays)
      ]

none_before : (a b c d e f : Bool) (x1 x2 x3 x4 x5 x6 : SettingsFault)
    → cond a (Some x1) (cond b (Some x2) (cond c (Some x3) (cond d (Some x4) (cond e (Some x5) (cond f (Some x6) None))))) ≡ None → e ≡ false
none_before true b c d e f x1 x2 x3 x4 x5 x6 h = absurd cc
none_before false true c d e f x1 x2 x3 x4 x5 x6 h = absurd cc
none_before false false true d e f x1 x2 x3 x4 x5 x6 h = absurd cc
none_before false false false true e f x1 x2 x3 x4 x5 x6 h = absurd cc
none_before false false false false true f x1 x2 x3 x4 x5 x6 h = absurd cc
none_before false false false false false f x1 x2 x3 x4 x5 x6 h = refl

no_bad_clock : (b : Netlist) (ms : Members) → cause_of b ms ≡ None → has_bad_clock b ms ≡ false
unfolding cause_of
no_bad_clock b ms e = none_before (has_unknown_key ms) (has_unknown_net b ms) (has_bad_delay ms) (has_bad_block ms) (has_bad_clock b ms) (has_bad_init ms) UnknownKey UnknownNet BadDelay BadCut BadClock BadInit e

second_false : (a b : Bool) → (a || b) ≡ false → b ≡ false
second_false true b e = absurd cc
second_false false b e = e

-- the same, as the code comes to it: by the parts of the bench
pub has_clocks_by : (ms : Members) (more parts b : Netlist) → more ≡ with_clock ms parts → parts ≡ b → IsNetlist b → cause_of b ms ≡ None → HasClocks ms more
has_clocks_by ms more parts b added same law none =
    rw (added, same) (has_clocks ms b law (second_false (any_member (λ k d. is_none (as_str d)) (table_at (codes "clocks") ms)) _ (no_bad_clock b ms none)))

-- ---- the delays of the nets with the clock among them

zip-more : {K X : Type 0} (ks : List K) (xs : List X) (k : K) (x : X) → length ks ≡ length xs → zip (ks ++ k ∷ []) (xs ++ x ∷ []) ≡ zip ks xs ++ (k, x) ∷ []
zip-more [] [] k x e = refl
zip-more [] (y ∷ ys) k x e = absurd (omega (arith, e))
zip-more (a ∷ ks) [] k x e = absurd (omega (arith, e))
zip-more (a ∷ ks) (y ∷ ys) k x e = ap (λ rest. (a, y) ∷ rest) (zip-more ks ys k x (omega (arith, e)))

delays_of-more : (ms : Members) (b : Netlist) (name : List ℕ) → length b.definitions ≡ length b.names
    → delays_of ms (with_input name b).names (with_input name b).definitions ≡ delays_of ms b.names b.definitions ++ 0 ∷ []
delays_of-more ms b name many =
    let delay : (List ℕ × Definition) → ℕ = λ net. net_delay ms net.0 net.1 in
    ap (map delay) (zip-more b.names b.definitions name Input (sym many)) ∙ map-append delay (zip b.names b.definitions) ((name, Input) ∷ [])

length-delays_of : (ms : Members) (b : Netlist) → length b.definitions ≡ length b.names → length (delays_of ms b.names b.definitions) ≡ length b.names
length-delays_of ms b many =
    let delay : (List ℕ × Definition) → ℕ = λ net. net_delay ms net.0 net.1 in
    length-map (zip b.names b.definitions) delay ∙ omega (arith, length-zip b.names b.definitions, many)

-- the clock, where it is added, is an input, which has no delay
pub delays_with_clock : (ms : Members) (b : Netlist) (clocked : Netlist) (delays more : List ℕ) → length b.definitions ≡ length b.names
    → clocked ≡ with_clock ms b → delays ≡ delays_of ms b.names b.definitions
    → (length clocked.names ≤ length delays → more ≡ delays) → (length delays < length clocked.names → more ≡ delays ++ 0 ∷ [])
    → more ≡ delays_of ms clocked.names clocked.definitions
delays_with_clock ms b clocked delays more many is own same added =
    elim (cases_Bool (any_net (takes_clock ms) b.names b.definitions && is_none (net_named b (clock_name ms)))) [
      | inl adds ↦ (let with : clocked ≡ with_input (clock_name ms) b = is ∙ rw adds refl in
          let counted : length clocked.names ≡ length b.names + 1 = rw with (length-append b.names (clock_name ms ∷ [])) in
          let many_delays : length delays ≡ length b.names = ap length own ∙ length-delays_of ms b many in
          added (omega (arith, counted, many_delays)) ∙ ap (λ ds. ds ++ 0 ∷ []) own ∙ sym (delays_of-more ms b (clock_name ms) many) ∙ ap (λ (c : Netlist). delays_of ms c.names c.definitions) (sym with))
      | inr keeps ↦ (let with : clocked ≡ b = is ∙ rw keeps refl in
          let many_delays : length delays ≡ length b.names = ap length own ∙ length-delays_of ms b many in
          same (rw with (omega (arith, many_delays))) ∙ own ∙ ap (λ (c : Netlist). delays_of ms c.names c.definitions) (sym with))
    ]
