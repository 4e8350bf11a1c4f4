-- What is accepted and has no net undriven is a netlist.
use Rattle.std.proofs.Common.{◌≡◌, ◌⊎◌, ℕ, zero, suc, ◌+◌, ◌<◌, ◌≤◌, Bool, true, false, not, ◌||◌, ◌&&◌, cond, ltb, eqb, List, [], ◌∷◌, ◌++◌, length, map, get_or, Option, Some, None, Result, Ok, Err, refl, ap, sym, ◌∙◌, subst, append-nil, codes, bytes_eq, inl, inr, option_map, arith}
use Rattle.std.specs.Prelude.{option_to_list}
use Rattle.std.specs.List.{list_any, list_all, filter_map, position, position_or_len, fold, AllByRecursion}
use Rattle.std.proofs.lemmas.Bool.{eqb-true, leb-true, ltb-true, cases_lt, lt-ltb, le-ltb}
use Rattle.std.proofs.lemmas.List.{length-append, length-map}
use Rattle.std.proofs.lemmas.List.Elements.{All-from_recursion}
use Rattle.gate_values.specs.Tables.{HasInputs}
use Rattle.gate_values.specs.declared.gate.Kind.{Kind}
use Rattle.gate_values.specs.declared.gate.Kind.TheVariants.{Not, Buff}
use Rattle.gate_netlist.specs.declared.bench.Definition.{Definition}
use Rattle.gate_netlist.specs.declared.bench.Definition.TheVariants as definition
use Rattle.gate_netlist.specs.declared.fault.BenchCause.{BenchCause}
use Rattle.gate_netlist.specs.declared.fault.BenchFault.{BenchFault}
use Rattle.gate_netlist.specs.declared.statement.GateWord.{GateWord}
use Rattle.gate_netlist.specs.declared.statement.GateWord.TheVariants as word
use Rattle.gate_netlist.specs.Faults.{out_of_memory}
use Rattle.gate_netlist.specs.Inner.Faults.{fault_at}
use Rattle.gate_netlist.specs.Netlist.{NamesDiffer, Netlist}
use Rattle.gate_netlist.specs.Inner.Netlist.{IsDefinition, IsNetlist}
use Rattle.gate_netlist.specs.Symbols.{Symbol, Open, Close, Equals, Word, before_comment, symbols, is_clean}
use Rattle.gate_netlist.specs.Statements.{Name, Statement, Nothing, Input, Output, Gate, Flop, says, gate_of, arguments, takes, driven, driven_by, statement_of, meaning_of}
use Rattle.gate_netlist.specs.Bench.{◌>>=◌, net_defined, is_among, refusal, unless, stated, at_line, accepted, nets_defined, uses_other, number_among, definition_of, output_of, with_last, each_once, netlist_by, unless_undriven, resolved, bench_of}
use Rattle.gate_netlist.specs.Inner.Passes.{AreSaid, made_by}
use Rattle.gate_netlist.specs.declared.fault.BenchCause.TheVariants.{Undriven}
use Rattle.gate_netlist.specs.declared.fault.BenchCause.TheVariants as cause
use Rattle.gate_netlist.specs.Lines.{lines_of}
use Rattle.gate_netlist.proofs.Accepting.{front-option, behind}
use Rattle.gate_netlist.proofs.Naming.{place_none}
use Rattle.gate_netlist.proofs.Distinct.{each_once-distinct}
use Rattle.gate_netlist.proofs.Differing.{no_name_differs, names_differ_with}

-- ---- what a line says has inputs enough

abbrev pub HasEnough : Statement → Type 0
HasEnough (Gate n kind inputs) = HasInputs kind (length inputs)
HasEnough _ = Unit {0}

takes-enough : (kind : Kind) (n : ℕ) → takes kind n ≡ true → HasInputs kind n
takes-enough Not n e = eqb-true n 1 e
takes-enough Buff n e = eqb-true n 1 e
takes-enough _ n e = leb-true 1 n e

abbrev said : Statement → Result Statement BenchCause
said s = Ok s

same : (s t : Statement) → said s ≡ Ok t → s ≡ t
same s t e = cc

along : (s t : Statement) → said s ≡ Ok t → HasEnough s → HasEnough t
along s t e h = subst HasEnough (same s t e) h

enough-marked : (a b : Bool) (n : Name) (c : BenchCause) (s : Statement) → cond a (Ok (Input n)) (cond b (Ok (Output n)) (Err c)) ≡ Ok s → HasEnough s
enough-marked true b n c s e = along (Input n) s e tt
enough-marked false true n c s e = along (Output n) s e tt
enough-marked false false n c s e = absurd cc

enough-gate : (n : Name) (kind : Kind) (inputs : List Name) (c : BenchCause) (t : Bool) (s : Statement) → takes kind (length inputs) ≡ t → cond t (Ok (Gate n kind inputs)) (Err c) ≡ Ok s → HasEnough s
enough-gate n kind inputs c true s f e = along (Gate n kind inputs) s e (takes-enough kind (length inputs) f)
enough-gate n kind inputs c false s f e = absurd cc

enough-driven : (n : Name) (g : Option GateWord) (inputs : List Name) (s : Statement) → driven n g inputs ≡ Ok s → HasEnough s
enough-driven n None inputs s e = absurd cc
enough-driven n (Some (word.Gate kind)) inputs s e = enough-gate n kind inputs _ (takes kind (length inputs)) s refl e
enough-driven n (Some word.Flop) (d ∷ []) s e = along (Flop n d) s e tt
enough-driven n (Some word.Flop) _ s e = absurd cc

enough-by : (n : Name) (w : List ℕ) (inputs : Option (List Name)) (s : Statement) → driven_by n w inputs ≡ Ok s → HasEnough s
enough-by n w None s e = absurd cc
enough-by n w (Some inputs) s e = enough-driven n (gate_of w) inputs s e

enough-statement : (ss : List Symbol) (s : Statement) → statement_of ss ≡ Ok s → HasEnough s
unfolding statement_of
enough-statement [] s e = along Nothing s e tt
enough-statement (Word w ∷ Open ∷ Word n ∷ Close ∷ []) s e = enough-marked (says w (codes "INPUT")) (says w (codes "OUTPUT")) n _ s e
enough-statement (Word n ∷ Equals ∷ Word w ∷ Open ∷ ss) s e = enough-by n w (arguments ss) s e
enough-statement _ s e = absurd cc

enough-clean : (t : Bool) (ss : List Symbol) (c : BenchCause) (s : Statement) → cond t (statement_of ss) (Err c) ≡ Ok s → HasEnough s
enough-clean true ss c s e = enough-statement ss s e
enough-clean false ss c s e = absurd cc

enough-meaning : (line : List ℕ) (s : Statement) → meaning_of line ≡ Ok s → HasEnough s
unfolding meaning_of
enough-meaning line s e = enough-clean (is_clean (before_comment line)) (symbols (before_comment line)) _ s e

-- ---- what accepted lines say, one after the other

stated-ok : (r : Option BenchCause) (s t : Statement) → unless r s ≡ Ok t → (r ≡ None) × (s ≡ t)
stated-ok None s t e = (refl, same s t e)
stated-ok (Some c) s t e = absurd cc

pub bind_ok : {A B E : Type 0} (r : Result A E) (f : A → Result B E) (y : B) → (r >>= f) ≡ Ok y → (x : A) × (r ≡ Ok x) × (f x ≡ Ok y)
bind_ok (Ok x) f y e = (x, refl, e)
bind_ok (Err d) f y e = absurd cc

abbrev value_or : {X E : Type 0} → X → Result X E → X
value_or d (Ok x) = x
value_or d (Err e) = d

pub at_line-ok : {X : Type 0} (line : ℕ) (r : Result X BenchCause) (x : X) → at_line line r ≡ Ok x → r ≡ Ok x
at_line-ok line (Ok y) x e = ap Ok (ap (value_or y) e)
at_line-ok line (Err c) x e = absurd cc

-- a statement that stands behind these nets
record Follows (earlier : List Name) (s : Statement) : Type 0 where
  enough : HasEnough s
  free : refusal earlier (net_defined s) ≡ None

follows : (earlier : List Name) (line : List ℕ) (s : Statement) → stated earlier line ≡ Ok s → Follows earlier s
unfolding stated
follows earlier line s e =
    let m = bind_ok (meaning_of line) (λ s. unless (refusal earlier (net_defined s)) s) s e in
    let o = stated-ok (refusal earlier (net_defined m.0)) m.0 s m.2 in
    subst (Follows earlier) o.1 (record { enough = enough-meaning line m.0 m.1; free = o.0 })

room-test : (a b : Bool) (c d : BenchCause) → cond a (Some c) (cond b None (Some d)) ≡ None → b ≡ true
room-test true b c d e = absurd cc
room-test false true c d e = refl
room-test false false c d e = absurd cc

room : (earlier : List Name) (net : Option Name) → refusal earlier net ≡ None → length earlier ≤ 999999 → length (earlier ++ option_to_list net) ≤ 999999
room earlier None e le = rw append-nil le
room earlier (Some n) e le =
    let less : length earlier < 999999 = ltb-true _ _ (room-test (is_among earlier n) (ltb (length earlier) 999999) _ _ e) in
    omega (arith, length-append earlier (n ∷ []))

-- what is known of accepted statements
pub record AreAccepted (earlier : List Name) (ss : List Statement) : Type 0 where
  pub within : length (earlier ++ nets_defined ss) ≤ 999999
  pub named : NamesDiffer (earlier ++ nets_defined ss)
  pub enough : AllByRecursion HasEnough ss

abbrev pub listed : List Statement → Result (List Statement) BenchFault
listed ss = Ok ss

pub same_list : (ss ts : List Statement) → listed ss ≡ Ok ts → ss ≡ ts
same_list ss ts e = cc

pub are_accepted : (earlier : List Name) (line : ℕ) (ls : List (List ℕ)) (ss : List Statement) → length earlier ≤ 999999 → NamesDiffer earlier → accepted earlier line ls ≡ Ok ss → AreAccepted earlier ss
unfolding accepted
are_accepted earlier line [] ss le differ e = subst (AreAccepted earlier) (same_list [] ss e) (record { within = rw append-nil le; named = rw append-nil differ; enough = tt })
are_accepted earlier line (l ∷ ls) ss le differ e =
    let a = bind_ok (at_line line (stated earlier l)) (λ s. accepted (earlier ++ option_to_list (net_defined s)) (line + 1) ls >>= λ ss. Ok (s ∷ ss)) ss e in
    let b = bind_ok (accepted (earlier ++ option_to_list (net_defined a.0)) (line + 1) ls) (λ ss. Ok (a.0 ∷ ss)) ss a.2 in
    let f = follows earlier l a.0 (at_line-ok line (stated earlier l) a.0 a.1) in
    let rest = are_accepted (earlier ++ option_to_list (net_defined a.0)) (line + 1) ls b.0 (room earlier (net_defined a.0) f.free le) (names_differ_with earlier (net_defined a.0) f.free differ) b.1 in
    subst (AreAccepted earlier) (same_list (a.0 ∷ b.0) ss b.2) (record { within = subst (λ (ns : List Name). length ns ≤ 999999) (behind net_defined earlier a.0 b.0) rest.within; named = subst NamesDiffer (behind net_defined earlier a.0 b.0) rest.named; enough = (f.enough, rest.enough) })

-- ---- the netlist of statements whose nets are all driven

number-at : (p : Name → Bool) (n : Name) (nets : List Name) (t : Bool) → p n ≡ t → (p n || list_any p nets) ≡ true → (list_any p nets ≡ true → position_or_len p nets < length nets) → position_or_len p (n ∷ nets) < length (n ∷ nets)
number-at p n nets true f e h = rw f (omega arith)
number-at p n nets false f e h = rw f (let less = h (rw f at e) in omega arith)

number-within : (p : Name → Bool) (nets : List Name) → list_any p nets ≡ true → position_or_len p nets < length nets
number-within p [] e = absurd cc
number-within p (n ∷ nets) e = number-at p n nets (p n) refl e (number-within p nets)

none_at : {X : Type 0} (p : X → Bool) (x : X) (xs : List X) (t : Bool) → p x ≡ t → length (x ∷ xs) ≡ position_or_len p (x ∷ xs) → (length xs ≡ position_or_len p xs → AllByRecursion (λ x. p x ≡ false) xs) → AllByRecursion (λ x. p x ≡ false) (x ∷ xs)
none_at p x xs true f e h = (let g : suc (length xs) ≡ 0 = rw f at e in absurd (omega arith))
none_at p x xs false f e h = (f, h (let g : suc (length xs) ≡ 1 + position_or_len p xs = rw f at e in omega arith))

none_passes : {X : Type 0} (p : X → Bool) (xs : List X) → length xs ≡ position_or_len p xs → AllByRecursion (λ x. p x ≡ false) xs
none_passes p [] e = tt
none_passes p (x ∷ xs) e = none_at p x xs (p x) refl e (none_passes p xs)

not-false : (b : Bool) → not b ≡ false → b ≡ true
not-false true e = refl
not-false false e = absurd cc

and-both : (a b : Bool) → (a && b) ≡ true → (a ≡ true) × (b ≡ true)
and-both true b e = (refl, e)
and-both false b e = absurd cc

numbers-within : (nets : List Name) (ns : List Name) → list_all (is_among nets) ns ≡ true → AllByRecursion (λ i. i < length nets) (map (number_among nets) ns)
numbers-within nets [] e = tt
numbers-within nets (n ∷ ns) e =
    let b = and-both (is_among nets n) (list_all (is_among nets) ns) e in
    (number-within (λ other. bytes_eq n other) nets b.0, numbers-within nets ns b.1)

abbrev AreDefined : ℕ → List Definition → Type 0
AreDefined n ds = AllByRecursion (IsDefinition n) ds

defined-one : (nets : List Name) (s : Statement) → HasEnough s → uses_other nets s ≡ false → AreDefined (length nets) (option_to_list (definition_of nets s))
defined-one nets Nothing h u = tt
defined-one nets (Input n) h u = (tt, tt)
defined-one nets (Output n) h u = tt
defined-one nets (Gate n kind inputs) h u =
    let all = numbers-within nets inputs (not-false _ u) in
    ((subst (HasInputs kind) (sym (length-map inputs (number_among nets))) h, All-from_recursion (λ i. i < length nets) (map (number_among nets) inputs) all), tt)
defined-one nets (Flop n d) h u = ((numbers-within nets (d ∷ []) (not-false _ u)).0, tt)

and_then : {X : Type 0} (P : X → Type 0) (xs ys : List X) → AllByRecursion P xs → AllByRecursion P ys → AllByRecursion P (xs ++ ys)
and_then P [] ys h k = k
and_then P (x ∷ xs) ys h k = (h.0, and_then P xs ys h.1 k)

all-defined : (nets : List Name) (ss : List Statement) → AllByRecursion HasEnough ss → AllByRecursion (λ s. uses_other nets s ≡ false) ss → AreDefined (length nets) (filter_map (definition_of nets) ss)
all-defined nets [] h u = tt
all-defined nets (s ∷ ss) h u =
    subst (AreDefined (length nets)) (front-option (definition_of nets s) (filter_map (definition_of nets) ss)) (and_then (IsDefinition (length nets)) (option_to_list (definition_of nets s)) (filter_map (definition_of nets) ss) (defined-one nets s h.0 u.0) (all-defined nets ss h.1 u.1))

at-place : (n : ℕ) (ds : List Definition) (i : ℕ) → AreDefined n ds → IsDefinition n (get_or ds i definition.Input)
at-place n [] i h = tt
at-place n (d ∷ ds) zero h = h.0
at-place n (d ∷ ds) (suc i) h = at-place n ds i h.1

as_many : (nets : List Name) (ss : List Statement) → length (filter_map (definition_of nets) ss) ≡ length (nets_defined ss)
as_many nets [] = refl
as_many nets (Nothing ∷ ss) = as_many nets ss
as_many nets (Input n ∷ ss) = ap suc (as_many nets ss)
as_many nets (Output n ∷ ss) = as_many nets ss
as_many nets (Gate n kind inputs ∷ ss) = ap suc (as_many nets ss)
as_many nets (Flop n d ∷ ss) = ap suc (as_many nets ss)

abbrev AreBelow : ℕ → List ℕ → Type 0
AreBelow n is = AllByRecursion (λ i. i < n) is

output-one : (nets : List Name) (s : Statement) → uses_other nets s ≡ false → AreBelow (length nets) (option_to_list (output_of nets s))
output-one nets (Output n) u = ((numbers-within nets (n ∷ []) (not-false _ u)).0, tt)
output-one nets _ u = tt

outputs-below : (nets : List Name) (ss : List Statement) → AllByRecursion (λ s. uses_other nets s ≡ false) ss → AreBelow (length nets) (filter_map (output_of nets) ss)
outputs-below nets [] u = tt
outputs-below nets (s ∷ ss) u =
    subst (AreBelow (length nets)) (front-option (output_of nets s) (filter_map (output_of nets) ss)) (and_then (λ i. i < length nets) (option_to_list (output_of nets s)) (filter_map (output_of nets) ss) (output-one nets s u.0) (outputs-below nets ss u.1))

with_last-below : (n : ℕ) (found : List ℕ) (i : ℕ) (t : Bool) → AreBelow n found → i < n → AreBelow n (cond t found (found ++ i ∷ []))
with_last-below n found i true h lt = h
with_last-below n found i false h lt = and_then (λ i. i < n) found (i ∷ []) h (lt, tt)

once-below : (n : ℕ) (found is : List ℕ) → AreBelow n found → AreBelow n is → AreBelow n (fold with_last found is)
once-below n found [] h k = h
once-below n found (i ∷ is) h k = once-below n (with_last found i) is (with_last-below n found i (list_any (λ m. eqb i m) found) h k.0) k.1

pub is_netlist : (ss : List Statement) → AreAccepted [] ss → position (uses_other (nets_defined ss)) ss ≡ None → IsNetlist (netlist_by ss)
is_netlist ss a e =
    let driven = none_passes (uses_other (nets_defined ss)) ss (place_none (uses_other (nets_defined ss)) ss e) in
    let defined = all-defined (nets_defined ss) ss a.enough driven in
    record {
      within = a.within;
      named = a.named;
      definitions = as_many (nets_defined ss) ss;
      defined = λ n lt. at-place (length (nets_defined ss)) (filter_map (definition_of (nets_defined ss)) ss) n defined;
      outputs = All-from_recursion (λ i. i < length (nets_defined ss)) (each_once (filter_map (output_of (nets_defined ss)) ss)) (once-below (length (nets_defined ss)) [] (filter_map (output_of (nets_defined ss)) ss) tt (outputs-below (nets_defined ss) ss driven));
      distinct = each_once-distinct (filter_map (output_of (nets_defined ss)) ss);
    }

-- ---- what a text says

unless-ok : (found : Option ℕ) (ss : List Statement) (b : Netlist) → unless_undriven found ss ≡ Ok b → (found ≡ None) × (netlist_by ss ≡ b)
unless-ok None ss b e = (refl, ap (value_or b) e)
unless-ok (Some i) ss b e = absurd cc

pub is_resolved : (ss : List Statement) (b : Netlist) → AreSaid ss → resolved ss ≡ Ok b → IsNetlist b
is_resolved ss b said e =
    let r = unless-ok (position (uses_other (nets_defined ss)) ss) ss b e in
    subst IsNetlist r.1 (is_netlist ss (are_accepted [] 1 said.0 ss (omega arith) no_name_differs said.1) r.0)

-- the nets of accepted lines are few enough to be numbered
pub within : (ss : List Statement) → AreSaid ss → length (nets_defined ss) ≤ 999999
within ss said = (are_accepted [] 1 said.0 ss (omega arith) no_name_differs said.1).within

-- ---- the same, statement by statement

pub meaning_stated : (earlier : List Name) (l : List ℕ) (s : Statement) → stated earlier l ≡ Ok s → meaning_of l ≡ Ok s
unfolding stated
meaning_stated earlier l s e =
    let m = bind_ok (meaning_of l) (λ s. unless (refusal earlier (net_defined s)) s) s e in
    m.1 ∙ ap said (stated-ok (refusal earlier (net_defined m.0)) m.0 s m.2).1

abbrev finished : List Name → List Definition → List ℕ → Netlist
finished nets ds os = record { names = nets; definitions = ds; outputs = each_once os }

-- what lines make that say this, the first of them having this number, after lines that gave these definitions and outputs
unfoldable pub linked_lines : List Name → ℕ → List Statement → List Definition → List ℕ → Result Netlist BenchFault
linked_lines nets line [] ds os = Ok (finished nets ds os)
linked_lines nets line (s ∷ ss) ds os = do
  made ← at_line line (made_by nets s)
  linked_lines nets (line + 1) ss (ds ++ option_to_list made.0) (os ++ option_to_list made.1)

pub linked_more : (nets : List Name) (line : ℕ) (s : Statement) (ss : List Statement) (ds : List Definition) (os : List ℕ) (d : Option Definition) (o : Option ℕ) (total : Result Netlist BenchFault) → made_by nets s ≡ Ok (d, o)
    → linked_lines nets line (s ∷ ss) ds os ≡ total → linked_lines nets (line + 1) ss (ds ++ option_to_list d) (os ++ option_to_list o) ≡ total
unfolding linked_lines
linked_more nets line s ss ds os d o total e h = rw e at h

pub linked_fault : (nets : List Name) (line : ℕ) (s : Statement) (ss : List Statement) (ds : List Definition) (os : List ℕ) (c : BenchCause) (total : Result Netlist BenchFault) → (c ≡ cause.Memory) ⊎ (made_by nets s ≡ Err c)
    → linked_lines nets line (s ∷ ss) ds os ≡ total → (fault_at line c ≡ out_of_memory) ⊎ (total ≡ Err (fault_at line c))
unfolding linked_lines
linked_fault nets line s ss ds os cause.Memory total e h = inl refl
linked_fault nets line s ss ds os c total (inl m) h = inl (ap (fault_at line) m)
linked_fault nets line s ss ds os c total (inr e) h = inr (sym h ∙ rw e refl)

pub linked_all : (nets : List Name) (line : ℕ) (ds : List Definition) (os : List ℕ) (total : Result Netlist BenchFault) → linked_lines nets line [] ds os ≡ total → total ≡ Ok (finished nets ds os)
unfolding linked_lines
linked_all nets line ds os total h = sym h

-- the end of a text of which this is the first undriven line, where lines are counted from this number on
abbrev ending : List Name → ℕ → Option ℕ → List Definition → List ℕ → Result Netlist BenchFault
ending nets line None ds os = Ok (finished nets ds os)
ending nets line (Some i) ds os = Err (record { line = i + line; cause = Undriven })

position-first : {X : Type 0} (p : X → Bool) (x : X) (xs : List X) → p x ≡ true → position p (x ∷ xs) ≡ Some 0
position-first p x xs e = rw (e, lt-ltb 0 (suc (length xs)) (omega arith)) refl

position-later : {X : Type 0} (p : X → Bool) (x : X) (xs : List X) → p x ≡ false → position p (x ∷ xs) ≡ option_map (λ i. 1 + i) (position p xs)
position-later p x xs e = elim (cases_lt (position_or_len p xs) (length xs)) [
  | inl less ↦ rw (e, lt-ltb _ _ less, lt-ltb (1 + position_or_len p xs) (suc (length xs)) (omega arith)) refl
  | inr more ↦ rw (e, le-ltb _ _ more, le-ltb (1 + position_or_len p xs) (suc (length xs)) (omega arith)) refl
]

one_line_on : (nets : List Name) (line : ℕ) (found : Option ℕ) (ds : List Definition) (os : List ℕ) → ending nets (line + 1) found ds os ≡ ending nets line (option_map (λ i. 1 + i) found) ds os
one_line_on nets line None ds os = refl
one_line_on nets line (Some i) ds os = let e : i + (line + 1) ≡ 1 + i + line = omega arith in ap (λ n. Err (record { line = n; cause = Undriven })) e

abbrev LinksTo : List Name → ℕ → List Statement → List Definition → List ℕ → Type 0
LinksTo nets line ss ds os = linked_lines nets line ss ds os ≡ ending nets line (position (uses_other nets) ss) (ds ++ filter_map (definition_of nets) ss) (os ++ filter_map (output_of nets) ss)

link-more : (nets : List Name) (line : ℕ) (s : Statement) (ss : List Statement) (ds : List Definition) (os : List ℕ) (t : Bool) → uses_other nets s ≡ t
    → LinksTo nets (line + 1) ss (ds ++ option_to_list (definition_of nets s)) (os ++ option_to_list (output_of nets s)) → LinksTo nets line (s ∷ ss) ds os
unfolding linked_lines
link-more nets line s ss ds os true u h = let z : 0 + line ≡ line = omega arith in rw (position-first (uses_other nets) s ss u, u, z) refl
link-more nets line s ss ds os false u h =
    let on = one_line_on nets line (position (uses_other nets) ss) (ds ++ filter_map (definition_of nets) (s ∷ ss)) (os ++ filter_map (output_of nets) (s ∷ ss)) in
    rw (position-later (uses_other nets) s ss u, ← on, ← behind (definition_of nets) ds s ss, ← behind (output_of nets) os s ss, u) h

links : (nets : List Name) (line : ℕ) (ss : List Statement) (ds : List Definition) (os : List ℕ) → LinksTo nets line ss ds os
unfolding linked_lines
links nets line [] ds os = rw (append-nil ds, append-nil os) refl
links nets line (s ∷ ss) ds os =
    link-more nets line s ss ds os (uses_other nets s) refl (links nets (line + 1) ss (ds ++ option_to_list (definition_of nets s)) (os ++ option_to_list (output_of nets s)))

ends : (found : Option ℕ) (ss : List Statement) → ending (nets_defined ss) 1 found (filter_map (definition_of (nets_defined ss)) ss) (filter_map (output_of (nets_defined ss)) ss) ≡ unless_undriven found ss
ends None ss = refl
ends (Some i) ss = refl

-- accepted lines say what they make of their nets
pub linked_said : (ss : List Statement) → linked_lines (nets_defined ss) 1 ss [] [] ≡ resolved ss
linked_said ss = links (nets_defined ss) 1 ss [] [] ∙ ends (position (uses_other (nets_defined ss)) ss) ss

-- a text says what its accepted lines say
pub read_said : (text : List ℕ) (ss : List Statement) → accepted [] 1 (lines_of text) ≡ Ok ss → bench_of text ≡ resolved ss
unfolding bench_of
read_said text ss e = rw e refl

unread : (text : List ℕ) (e : BenchFault) → accepted [] 1 (lines_of text) ≡ Err e → bench_of text ≡ Err e
unfolding bench_of
unread text e h = rw h refl

-- a text whose lines are refused is refused
pub unread_fault : (text : List ℕ) (e : BenchFault) → (e ≡ out_of_memory) ⊎ (accepted [] 1 (lines_of text) ≡ Err e) → (e ≡ out_of_memory) ⊎ (bench_of text ≡ Err e)
unread_fault text e (inl m) = inl m
unread_fault text e (inr h) = inr (unread text e h)
