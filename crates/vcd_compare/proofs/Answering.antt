-- What two texts are answered, from what their readers answered.
use Rattle.std.proofs.Common.{◌≡◌, inl, inr, ℕ, zero, suc, ◌+◌, ◌-◌, ◌/◌, ◌<◌, true, cond, nat_lt, List, [], ◌∷◌, length, map, get_or, slice_get, Option, Some, None, Result, Ok, Err, refl, ap, sym, subst, ◌∙◌, arith}
use Rattle.std.specs.List.{AllByRecursion}
use Rattle.std.proofs.lemmas.List.{get_or-map, length-map}
use Rattle.std.proofs.lemmas.Option.{same_Some}
use Rattle.gate_values.specs.declared.logic.Logic.TheVariants.{X}
use Rattle.gate_values.specs.declared.logic.Change.{Change}
use Rattle.gate_values.specs.Changes.{latest}
use Rattle.gate_vcd.specs.declared.fault.StimFault.{StimFault}
use Rattle.gate_vcd.specs.declared.fault.StimCause.TheVariants as causes
use Rattle.gate_vcd.specs.Tokens.{Token, tokens_of}
use Rattle.gate_vcd.specs.Reading.{Fails}
use Rattle.gate_vcd.specs.Changes.{Event, changes_with, items, nothing, events_from, last_time}
use Rattle.gate_stimulus.specs.Given.{Given, changes_of, value_at}
use Rattle.gate_vcd.specs.Stimulus.{has_code, value_of_source}
use Rattle.gate_vcd.specs.Shown.Known.{is_used, sources_by}
use Rattle.gate_vcd.proofs.DeclarationLaws.{fails_then}
use Rattle.gate_vcd.specs.Declarations.{Variable}
use Rattle.gate_vcd.specs.Shown.Commands.{variables}
use Rattle.vcd_bits.specs.declared.dump.Dump.{Dump as HeldDump}
use Rattle.vcd_bits.specs.Bits.{bits_declared}
use Rattle.vcd_compare.specs.declared.fault.CompareFault.{CompareFault}
use Rattle.vcd_compare.proofs.CountLaws.{declaring-counts}
use Rattle.vcd_bits.specs.Scopes.{Scoped, declaring, nothing_declared}
use Rattle.bit_compare.specs.declared.difference.Difference.{Difference}
use Rattle.bit_compare.specs.Agreement.{IsCompared, IsFinding}
use Rattle.bit_compare.specs.Bits.{Lens, value_through}
use Rattle.vcd_compare.specs.declared.pairs.Pairs.{Pairs}
use Rattle.vcd_compare.specs.declared.report.Differing.{Differing}
use Rattle.vcd_compare.specs.declared.report.Options.{Options}
use Rattle.vcd_compare.specs.declared.report.Report.{Report}
use Rattle.vcd_compare.specs.declared.sight.Sight.{Sight}
use Rattle.vcd_compare.specs.Answer.{IsAnswer, IsNothing, IsReport}
use Rattle.vcd_compare.specs.Inner.Answer.{actual_by, expected_by}
use Rattle.vcd_compare.specs.Comparison.{IsFound, difference_of, differing_at, shown_by}
use Rattle.vcd_compare.specs.Map.{pairs_by}
use Rattle.vcd_compare.specs.Pairs.{Pair}
use Rattle.vcd_compare.specs.Inner.Mapping.{ArePaired}
use Rattle.vcd_compare.specs.Inner.Held.{ArePairs, name_at}
use Rattle.vcd_compare.specs.Inner.Reported.{HasNothing, IsBefore, IsBehind, IsReported, Reports, events_of}
use Rattle.vcd_compare.specs.Inner.Sights.{actual_through, expected_through, sight_by}
use Rattle.vcd_compare.proofs.SightLaws.{found-same}
use Rattle.vcd_compare.specs.Dumps.{Dump, dump_of}
use Rattle.vcd_compare.specs.Times.{asked_in, finer}

pub none-used : (code : List ℕ) {A : Type 0} → is_used [] code ≡ true → A
none-used code u = cc

-- the dump that is read
abbrev pub dump_by : Option (List ℕ) → Scoped → List Token → List Event → Dump
dump_by asked s words es = record { timescale = s.header.timescale; bits = bits_declared asked s; events = es; last = last_time 0 (items nothing words) }

module _ (asked : Option (List ℕ)) (text : List ℕ) where
  pub open-fails : (e : StimFault) → Fails e (declaring nothing_declared None (tokens_of text)) → Fails e (dump_of asked text)
  unfolding dump_of
  open-fails e f = fails_then e (declaring nothing_declared None (tokens_of text)) _ f

  pub changes-fail : (e : StimFault) (s : Scoped) (words : List Token) → declaring nothing_declared None (tokens_of text) ≡ Ok (s, words) → Fails e (events_from (has_code s.header.variables) 0 (items nothing words)) → Fails e (dump_of asked text)
  unfolding dump_of
  changes-fail e s words r f = rw r (fails_then e (events_from (has_code s.header.variables) 0 (items nothing words)) _ f)

  pub dump-read : (s : Scoped) (words : List Token) (es : List Event) → declaring nothing_declared None (tokens_of text) ≡ Ok (s, words) → events_from (has_code s.header.variables) 0 (items nothing words) ≡ Ok es → dump_of asked text ≡ Ok (dump_by asked s words es)
  unfolding dump_of
  dump-read s words es r e = rw (r, e) refl

-- the changes of a dump whose declarations are read
pub events-read : (d : HeldDump) (s : Scoped) → variables d.variables.items ≡ s.header.variables → (es : List Event) → events_of d ≡ Ok es → events_from (has_code s.header.variables) 0 (items nothing d.words) ≡ Ok es
events-read d s vs es r = subst (λ (v : List Variable). events_from (has_code v) 0 (items nothing d.words) ≡ Ok es) vs r

pub events-fail : (d : HeldDump) (s : Scoped) → variables d.variables.items ≡ s.header.variables → (f : StimFault) → Fails f (events_of d) → Fails f (events_from (has_code s.header.variables) 0 (items nothing d.words))
events-fail d s vs f r = subst (λ (v : List Variable). Fails f (events_from (has_code v) 0 (items nothing d.words))) vs r

module _ (options : Options) (expected actual : List ℕ) (said : Option (List ℕ)) where
  pub answers-expected : (f : StimFault) → Fails f (dump_of (asked_in options.expected_scope) expected) → IsAnswer options expected actual said (Err (expected_by f f.cause))
  answers-expected f (inl m) = subst (λ (x : StimFault). IsAnswer options expected actual said (Err (expected_by x x.cause))) (sym m) tt
  answers-expected f (inr r) = elim f.cause as (λ c. IsAnswer options expected actual said (Err (expected_by f c))) [ causes.Memory ↦ tt | _ ↦ r ]

  pub answers-actual : (f : StimFault) (e : Dump) → dump_of (asked_in options.expected_scope) expected ≡ Ok e → Fails f (dump_of (asked_in options.actual_scope) actual) → IsAnswer options expected actual said (Err (actual_by f f.cause))
  answers-actual f e r (inl m) = subst (λ (x : StimFault). IsAnswer options expected actual said (Err (actual_by x x.cause))) (sym m) tt
  answers-actual f e r (inr h) = elim f.cause as (λ c. IsAnswer options expected actual said (Err (actual_by f c))) [ causes.Memory ↦ tt | _ ↦ (e, r, h) ]

through-same : (lens : Lens) (cs ds : List Change) → ((u : ℕ) → latest X cs u ≡ latest X ds u) → (t : ℕ) → value_through lens cs t ≡ value_through lens ds t
through-same lens cs ds h t = ap (λ v. cond (nat_lt (t + lens.later) lens.earlier) X v) (h ((t + lens.later - lens.earlier) / lens.scale))

mapped-at : {A B : Type 0} (f : A → Option B) (xs : List A) (k : ℕ) (x : A) → slice_get xs k ≡ Some x → get_or (map f xs) k None ≡ f x
mapped-at f [] k x e = cc
mapped-at f (y ∷ xs) zero x e = ap f (same_Some y x e)
mapped-at f (y ∷ xs) (suc k) x e = mapped-at f xs k x e

stands-below : {A : Type 0} (xs : List A) (k : ℕ) (x : A) → slice_get xs k ≡ Some x → k < length xs
stands-below [] k x e = cc
stands-below (y ∷ xs) zero x e = omega arith
stands-below (y ∷ xs) (suc k) x e = omega (arith, stands-below xs k x e)

-- What is reported of two dumps is what the comparison of them is.
module _ (options : Options) (e a : Dump) (ps : List Pair) (p : Pairs) (ge ga : Given) (s : Sight) (r : Report) (are : ArePairs ps e.bits p)
    (ve : (n t : ℕ) → value_at ge n t ≡ value_of_source e.events (get_or (sources_by p.expected.items) n None) t) (va : (n t : ℕ) → value_at ga n t ≡ value_of_source a.events (get_or (sources_by p.actual.items) n None) t)
    (is : s ≡ sight_by options e.timescale a.timescale e.last) (told : IsReported s (finer e.timescale a.timescale) e.bits a.bits p.numbers.items ge ga r) where
  count : length p.numbers.items ≡ length ps
  count = sym (length-map p.numbers.items (name_at e.bits)) ∙ ap length are.names ∙ length-map ps (λ (q : Pair). Some q.name)

  expected-same : (k : ℕ) (q : Pair) → slice_get ps k ≡ Some q → (t : ℕ) → value_through (expected_through s) (changes_of ge k) t ≡ shown_by (expected_through s) e.events q.expected t
  expected-same k q at = through-same (expected_through s) (changes_of ge k) (changes_with q.expected e.events)
      (λ u. ve k u ∙ ap (λ o. value_of_source e.events o u) (ap (λ xs. get_or xs k None) are.expected ∙ mapped-at (λ (x : Pair). Some x.expected) ps k q at))

  actual-same : (k : ℕ) (q : Pair) → slice_get ps k ≡ Some q → (t : ℕ) → value_through (actual_through s) (changes_of ga k) t ≡ shown_by (actual_through s) a.events q.actual t
  actual-same k q at = through-same (actual_through s) (changes_of ga k) (changes_with q.actual a.events)
      (λ u. va k u ∙ ap (λ o. value_of_source a.events o u) (ap (λ xs. get_or xs k None) are.actual ∙ mapped-at (λ (x : Pair). Some x.actual) ps k q at))

  abbrev Found : Sight → Pair → Option Difference → Type 0
  Found sight q = IsFinding sight.how sight.times (shown_by (expected_through sight) e.events q.expected) (shown_by (actual_through sight) a.events q.actual)

  each : (k : ℕ) (q : Pair) → slice_get ps k ≡ Some q → IsFound options e a q (difference_of r.differing.items k)
  each k q at =
      let below : k < length p.numbers.items = omega (arith, count, stands-below ps k q at) in
      subst (λ (x : Sight). Found x q (difference_of r.differing.items k)) is
      (found-same s.how s.times (value_through (expected_through s) (changes_of ge k)) (shown_by (expected_through s) e.events q.expected) (value_through (actual_through s) (changes_of ga k)) (shown_by (actual_through s) a.events q.actual) (difference_of r.differing.items k)
      (expected-same k q at) (actual-same k q at) (told.found.each k below))

  named : (k : ℕ) (q : Pair) (d : Differing) → slice_get ps k ≡ Some q → differing_at r.differing.items k ≡ Some d → d.name.items ≡ q.name
  named k q d at there =
      let below : k < length p.numbers.items = omega (arith, count, stands-below ps k q at) in
      told.found.named k d q.name there (sym (get_or-map (name_at e.bits) p.numbers.items k 0 None below) ∙ ap (λ xs. get_or xs k None) are.names ∙ mapped-at (λ (x : Pair). Some x.name) ps k q at)

  pub reported : IsReport options ps e a r
  reported = record {
    count = told.pairs ∙ count;
    some = omega (arith, told.some, told.pairs);
    times = told.times ∙ ap (λ (x : Sight). x.times) is;
    unit = told.unit_is;
    only_expected = told.only_expected;
    only_actual = told.only_actual;
    differing = record {
      each = each;
      within = subst (λ (n : ℕ). AllByRecursion (λ (d : Differing). d.pair < n) r.differing.items) count told.found.below;
      ascending = told.found.ascending;
      named = named;
    };
  }

-- there is nothing to compare
pub reported-nothing : (options : Options) (e a : Dump) (ps : List Pair) (p : Pairs) (s : Sight) → ArePairs ps e.bits p → s ≡ sight_by options e.timescale a.timescale e.last → HasNothing s p.numbers.items → IsNothing options ps e a
reported-nothing options e a ps p s are is (inl none) = inl (no_pairs ps (sym are.names ∙ rw none refl))
  where
    no_pairs : (ps : List Pair) → map (λ (q : Pair). Some q.name) ps ≡ [] → ps ≡ []
    no_pairs [] e = refl
    no_pairs (q ∷ ps) e = cc
reported-nothing options e a ps p s are is (inr none) = inr (λ t c. none t (subst (λ (x : Sight). IsCompared x.times t) (sym is) c))

-- a fault of the declarations of the other text
pub answers-behind : (options : Options) (expected actual : List ℕ) (said : Option (List ℕ)) (s : Scoped) (d : HeldDump) (f : StimFault) (answer : CompareFault) → declaring nothing_declared None (tokens_of expected) ≡ Ok (s, d.words) → variables d.variables.items ≡ s.header.variables
    → Fails f (declaring nothing_declared None (tokens_of actual)) → IsBehind (events_of d) f answer → IsAnswer options expected actual said (Err answer)
answers-behind options expected actual said s d f answer read vs fails (inl (es, r, e)) =
    rw e (answers-actual options expected actual said f (dump_by (asked_in options.expected_scope) s d.words es) (dump-read (asked_in options.expected_scope) expected s d.words es read (events-read d s vs es r)) (open-fails (asked_in options.actual_scope) actual f fails))
answers-behind options expected actual said s d f answer read vs fails (inr (own, r, e)) =
    rw e (answers-expected options expected actual said own (changes-fail (asked_in options.expected_scope) expected own s d.words read (events-fail d s vs own r)))

-- what is paired, or a fault of the map
pub answers-before : (options : Options) (expected actual : List ℕ) (said : Option (List ℕ)) (s s2 : Scoped) (d d2 : HeldDump) (f answer : CompareFault) → declaring nothing_declared None (tokens_of expected) ≡ Ok (s, d.words) → declaring nothing_declared None (tokens_of actual) ≡ Ok (s2, d2.words)
    → variables d.variables.items ≡ s.header.variables → variables d2.variables.items ≡ s2.header.variables → ArePaired (bits_declared (asked_in options.expected_scope) s) (Err f) (pairs_by said (bits_declared (asked_in options.expected_scope) s) (bits_declared (asked_in options.actual_scope) s2))
    → IsBefore (events_of d) (events_of d2) f answer → IsAnswer options expected actual said (Err answer)
answers-before options expected actual said s s2 d d2 f answer read read2 vs vs2 paired (inl (own, r, e)) =
    rw e (answers-expected options expected actual said own (changes-fail (asked_in options.expected_scope) expected own s d.words read (events-fail d s vs own r)))
answers-before options expected actual said s s2 d d2 f answer read read2 vs vs2 paired (inr (es, r, inl (own, r2, e))) =
    rw e (answers-actual options expected actual said own (dump_by (asked_in options.expected_scope) s d.words es) (dump-read (asked_in options.expected_scope) expected s d.words es read (events-read d s vs es r)) (changes-fail (asked_in options.actual_scope) actual own s2 d2.words read2 (events-fail d2 s2 vs2 own r2)))
answers-before options expected actual said s s2 d d2 f answer read read2 vs vs2 (inl m) (inr (es, r, inr (es2, r2, e))) = rw (e, m) tt
answers-before options expected actual said s s2 d d2 f answer read read2 vs vs2 (inr (fault, refused, m)) (inr (es, r, inr (es2, r2, e))) =
    rw (e, m) (
      dump_by (asked_in options.expected_scope) s d.words es,
      dump_by (asked_in options.actual_scope) s2 d2.words es2,
      dump-read (asked_in options.expected_scope) expected s d.words es read (events-read d s vs es r),
      dump-read (asked_in options.actual_scope) actual s2 d2.words es2 read2 (events-read d2 s2 vs2 es2 r2),
      refused,
    )

-- the unit of a dump counts
pub opened-counts : (text : List ℕ) (s : Scoped) (words : List Token) → declaring nothing_declared None (tokens_of text) ≡ Ok (s, words) → 0 < s.header.timescale.number
opened-counts text s words read = declaring-counts nothing_declared None (tokens_of text) (s, words) (omega arith) read

-- what is reported is the answer
pub answers-report : (options : Options) (expected actual : List ℕ) (said : Option (List ℕ)) (e a : Dump) (ps : List Pair) (p : Pairs) (ge ga : Given) (s : Sight) (r : Result Report CompareFault) → dump_of (asked_in options.expected_scope) expected ≡ Ok e → dump_of (asked_in options.actual_scope) actual ≡ Ok a → pairs_by said e.bits a.bits ≡ Ok ps → ArePairs ps e.bits p
    → ((n t : ℕ) → value_at ge n t ≡ value_of_source e.events (get_or (sources_by p.expected.items) n None) t) → ((n t : ℕ) → value_at ga n t ≡ value_of_source a.events (get_or (sources_by p.actual.items) n None) t) → s ≡ sight_by options e.timescale a.timescale e.last
    → Reports s (finer e.timescale a.timescale) e.bits a.bits p.numbers.items ge ga r → IsAnswer options expected actual said r
answers-report options expected actual said e a ps p ge ga s (Ok r) re ra paired are ve va is told = (e, a, re, ra, (ps, paired, reported options e a ps p ge ga s r are ve va is told))
answers-report options expected actual said e a ps p ge ga s (Err f) re ra paired are ve va is (inl m) = rw m tt
answers-report options expected actual said e a ps p ge ga s (Err f) re ra paired are ve va is (inr (n, none)) = rw n (e, a, re, ra, (ps, paired, reported-nothing options e a ps p s are is none))
