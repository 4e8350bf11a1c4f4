-- The codes of variables, and the scalars of nets, a variable at a time.
use Rattle.std.proofs.Common.{◌≡◌, ◌≢◌, ℕ, zero, suc, ◌+◌, ◌-◌, ◌<◌, ◌≤◌, Bool, true, false, cond, ◌&&◌, ◌||◌, List, [], ◌∷◌, ◌++◌, length, map, take, drop, set, get_or, codes, Option, Some, None, option_map, is_some, Ok, Err, refl, ap, sym, ◌∙◌, arith, length-append, take-append-drop, add-one, add-zero, add-suc}
use Rattle.std.proofs.Math.Seq.{drop-append_seam, take-append_seam}
use Rattle.std.proofs.lemmas.Option.{same_Some}
use Rattle.std.specs.Cow.{cow_slice_items}
use Rattle.std.specs.List.{list_any, find}
use Rattle.std.specs.Str.{bytes_eq}
use Rattle.std.proofs.lemmas.List.{get_or-set_other, length-set, map-append, take_more, take_more_set}
use Rattle.std.proofs.lemmas.Bool.Decides.{nat_tests}
use Rattle.std.specs.Str.{IsUtf8}
use Rattle.std.proofs.lemmas.Slice.Eq.{bytes_eq-Decides}
use Rattle.gate_vcd.specs.declared.variable.Variable.{Variable as Held}
use Rattle.gate_vcd.specs.Declarations.{Variable}
use Rattle.gate_vcd.specs.Shown.Commands.{variable, variables}
use Rattle.std.specs.Option.{option_or}
use Rattle.gate_vcd.specs.Inputs.{is_single, is_scalar_of, scalar_source, is_named_for, source_of_net, sources_below}
use Rattle.gate_netlist.specs.Circuit.{Design, IsCircuit, name_of, net_of, nets_of}
use Rattle.gate_vcd.specs.declared.fault.StimFault.{StimFault}
use Rattle.gate_vcd.specs.declared.source.Source.{Source as HeldSource}
use Rattle.gate_vcd.specs.Changes.{Source}
use Rattle.gate_vcd.specs.Inner.Known.{flat}
use Rattle.gate_vcd.specs.Shown.Known.{source_by, sources_by}
use Rattle.gate_vcd.specs.Inner.Scalars.{AreScalars, is_net, scalar_if, source_at, without_index}
use Rattle.net_waves.proofs.Compared.{eq_true}
use Rattle.gate_vcd.proofs.Keeping.{position-some, same_bytes}

pub same_tests : (a b : Bool) → (a ≡ true → b ≡ true) → (b ≡ true → a ≡ true) → a ≡ b
same_tests true b f g = sym (f refl)
same_tests false true f g = g refl
same_tests false false f g = refl

pub turned : (a b : List ℕ) → bytes_eq a b ≡ bytes_eq b a
turned a b = same_tests (bytes_eq a b) (bytes_eq b a) (λ h. (bytes_eq-Decides b a).1 (sym (same_bytes a b h))) (λ h. (bytes_eq-Decides a b).1 (sym (same_bytes b a h)))

pub any-more : {X : Type 0} (p : X → Bool) (xs : List X) (x : X) → list_any p (xs ++ x ∷ []) ≡ (list_any p xs || p x)
any-more p [] x = elim (p x) as (λ b. (b || false) ≡ (false || b)) [ true ↦ refl | false ↦ refl ]
any-more p (y ∷ xs) x = elim (p y) as (λ b. (b || list_any p (xs ++ x ∷ [])) ≡ ((b || list_any p xs) || p x)) [ true ↦ refl | false ↦ any-more p xs x ]

-- the variables so far with one more
more_variables : (all : List Held) (i : ℕ) (item : Held) → i < length all → item ≡ get_or all i item → variables (take (i + 1) all) ≡ variables (take i all) ++ variable item ∷ []
more_variables all i item h e = rw (take_more all i item h, ← e) (map-append variable (take i all) (item ∷ []))

-- a map of codes with one more
pub one_code : {V : Type 0} (taken code : List ℕ) (v : V) (old : Option V) → is_some (cond (bytes_eq taken code) (Some v) old) ≡ (is_some old || bytes_eq taken code)
one_code taken code v old = go (bytes_eq taken code) old
  where
    go : (b : Bool) (o : Option _) → is_some (cond b (Some v) o) ≡ (is_some o || b)
    go true None = refl
    go true (Some x) = refl
    go false None = refl
    go false (Some x) = refl

pub more_codes : (code : List ℕ) (all : List Held) (i : ℕ) (item : Held) (old new : Option (Option ℕ)) → i < length all → item ≡ get_or all i item
    → is_some old ≡ list_any (λ (v : Variable). bytes_eq code v.code) (variables (take i all)) → new ≡ cond (bytes_eq item.code.now code) (Some None) old
    → is_some new ≡ list_any (λ (v : Variable). bytes_eq code v.code) (variables (take (i + 1) all))
more_codes code all i item old new h e eo en =
    rw (more_variables all i item h e, any-more (λ (v : Variable). bytes_eq code v.code) (variables (take i all)) (variable item), ← eo, en, turned code item.code.now) (one_code item.code.now code None old)

pub no_sources : (b : Bool) (old : Option (Option ℕ)) → flat old ≡ None → flat (cond b (Some None) old) ≡ None
no_sources true old e = refl
no_sources false old e = e

find-more : {X : Type 0} (p : X → Bool) (xs : List X) (x : X) → find p (xs ++ x ∷ []) ≡ option_or (find p xs) (cond (p x) (Some x) None)
find-more p [] x = refl
find-more p (y ∷ xs) x = elim (p y) as (λ b. cond b (Some y) (find p (xs ++ x ∷ [])) ≡ option_or (cond b (Some y) (find p xs)) (cond (p x) (Some x) None))
    [ true ↦ refl | false ↦ find-more p xs x ]

abbrev scalar_by : List ℕ → Source
scalar_by code = record { code = code; place = 0 }

scalar_option_or : (o : Option Variable) (b : Bool) (v : Variable)
    → option_map scalar_by (option_map (λ (x : Variable). x.code) (option_or o (cond b (Some v) None))) ≡ option_or (option_map scalar_by (option_map (λ (x : Variable). x.code) o)) (scalar_if b v.code)
scalar_option_or None true v = refl
scalar_option_or None false v = refl
scalar_option_or (Some y) b v = refl

-- the first scalar, with one variable more
scalar-more : (vs : List Variable) (v : Variable) (name : List ℕ) → scalar_source (vs ++ v ∷ []) name ≡ option_or (scalar_source vs name) (scalar_if (is_scalar_of name v) v.code)
scalar-more vs v name = rw (find-more (is_scalar_of name) vs v) (scalar_option_or (find (is_scalar_of name) vs) (is_scalar_of name v) v)

more_scalars : (name : List ℕ) (all : List Held) (i : ℕ) (item : Held) (old new : Option Source) → i < length all → item ≡ get_or all i item → old ≡ scalar_source (variables (take i all)) name
    → new ≡ option_or old (scalar_if (is_scalar_of name (variable item)) item.code.now) → new ≡ scalar_source (variables (take (i + 1) all)) name
more_scalars name all i item old new h e eo en = rw (more_variables all i item h e, scalar-more (variables (take i all)) (variable item) name, ← eo) en

any-map : {X Y : Type 0} (p : Y → Bool) (f : X → Y) (xs : List X) → list_any p (map f xs) ≡ list_any (λ x. p (f x)) xs
any-map p f [] = refl
any-map p f (x ∷ xs) = ap (λ b. p (f x) || b) (any-map p f xs)

pub named-variables : (name : List ℕ) (all : List Held) → list_any (λ (v : Held). is_named_for name (variable v)) all ≡ list_any (is_named_for name) (variables all)
named-variables name all = sym (any-map (is_named_for name) variable all)

abbrev pub index_text : List ℕ
index_text = codes "[0:0]"

-- a text with an index, without it
indexed : (name : List ℕ) → without_index (name ++ index_text) ≡ Some name
indexed name =
    let k : length (name ++ index_text) - 5 ≡ length name = omega (arith, length-append name index_text) in
    rw (k, drop-append_seam name index_text, take-append_seam name index_text) refl

cut_off : (b : Bool) (front short : List ℕ) → cond b (Some front) None ≡ Some short → (b ≡ true) × (front ≡ short)
cut_off true front short e = (refl, same_Some front short e)
cut_off false front short e = cc

whole : (text short : List ℕ) → without_index text ≡ Some short → text ≡ short ++ index_text
whole text short e =
    let (ends, is) = cut_off (bytes_eq index_text (drop (length text - 5) text)) (take (length text - 5) text) short e in
    sym (take-append-drop (length text - 5) text) ∙ rw (is, ← same_bytes index_text (drop (length text - 5) text) ends) refl

-- a text that ends with no index is none with one
no_index : (name text : List ℕ) → without_index text ≡ None → bytes_eq (name ++ index_text) text ≡ false
no_index name text e = go (bytes_eq (name ++ index_text) text) refl
  where
    go : (b : Bool) → bytes_eq (name ++ index_text) text ≡ b → b ≡ false
    go false h = refl
    go true h =
        let found : without_index text ≡ Some name = ap without_index (sym (same_bytes (name ++ index_text) text h)) ∙ indexed name in
        let bad : Some name ≡ None = sym found ∙ e in
        cc

with_index : (name text short : List ℕ) → without_index text ≡ Some short → bytes_eq (name ++ index_text) text ≡ bytes_eq name short
with_index name text short e =
    same_tests (bytes_eq (name ++ index_text) text) (bytes_eq name short)
    (λ h. (bytes_eq-Decides name short).1 (same_Some name short (sym (indexed name) ∙ ap without_index (same_bytes (name ++ index_text) text h) ∙ e)))
    (λ h. (bytes_eq-Decides (name ++ index_text) text).1 (ap (λ n. n ++ index_text) (same_bytes name short h) ∙ sym (whole text short e)))

both_noted : (old : Option Source) (a b : Bool) (code : List ℕ) → option_or (option_or old (scalar_if a code)) (scalar_if b code) ≡ option_or old (scalar_if (a || b) code)
both_noted None true b code = refl
both_noted None false b code = refl
both_noted (Some x) a b code = refl

or_false : (b : Bool) → b ≡ (b || false)
or_false true = refl
or_false false = refl

-- a variable without an index is noted by its whole text
pub noted-plain : (v : Held) (name : List ℕ) (old new : Option Source) → v.counted ≡ true → is_single (variable v) ≡ true → without_index (cow_slice_items v.reference) ≡ None
    → new ≡ option_or old (scalar_if (bytes_eq name (cow_slice_items v.reference)) v.code.now) → new ≡ option_or old (scalar_if (is_scalar_of name (variable v)) v.code.now)
noted-plain v name old new c s e h = rw (c, s, no_index name (cow_slice_items v.reference) e) (h ∙ ap (λ b. option_or old (scalar_if b v.code.now)) (or_false (bytes_eq name (cow_slice_items v.reference))))

-- one with an index also by the text before it
pub noted-short : (v : Held) (name short : List ℕ) (old mid new : Option Source) → v.counted ≡ true → is_single (variable v) ≡ true → without_index (cow_slice_items v.reference) ≡ Some short
    → mid ≡ option_or old (scalar_if (bytes_eq name (cow_slice_items v.reference)) v.code.now) → new ≡ option_or mid (scalar_if (bytes_eq name short) v.code.now) → new ≡ option_or old (scalar_if (is_scalar_of name (variable v)) v.code.now)
noted-short v name short old mid new c s e em h = rw (c, s, with_index name (cow_slice_items v.reference) short e) (h ∙ rw em (both_noted old (bytes_eq name (cow_slice_items v.reference)) (bytes_eq name short) v.code.now))

pub both_true : (a b : Bool) → (a && b) ≡ true → (a ≡ true) × (b ≡ true)
both_true true true e = (refl, refl)
both_true true false e = cc
both_true false b e = cc

-- a net is found by its name, and by no other
module _ (d : Design) where
  found-back : (name : List ℕ) (net : ℕ) (o : Option ℕ) → net_of d name ≡ o → is_net o net ≡ true → bytes_eq (name_of d net) name ≡ true
  found-back name net None e t = cc
  found-back name net (Some k) e t =
      let same : net ≡ k = grind (arith, nat_tests, t) in
      let (within, is) = position-some (λ other. bytes_eq name other) d.names k [] e in
      turned (name_of d net) name ∙ rw same is

  pub found-here : IsCircuit d → (name : List ℕ) (net : ℕ) → net < nets_of d → bytes_eq name (name_of d net) ≡ true → net_of d name ≡ Some net
  found-here law name net l h = ap (net_of d) (same_bytes name (name_of d net) h) ∙ law.named net l

  pub found-net : IsCircuit d → (name : List ℕ) (net : ℕ) → net < nets_of d → bytes_eq (name_of d net) name ≡ is_net (net_of d name) net
  found-net law name net l =
      same_tests (bytes_eq (name_of d net) name) (is_net (net_of d name) net)
      (λ h. (let found : net_of d name ≡ Some net = found-here law name net l (turned name (name_of d net) ∙ h) in rw (found, eq_true net net refl) refl))
      (found-back name net (net_of d name) refl)

-- the nets from the first on
module _ (d : Design) (vs : List Variable) where
  pub below-start : (sources : List (Option HeldSource)) → sources ≡ [] → sources_below d vs 0 ≡ Ok (sources_by sources)
  unfolding sources_below
  below-start sources e = rw e refl

  pub below-more : (i : ℕ) (sources new : List (Option HeldSource)) (source : Option HeldSource) → sources_below d vs i ≡ Ok (sources_by sources) → source_of_net d vs i ≡ Ok (source_by source) → new ≡ sources ++ source ∷ []
      → sources_below d vs (i + 1) ≡ Ok (sources_by new)
  unfolding sources_below
  below-more i sources new source read sourced e = rw (add-one i, read, sourced, e, map-append source_by sources (source ∷ [])) refl

  one_refused : (k : ℕ) (e : StimFault) → sources_below d vs k ≡ Err e → sources_below d vs (suc k) ≡ Err e
  unfolding sources_below
  one_refused k e h = rw h refl

  here_refused : (k : ℕ) (e : StimFault) (found : List (Option Source)) → sources_below d vs k ≡ Ok found → source_of_net d vs k ≡ Err e → sources_below d vs (suc k) ≡ Err e
  unfolding sources_below
  here_refused k e found h r = rw (h, r) refl

  refused_from : (k j : ℕ) (e : StimFault) → sources_below d vs k ≡ Err e → sources_below d vs (k + j) ≡ Err e
  refused_from k zero e h = rw (add-zero k) h
  refused_from k (suc j) e h = rw (add-suc k j) (one_refused (k + j) e (refused_from k j e h))

  pub below-refused : (i m : ℕ) (e : StimFault) (found : List (Option Source)) → i < m → sources_below d vs i ≡ Ok found → source_of_net d vs i ≡ Err e → sources_below d vs m ≡ Err e
  below-refused i m e found l read r =
      let k : m ≡ suc i + (m - suc i) = omega arith in
      rw k (refused_from (suc i) (m - suc i) e (here_refused i e found read r))

-- The nets so far have their sources, and the others those of their first scalars.
pub record AreFound (d : Design) (vs : List Variable) (i : ℕ) (sources : List (Option HeldSource)) : Type 0 where
  pub count : length sources ≡ nets_of d
  pub below : sources_below d vs i ≡ Ok (sources_by (take i sources))
  pub rest : (net : ℕ) → i ≤ net → net < nets_of d → IsUtf8 (name_of d net) → source_at sources net ≡ scalar_source vs (name_of d net)

module _ (d : Design) (vs : List Variable) where
  pub found-start : (sources : List (Option HeldSource)) → AreScalars d vs sources → AreFound d vs 0 sources
  found-start sources s = record { count = s.count; below = below-start d vs (take 0 sources) refl; rest = λ net h l u. s.each net l u }

  pub found-next : (i : ℕ) (sources : List (Option HeldSource)) (s : Option HeldSource) → i < nets_of d → AreFound d vs i sources → source_of_net d vs i ≡ Ok (source_by s) → AreFound d vs (i + 1) (set sources i s)
  found-next i sources s l f sourced = record {
    count = length-set sources i s ∙ f.count;
    below = below-more d vs i (take i sources) (take (i + 1) (set sources i s)) s f.below sourced (take_more_set sources i s (omega (arith, f.count)));
    rest = λ net h m u. (let apart : net ≢ i = (λ e. omega arith) in rw (get_or-set_other sources i net s None apart) (f.rest net (omega arith) m u));
  }

-- the scalars among the variables so far, with one more
pub scalars-next : (d : Design) (all : List Held) (i : ℕ) (item : Held) (old new : List (Option HeldSource)) → i < length all → item ≡ get_or all i item → length new ≡ nets_of d
    → ((net : ℕ) → net < nets_of d → IsUtf8 (name_of d net) → source_at new net ≡ option_or (source_at old net) (scalar_if (is_scalar_of (name_of d net) (variable item)) item.code.now)) → AreScalars d (variables (take i all)) old → AreScalars d (variables (take (i + 1) all)) new
scalars-next d all i item old new h e count kept s = record { count = count; each = λ net l u. more_scalars (name_of d net) all i item (source_at old net) (source_at new net) h e (s.each net l u) (kept net l u) }
