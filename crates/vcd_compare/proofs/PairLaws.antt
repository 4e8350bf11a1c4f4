-- Pairs, a bit at a time.
use Rattle.std.proofs.Common.{◌≡◌, ℕ, zero, suc, ◌+◌, List, [], ◌∷◌, ◌++◌, map, take, slice_get, Some, None, Result, Ok, Err, OnOk, refl, ap, sym, ◌∙◌, arith, add-one}
use Rattle.std.proofs.lemmas.List.{append_assoc, map-append}
use Rattle.std.proofs.lemmas.Grind.{common_steps}
use Rattle.std.proofs.lemmas.Option.{same_Some}
use Rattle.gate_vcd.specs.declared.source.Source.{Source as HeldSource}
use Rattle.gate_vcd.specs.Changes.{Source}
use Rattle.gate_vcd.specs.Shown.Known.{source, source_by, sources_by}
use Rattle.vcd_bits.specs.Names.{Bit, named_source}
use Rattle.vcd_compare.specs.declared.pairs.Pairs.{Pairs}
use Rattle.vcd_compare.specs.Pairs.{Pair, pair_if, pairs_of}
use Rattle.vcd_compare.specs.Inner.Held.{ArePairs, Takes, name_at}

pairs-nil : (ps : List Pair) → ps ++ [] ≡ ps
pairs-nil ps = grind (arith, common_steps)

pairs-suc : (bits actual : List Bit) (k : ℕ) (b : Bit) → slice_get bits k ≡ Some b → pairs_of (take (suc k) bits) actual ≡ pairs_of (take k bits) actual ++ pair_if b (named_source actual b.name)
pairs-suc [] actual k b e = cc
pairs-suc (x ∷ bits) actual zero b e = let same = same_Some x b e in pairs-nil (pair_if x (named_source actual x.name)) ∙ ap (λ (y : Bit). pair_if y (named_source actual y.name)) same
pairs-suc (x ∷ bits) actual (suc k) b e = ap (λ ps. pair_if x (named_source actual x.name) ++ ps) (pairs-suc bits actual k b e) ∙ sym (append_assoc (pair_if x (named_source actual x.name)) (pairs_of (take k bits) actual) (pair_if b (named_source actual b.name)))

-- the pairs of one bit more
pub pairs-more : (bits actual : List Bit) (k : ℕ) (b : Bit) → slice_get bits k ≡ Some b → pairs_of (take (k + 1) bits) actual ≡ pairs_of (take k bits) actual ++ pair_if b (named_source actual b.name)
pairs-more bits actual k b e = ap (λ n. pairs_of (take n bits) actual) (add-one k) ∙ pairs-suc bits actual k b e

pub nothing-some : {A : Type 0} {x : A} → None ≡ Some x → ⊥
nothing-some e = cc

pub on-ok : {A E : Type 0} {P Q : Type 0} (r : Result A E) → (P → Q) → OnOk r P → OnOk r Q
on-ok (Ok x) f h = f h
on-ok (Err e) f h = tt

-- a bit without a partner
pub pairs-passed : (bits actual all : List Bit) (k : ℕ) (b : Bit) (p : Pairs) → slice_get bits k ≡ Some b → named_source actual b.name ≡ None → ArePairs (pairs_of (take k bits) actual) all p → ArePairs (pairs_of (take (k + 1) bits) actual) all p
pairs-passed bits actual all k b p e none are =
    let same : pairs_of (take k bits) actual ≡ pairs_of (take (k + 1) bits) actual = sym (pairs-more bits actual k b e ∙ rw none (pairs-nil (pairs_of (take k bits) actual))) in
    record {
      few = are.few;
      names = are.names ∙ ap (map (λ (q : Pair). Some q.name)) same;
      expected = are.expected ∙ ap (map (λ (q : Pair). Some q.expected)) same;
      actual = are.actual ∙ ap (map (λ (q : Pair). Some q.actual)) same;
    }

-- a pair more
pub pair-taken : (pairs : List Pair) (all : List Bit) (k : ℕ) (q : Pair) (he ha : HeldSource) (old new : Pairs) → name_at all k ≡ Some q.name → source he ≡ q.expected → source ha ≡ q.actual → Takes old new k he ha
    → ArePairs pairs all old → ArePairs (pairs ++ q ∷ []) all new
pair-taken pairs all k q he ha old new e ee ea takes are = record {
  few = takes.few;
  names = ap (map (name_at all)) takes.numbers ∙ map-append (name_at all) old.numbers.items (k ∷ []) ∙ rw (are.names, e) refl ∙ sym (map-append (λ (q : Pair). Some q.name) pairs (q ∷ []));
  expected = ap sources_by takes.expected ∙ map-append source_by old.expected.items (Some he ∷ []) ∙ rw (are.expected, ee) refl ∙ sym (map-append (λ (q : Pair). Some q.expected) pairs (q ∷ []));
  actual = ap sources_by takes.actual ∙ map-append source_by old.actual.items (Some ha ∷ []) ∙ rw (are.actual, ea) refl ∙ sym (map-append (λ (q : Pair). Some q.actual) pairs (q ∷ []));
}

-- a bit with a partner
pub pairs-taken : (bits actual : List Bit) (k : ℕ) (b : Bit) (s : Source) (he ha : HeldSource) (old new : Pairs) → slice_get bits k ≡ Some b → named_source actual b.name ≡ Some s → source he ≡ b.source → source ha ≡ s → Takes old new k he ha
    → ArePairs (pairs_of (take k bits) actual) bits old → ArePairs (pairs_of (take (k + 1) bits) actual) bits new
pairs-taken bits actual k b s he ha old new e some ee ea takes are =
    let q : Pair = record { name = b.name; expected = b.source; actual = s } in
    let more : pairs_of (take (k + 1) bits) actual ≡ pairs_of (take k bits) actual ++ q ∷ [] = pairs-more bits actual k b e ∙ rw some refl in
    rw more (pair-taken (pairs_of (take k bits) actual) bits k q he ha old new (rw e refl) ee ea takes are)
