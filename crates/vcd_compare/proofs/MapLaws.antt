-- Laws of the pairs that a text says.
use Rattle.std.proofs.Common.{◌≡◌, ◌≢◌, ◌⊎◌, inl, inr, ℕ, suc, ◌+◌, ◌<◌, Bool, true, false, not, cond, ◌||◌, nat_lt, List, [], ◌∷◌, ◌++◌, length, get_or, Option, Some, None, option_map, Result, Ok, Err, refl, ap, sym, ◌∙◌, arith}
use Rattle.std.proofs.Math.ListN.{set, length-set}
use Rattle.std.proofs.lemmas.Bool.Decides.{nat_tests}
use Rattle.std.proofs.lemmas.List.{get_or-set_same, get_or-set_other, get_or_default}
use Rattle.std.proofs.lemmas.List.Folds.{list_any-append}
use Rattle.std.proofs.lemmas.List.Quantifiers.{position-Some}
use Rattle.std.proofs.lemmas.Option.{same_Some}
use Rattle.std.proofs.lemmas.Slice.Eq.{bytes_eq-Decides}
use Rattle.std.specs.List.{prefix_len}
use Rattle.std.specs.Str.{bytes_eq}
use Rattle.gate_vcd.specs.declared.source.Source.{Source as HeldSource}
use Rattle.gate_vcd.specs.Changes.{Source}
use Rattle.gate_vcd.specs.Shown.Known.{source}
use Rattle.gate_vcd.proofs.Keeping.{same_bytes}
use Rattle.gate_vcd.proofs.Links.{slice_get-is}
use Rattle.vcd_bits.specs.Names.{Bit, named_source, number_of}
use Rattle.vcd_compare.specs.declared.fault.MapCause.{MapCause}
use Rattle.vcd_compare.specs.declared.fault.MapCause.TheVariants.{UnknownName, NamedTwice}
use Rattle.vcd_compare.specs.declared.fault.MapFault.{MapFault}
use Rattle.vcd_compare.specs.declared.mapped.Mapped.{Mapped}
use Rattle.vcd_compare.specs.Map.{is_paired, names_of, pair_of, pairs_from, with_line, with_names}
use Rattle.vcd_compare.specs.Pairs.{Pair}
use Rattle.vcd_compare.specs.Inner.Held.{Takes, name_at}
use Rattle.vcd_compare.specs.Inner.Mapping.{IsMapped}
use Rattle.vcd_compare.proofs.AloneLaws.{no_bit}
use Rattle.vcd_compare.proofs.PairLaws.{pair-taken}

-- ---- the number of a name

before-named : (bits : List Bit) (name : List ℕ) (s : Source) → named_source bits name ≡ Some s → prefix_len (λ (b : Bit). not (bytes_eq name b.name)) bits < length bits
before-named [] name s e = cc
before-named (b ∷ bs) name s e = go (bytes_eq name b.name) e (before-named bs name s)
  where
    go : (t : Bool) → cond t (Some b.source) (named_source bs name) ≡ Some s → (named_source bs name ≡ Some s → prefix_len (λ (b : Bit). not (bytes_eq name b.name)) bs < length bs) → cond (not t) (1 + prefix_len (λ (b : Bit). not (bytes_eq name b.name)) bs) 0 < suc (length bs)
    go true e below = omega arith
    go false e below = let h = below e in omega (arith, h)

lt-true : (m n : ℕ) → m < n → nat_lt m n ≡ true
lt-true m n h = grind (arith, nat_tests)

-- a name that a bit has, has a number
pub number-known : (bits : List Bit) (name : List ℕ) (s : Source) → named_source bits name ≡ Some s → number_of bits name ≡ None → ⊥
number-known bits name s e none = let found = rw (lt-true _ _ (before-named bits name s e)) at none in cc

-- the bit of that number has the name
pub name-there : (bits : List Bit) (name : List ℕ) (k : ℕ) → number_of bits name ≡ Some k → (k < length bits) × (name_at bits k ≡ Some name)
name-there bits name k e =
    let (below, test, first) = position-Some (λ (b : Bit). bytes_eq name b.name) bits k no_bit e in
    (below, ap (option_map (λ (b : Bit). b.name)) (slice_get-is bits k no_bit below) ∙ ap Some (sym (same_bytes name (get_or bits k no_bit).name test)))

-- ---- marks

cases_eq : (s t : ℕ) → (s ≡ t) ⊎ (s ≢ t)
cases_eq s t = grind arith

or-true : (b : Bool) → (b || (true || false)) ≡ true
or-true true = refl
or-true false = refl

or-false : (b : Bool) → (b || (false || false)) ≡ b
or-false true = refl
or-false false = refl

one-more : (pairs : List Pair) (q : Pair) (name : List ℕ) → is_paired (pairs ++ q ∷ []) name ≡ (is_paired pairs name || (bytes_eq name q.name || false))
one-more pairs q name = list_any-append (λ (p : Pair). bytes_eq name p.name) pairs (q ∷ [])

-- what is marked of a bit is whether it stands in a pair
pub mark-read : (bits : List Bit) (pairs : List Pair) (m : Mapped) (name : List ℕ) (k : ℕ) (b : Bool) → IsMapped bits pairs m → number_of bits name ≡ Some k → b ≡ get_or m.named.items k b → is_paired pairs name ≡ b
mark-read bits pairs m name k b kept number at =
    let within : k < length m.named.items = omega (arith, kept.marks, (name-there bits name k number).0) in
    sym (kept.named name k number) ∙ get_or_default m.named.items k false b within ∙ sym at

-- one more pair is kept, and its bit is marked
pub mapped-more : (bits : List Bit) (pairs : List Pair) (name : List ℕ) (e a : Source) (k : ℕ) (he ha : HeldSource) (old new : Mapped) → number_of bits name ≡ Some k → source he ≡ e → source ha ≡ a → Takes old.pairs new.pairs k he ha → new.named.items ≡ set old.named.items k true
    → IsMapped bits pairs old → IsMapped bits (pairs ++ pair_of name e a ∷ []) new
mapped-more bits pairs name e a k he ha old new number ee ea takes marked are = record {
  are = pair-taken pairs bits k (pair_of name e a) he ha old.pairs new.pairs (name-there bits name k number).1 ee ea takes are.are;
  marks = ap length marked ∙ length-set old.named.items k true ∙ are.marks;
  named = named;
}
  where
    same-name : (other : List ℕ) → number_of bits other ≡ Some k → bytes_eq other name ≡ true
    same-name other there = (bytes_eq-Decides other name).1 (same_Some other name (sym (name-there bits other k there).1 ∙ (name-there bits name k number).1))

    not-same : (other : List ℕ) (n : ℕ) (t : Bool) → bytes_eq other name ≡ t → number_of bits other ≡ Some n → n ≢ k → t ≡ false
    not-same other n false test there differs = refl
    not-same other n true test there differs = absurd (differs (same_Some n k (sym there ∙ ap (number_of bits) (same_bytes other name test) ∙ number)))

    named : (other : List ℕ) (n : ℕ) → number_of bits other ≡ Some n → get_or new.named.items n false ≡ is_paired (pairs ++ pair_of name e a ∷ []) other
    named other n there = elim (cases_eq n k) [
      | inl same ↦ (let here : number_of bits other ≡ Some k = there ∙ ap Some same in
          ap (λ ms. get_or ms n false) marked ∙ ap (λ i. get_or (set old.named.items k true) i false) same ∙ get_or-set_same old.named.items k true false (omega (arith, are.marks, (name-there bits name k number).0)) ∙ sym (one-more pairs (pair_of name e a) other ∙ rw (same-name other here) (or-true (is_paired pairs other))))
      | inr differs ↦ (ap (λ ms. get_or ms n false) marked ∙ get_or-set_other old.named.items k n true false differs ∙ are.named other n there
          ∙ sym (one-more pairs (pair_of name e a) other ∙ rw (not-same other n (bytes_eq other name) refl there differs) (or-false (is_paired pairs other))))
    ]

-- ---- line by line

module _ (expected actual : List Bit) where
  pub names-put : (pairs : List Pair) (name other : List ℕ) (e a : Source) → named_source expected name ≡ Some e → named_source actual other ≡ Some a → is_paired pairs name ≡ false → with_names expected actual pairs (Some (name, other)) ≡ Ok (pairs ++ pair_of name e a ∷ [])
  names-put pairs name other e a he ha new = rw (he, ha, new) refl

  pub names-again : (pairs : List Pair) (name other : List ℕ) (e a : Source) → named_source expected name ≡ Some e → named_source actual other ≡ Some a → is_paired pairs name ≡ true → with_names expected actual pairs (Some (name, other)) ≡ Err NamedTwice
  names-again pairs name other e a he ha old = rw (he, ha, old) refl

  pub expected-unknown : (pairs : List Pair) (name other : List ℕ) → named_source expected name ≡ None → with_names expected actual pairs (Some (name, other)) ≡ Err UnknownName
  expected-unknown pairs name other he = rw he refl

  pub actual-unknown : (pairs : List Pair) (name other : List ℕ) (e : Source) → named_source expected name ≡ Some e → named_source actual other ≡ None → with_names expected actual pairs (Some (name, other)) ≡ Err UnknownName
  actual-unknown pairs name other e he ha = rw (he, ha) refl

  -- what a line's names say, the line says
  pub line-of-names : (pairs : List Pair) (line : List ℕ) (names : Option (List ℕ × List ℕ)) → names_of line ≡ Ok names → with_line expected actual pairs line ≡ with_names expected actual pairs names
  unfolding with_line
  line-of-names pairs line names e = rw e refl

  pub line-of-none : (pairs : List Pair) (line : List ℕ) (cause : MapCause) → names_of line ≡ Err cause → with_line expected actual pairs line ≡ Err cause
  unfolding with_line
  line-of-none pairs line cause e = rw e refl

  pub line_read : (pairs more : List Pair) (line : ℕ) (l : List ℕ) (ls : List (List ℕ)) (total : Result (List Pair) MapFault) → with_line expected actual pairs l ≡ Ok more
      → pairs_from expected actual pairs line (l ∷ ls) ≡ total → pairs_from expected actual more (line + 1) ls ≡ total
  unfolding pairs_from
  line_read pairs more line l ls total e h = rw e at h

  pub line_refused : (pairs : List Pair) (line : ℕ) (l : List ℕ) (ls : List (List ℕ)) (cause : MapCause) (total : Result (List Pair) MapFault) → with_line expected actual pairs l ≡ Err cause
      → pairs_from expected actual pairs line (l ∷ ls) ≡ total → total ≡ Err (record { line = line; cause = cause })
  unfolding pairs_from
  line_refused pairs line l ls cause total e h = sym h ∙ rw e refl

  pub all_read : (pairs : List Pair) (line : ℕ) (total : Result (List Pair) MapFault) → pairs_from expected actual pairs line [] ≡ total → total ≡ Ok pairs
  unfolding pairs_from
  all_read pairs line total h = sym h
