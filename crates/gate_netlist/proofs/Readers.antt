-- Each net's readers, listed reader by reader.
use Rattle.std.proofs.Common.{◌≡◌, ◌∙◌, ℕ, ◌+◌, ◌<◌, ◌≤◌, Bool, true, false, ◌||◌, cond, eqb, leb, List, [], ◌∷◌, ◌++◌, length, map, take, drop, set, get_or, refl, ap, sym, arith, inl, inr}
use Rattle.std.specs.List.{range_with_len}
use Rattle.std.proofs.lemmas.Bool.{le-leb, not-true, not-false}
use Rattle.std.proofs.Math.Bool.{or-false}
use Rattle.std.proofs.lemmas.Bool.Decides.{eqb_tells, leb_tells}
use Rattle.std.proofs.lemmas.List.{append-nil, ext_get_or, take_all, drop_all, length-set, get_or-set_same, get_or-set_other}
use Rattle.std.proofs.lemmas.List.Elements.{filter-append}
use Rattle.std.proofs.lemmas.List.Folds.{list_any_more}
use Rattle.std.proofs.lemmas.List.FromFn.{length-map-range_with_len, get_or-map-range_with_len}
use Rattle.gate_netlist.specs.declared.driver.Driver.{Driver}
use Rattle.gate_netlist.specs.declared.driver.Driver.TheVariants.{Input}
use Rattle.number_groups.specs.declared.groups.Keyed.{Keyed}
use Rattle.number_groups.specs.Groups.{group}
use Rattle.gate_netlist.specs.Circuit.{nets_used, is_one_of, readers_among}
use Rattle.gate_netlist.specs.Inner.Readers.{AreOpen, AreTold, AreListed}
use Rattle.number_groups.proofs.Grouping.{group_push, keys_push, range_more}

or-true : (b : Bool) → (b || true) ≡ true
or-true true = refl
or-true false = refl

-- ---- the nets of one reader

pub told_none : (reader : ℕ) (uses : List Keyed) (next : List ℕ) → AreOpen reader uses next → AreTold (group uses) reader [] uses next
told_none reader uses next h = record {
  keys = h.keys;
  readers = λ n l. sym (append-nil (group uses n));
  told = λ n l. le-leb (get_or next n 0) reader (h.low n l);
  within = λ n l. omega (arith, h.low n l);
}

pub open_after : (before : ℕ → List ℕ) (reader : ℕ) (nets : List ℕ) (uses : List Keyed) (next : List ℕ) → AreTold before reader nets uses next → AreOpen (reader + 1) uses next
open_after before reader nets uses next h = record { keys = h.keys; low = h.within }

module _ (before : ℕ → List ℕ) (reader : ℕ) (nets : List ℕ) (i : ℕ) (uses : List Keyed) (next : List ℕ) (l : i < length nets) (there : get_or nets i 0 < length next)
    (h : AreTold before reader (take i nets) uses next) where
  abbrev net : ℕ
  net = get_or nets i 0

  one_more : (n : ℕ) → is_one_of (take (i + 1) nets) n ≡ (is_one_of (take i nets) n || eqb net n)
  one_more n = list_any_more (λ m. eqb m n) nets i 0 l

  -- the reader is listed under the net already
  pub told_again : reader < get_or next net 0 → AreTold before reader (take (i + 1) nets) uses next
  told_again past =
      let was : is_one_of (take i nets) net ≡ true =
      not-false (is_one_of (take i nets) net) (elim (leb_tells (get_or next net 0) reader) [ inl low ↦ absurd (omega (arith, low.1)) | inr high ↦ sym (h.told net there) ∙ high.0 ]) in
      let same : (n : ℕ) → is_one_of (take (i + 1) nets) n ≡ is_one_of (take i nets) n =
      λ n. one_more n ∙ elim (eqb_tells net n) [ inl e ↦ rw (e.0, ← e.1, was) refl | inr ne ↦ rw ne.0 (or-false (is_one_of (take i nets) n)) ] in
      record {
        keys = h.keys;
        readers = λ n m. rw (same n) (h.readers n m);
        told = λ n m. rw (same n) (h.told n m);
        within = h.within;
      }

  -- the reader is listed under the net now
  pub told_more : get_or next net 0 ≤ reader → AreTold before reader (take (i + 1) nets) (uses ++ record { key = net; number = reader } ∷ []) (set next net (reader + 1))
  told_more low =
      let wasn't : is_one_of (take i nets) net ≡ false = not-true (is_one_of (take i nets) net) (sym (h.told net there) ∙ le-leb (get_or next net 0) reader low) in
      let many : length (set next net (reader + 1)) ≡ length next = length-set next net (reader + 1) in
      record {
        keys = rw many (keys_push uses net reader (length next) there h.keys);
        readers = λ n m. rw (group_push uses net reader n, one_more n) (elim (eqb_tells net n) [
          | inl e ↦ rw (e.0, ← e.1, h.readers net there, wasn't, append-nil) refl
          | inr ne ↦ rw (ne.0, append-nil, or-false (is_one_of (take i nets) n)) (h.readers n (omega (arith, many)))
        ]);
        told = λ n m. rw (one_more n) (elim (eqb_tells net n) [
          | inl e ↦ rw (e.0, or-true (is_one_of (take i nets) n), ← e.1, get_or-set_same next net (reader + 1) 0 there) (le-leb-no reader)
          | inr ne ↦ rw (ne.0, or-false (is_one_of (take i nets) n), get_or-set_other next net n (reader + 1) 0 (λ e. ne.1 (sym e))) (h.told n (omega (arith, many)))
        ]);
        within = λ n m. elim (eqb_tells net n) [
          | inl e ↦ rw (← e.1, get_or-set_same next net (reader + 1) 0 there) (omega arith)
          | inr ne ↦ rw (get_or-set_other next net n (reader + 1) 0 (λ e. ne.1 (sym e))) (h.within n (omega (arith, many)))
        ];
      }
    where
      le-leb-no : (r : ℕ) → leb (r + 1) r ≡ false
      le-leb-no r = elim (leb_tells (r + 1) r) [ inl low ↦ absurd (omega (arith, low.1)) | inr high ↦ high.0 ]

-- ---- all readers

pub readers_among_more : (drivers : List Driver) (i n : ℕ) → readers_among drivers (i + 1) n ≡ readers_among drivers i n ++ cond (is_one_of (nets_used (get_or drivers i Input)) n) (i ∷ []) []
readers_among_more drivers i n =
    rw (range_more i) (filter-append (λ g. is_one_of (nets_used (get_or drivers g Input)) n) (range_with_len 0 i) (i ∷ []))

pub listed_none : (drivers : List Driver) → AreListed drivers 0 []
listed_none drivers = record { keys = λ k d l. absurd (omega arith); readers = λ n l. refl }

pub listed_more : (drivers : List Driver) (i : ℕ) (uses more : List Keyed) (next : List ℕ) → length next ≡ length drivers → AreListed drivers i uses
    → AreTold (group uses) i (nets_used (get_or drivers i Input)) more next → AreListed drivers (i + 1) more
listed_more drivers i uses more next many h told = record {
  keys = rw (sym many) told.keys;
  readers = λ n l. told.readers n (omega (arith, many)) ∙ ap (λ ns. ns ++ cond (is_one_of (nets_used (get_or drivers i Input)) n) (i ∷ []) []) (h.readers n l) ∙ sym (readers_among_more drivers i n);
}

pub listed_all : (drivers : List Driver) (uses : List Keyed) → AreListed drivers (length drivers) uses
    → map (group uses) (range_with_len 0 (length drivers)) ≡ map (readers_among drivers (length drivers)) (range_with_len 0 (length drivers))
listed_all drivers uses h =
    let k : ℕ = length drivers in
    ext_get_or [] (map (group uses) (range_with_len 0 k)) (map (readers_among drivers k) (range_with_len 0 k))
    (length-map-range_with_len (group uses) 0 k ∙ sym (length-map-range_with_len (readers_among drivers k) 0 k))
    (λ n l. let m : n < k = omega (arith, length-map-range_with_len (group uses) 0 k) in
    get_or-map-range_with_len (group uses) 0 k n n [] m (omega arith) ∙ h.readers n m ∙ sym (get_or-map-range_with_len (readers_among drivers k) 0 k n n [] m (omega arith)))

-- what a list is after all of it was written anew
pub written_whole : (old new : List ℕ) (len : ℕ) → length new ≡ length old → len ≡ length old → take len (new ++ drop (length new) old) ≡ new
written_whole old new len e f = rw (drop_all (length new) old (omega arith), append-nil new) (take_all len new (omega arith))
