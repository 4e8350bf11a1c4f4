-- The sources that are kept, one more at a time.
use Rattle.std.proofs.Common.{◌≡◌, ℕ, zero, suc, ◌+◌, ◌-◌, ◌<◌, ◌≤◌, ◌⊎◌, Bool, true, false, cond, ◌&&◌, ◌||◌, nat_eq, List, [], ◌∷◌, ◌++◌, length, map, take, reverse, set, get_or, slice_get, Option, Some, None, refl, ap, sym, ◌∙◌, arith, add-zero, length-append, inl, inr}
use Rattle.std.proofs.Math.Seq.{get_or-append_seam, take-append_seam}
use Rattle.std.proofs.Math.ListN.{get_or-append, get_or-eq_default}
use Rattle.std.proofs.lemmas.List.{length-map, map-append, get_or-map, get_or-reverse, length-reverse, get_or-set_same, get_or-set_other, get_or_default, length-set, take_all, take_more}
use Rattle.std.proofs.lemmas.Bool.Decides.{nat_tests}
use Rattle.std.proofs.lemmas.List.FromFn.{fill_by_all, get_or-range_with_len, length-range_with_len}
use Rattle.std.proofs.lemmas.List.Sorted.{Contains-permutation, IsPermutation-map, IsPermutation-sym, list_any-IsPermutation}
use Rattle.std.proofs.lemmas.Option.{slice_get-map, same_Some}
use Rattle.std.specs.List.Sorted.{IsNonDecreasingBy, IsPermutation}
use Rattle.std.specs.Option.{option_map_or}
use Rattle.std.specs.Str.{bytes_eq}
use Rattle.std.specs.List.{Contains, list_any, range_with_len}
use Rattle.gate_vcd.specs.Changes.{Source}
use Rattle.gate_vcd.specs.Inner.Table.{found_in}
use Rattle.gate_vcd.specs.declared.known.KnownCodes.{KnownCodes}
use Rattle.gate_vcd.specs.declared.source.Source.{Source as Held}
use Rattle.gate_vcd.specs.Inner.Known.{AreFallingNets, AreLinked, AreNumbers, IsLeast, IsLinked, IsNumber, Takes, flat, in_order, knows, last_below, sources_in}
use Rattle.gate_vcd.specs.Shown.Known.{is_of, is_used, source}
use Rattle.net_waves.proofs.Compared.{cases_eq}
use Rattle.gate_vcd.proofs.Keeping.{same_bytes}
use Rattle.gate_vcd.proofs.InputLaws.{any-more, both_true, one_code}
use Rattle.gate_vcd.proofs.Links.{slice_get-front, slice_get-end, slice_get-is, slice_get-within, last_below-front}

-- as sources are compared
abbrev pub same_source : Source → Source → Bool
same_source a b = bytes_eq a.code b.code && nat_eq a.place b.place

same_sources : (a b : Source) → same_source a b ≡ true → a ≡ b
same_sources a b e =
    let (c, p) = both_true (bytes_eq a.code b.code) (nat_eq a.place b.place) e in
    let codes : a.code ≡ b.code = same_bytes a.code b.code c in
    let places : a.place ≡ b.place = grind (arith, nat_tests, p) in
    λ i. record { code = codes i; place = places i }

-- one source more is linked behind the last one of its code
pub linked-more : (old new : List ℕ → Option (Option ℕ)) (before more : List (Option ℕ)) (sources all : List Source) (s : Source) → AreLinked (λ code. flat (old code)) before sources
    → all ≡ sources ++ s ∷ [] → more ≡ before ++ flat (old s.code) ∷ []
    → ((k : ℕ) (a : Source) → slice_get sources k ≡ Some a → s.place ≤ a.place)
    → ((code : List ℕ) → new code ≡ cond (bytes_eq s.code code) (Some (Some (length sources))) (old code)) → AreLinked (λ code. flat (new code)) more all
linked-more old new before more sources all s law ea em least found = rw (ea, em) (record {
  count = length-append before (flat (old s.code) ∷ []) ∙ ap (λ n. n + 1) law.count ∙ sym (length-append sources (s ∷ []));
  ends = ends;
  falls = falls;
  links = links;
})
  where
    one : length (sources ++ s ∷ []) ≡ suc (length sources)
    one = omega (arith, length-append sources (s ∷ []))

    ends : (code : List ℕ) → flat (new code) ≡ last_below (is_of code) (sources ++ s ∷ []) (length (sources ++ s ∷ []))
    ends code = rw (one, slice_get-end sources s, found code) (go (bytes_eq s.code code))
      where
        go : (b : Bool) → flat (cond b (Some (Some (length sources))) (old code)) ≡ cond b (Some (length sources)) (last_below (is_of code) (sources ++ s ∷ []) (length sources))
        go true = refl
        go false = law.ends code ∙ sym (last_below-front (is_of code) sources s (length sources) (omega arith))

    falls : (i j : ℕ) (a b : Source) → i ≤ j → slice_get (sources ++ s ∷ []) i ≡ Some a → slice_get (sources ++ s ∷ []) j ≡ Some b → b.place ≤ a.place
    falls i j a b h ia jb =
        let ends_before : j < length (sources ++ s ∷ []) = slice_get-within (sources ++ s ∷ []) j b jb in
        elim (cases_eq j (length sources)) [
          | inl e ↦ (
              let own : s ≡ b = same_Some s b (sym (slice_get-end sources s) ∙ ap (slice_get (sources ++ s ∷ [])) (sym e) ∙ jb) in
              rw (← own) (elim (cases_eq i (length sources)) [
                | inl f ↦ (let also : s ≡ a = same_Some s a (sym (slice_get-end sources s) ∙ ap (slice_get (sources ++ s ∷ [])) (sym f) ∙ ia) in rw (← also) (omega arith))
                | inr n ↦ (let l : i < length sources = omega (arith, one) in least i a (sym (slice_get-front sources s i l) ∙ ia))
              ]))
          | inr n ↦ (let l : j < length sources = omega (arith, one) in let li : i < length sources = omega arith in
              law.falls i j a b h (sym (slice_get-front sources s i li) ∙ ia) (sym (slice_get-front sources s j l) ∙ jb))
        ]

    links : (k : ℕ) (x : Source) → slice_get (sources ++ s ∷ []) k ≡ Some x → get_or (before ++ flat (old s.code) ∷ []) k None ≡ last_below (is_of x.code) (sources ++ s ∷ []) k
    links k x at = elim (cases_eq k (length sources)) [
      | inl e ↦ (let own : s ≡ x = same_Some s x (sym (slice_get-end sources s) ∙ ap (slice_get (sources ++ s ∷ [])) (sym e) ∙ at) in
          rw (e, ← own, last_below-front (is_of s.code) sources s (length sources) (omega arith), ← law.count) (get_or-append_seam before (flat (old s.code)) [] None ∙ law.ends s.code ∙ ap (last_below (is_of s.code) sources) (sym law.count)))
      | inr n ↦ (let lall : k < length (sources ++ s ∷ []) = slice_get-within (sources ++ s ∷ []) k x at in
          let l : k < length sources = omega (arith, one) in
          let lb : k < length before = omega (arith, law.count) in
          rw (last_below-front (is_of x.code) sources s k (omega arith), get_or-append before (flat (old s.code) ∷ []) None k lb) (law.links k x (sym (slice_get-front sources s k l) ∙ at)))
    ]

-- a source that is kept now
pub takes-more : (old new : KnownCodes) (s : Held) → IsLinked old → new.used.items ≡ old.used.items ++ s ∷ [] → new.before.items ≡ old.before.items ++ flat (found_in old.last s.code.now) ∷ []
    → IsLeast old (Some (source s)) → ((code : List ℕ) → found_in new.last code ≡ cond (bytes_eq s.code.now code) (Some (Some (length old.used.items))) (found_in old.last code)) → Takes old new (Some (source s)) (Some (length old.used.items))
takes-more old new s law ek eb least found = record {
  kept = kept;
  stays = λ k a at. rw (all, slice_get-front (sources_in old) (source s) k (slice_get-within (sources_in old) k a at)) at;
  linked = linked-more (found_in old.last) (found_in new.last) old.before.items new.before.items (sources_in old) (sources_in new) (source s) law all eb (least (source s) refl)
      (λ code. rw (length-map old.used.items source) (found code));
  codes = λ code. rw (found code) (one_code s.code.now code (Some (length old.used.items)) (found_in old.last code));
  numbered = rw (all, ← length-map old.used.items source) (slice_get-end (sources_in old) (source s));
}
  where
    all : sources_in new ≡ sources_in old ++ source s ∷ []
    all = ap (map source) ek ∙ map-append source old.used.items (s ∷ [])

    kept : (k : ℕ) (a : Source) → slice_get (sources_in new) k ≡ Some a → (slice_get (sources_in old) k ≡ Some a) ⊎ (Some (source s) ≡ Some a)
    kept k a at =
        let there : slice_get (sources_in old ++ source s ∷ []) k ≡ Some a = ap (λ xs. slice_get xs k) (sym all) ∙ at in
        let within : k < length (sources_in old ++ source s ∷ []) = slice_get-within (sources_in old ++ source s ∷ []) k a there in
        elim (cases_eq k (length (sources_in old))) [
          | inl e ↦ inr (sym (slice_get-end (sources_in old) (source s)) ∙ ap (slice_get (sources_in old ++ source s ∷ [])) (sym e) ∙ there)
          | inr n ↦ (let l : k < length (sources_in old) = omega (arith, length-append (sources_in old) (source s ∷ [])) in inl (sym (slice_get-front (sources_in old) (source s) k l) ∙ there))
        ]

-- sources that are kept stand at places at least those of the nets to come
abbrev pub AreAbove : KnownCodes → ℕ → List (Option Source) → Type 0
AreAbove known i nets = (k : ℕ) (a : Source) → slice_get (sources_in known) k ≡ Some a → (j : ℕ) (b : Source) → i ≤ j → slice_get nets j ≡ Some (Some b) → b.place ≤ a.place

pub above-least : (known : KnownCodes) (i : ℕ) (nets : List (Option Source)) (taken : Option Source) → slice_get nets i ≡ Some taken → AreAbove known i nets → IsLeast known taken
above-least known i nets taken here above s is k a at = above k a at i s (omega arith) (here ∙ ap (λ o. Some o) is)

-- a number stays while sources are kept behind
number-stays : (old new : List Source) → ((k : ℕ) (a : Source) → slice_get old k ≡ Some a → slice_get new k ≡ Some a) → (taken : Option Source) (number : Option ℕ) → IsNumber old taken number → IsNumber new taken number
number-stays old new stays None number h = h
number-stays old new stays (Some s) (Some k) h = stays k s h
number-stays old new stays (Some s) None h = cc

or_assoc : (a b c : Bool) → ((a || b) || c) ≡ (a || (b || c))
or_assoc true b c = refl
or_assoc false b c = refl

lt_or_not : (n m : ℕ) → (n < m) ⊎ (m ≤ n)
lt_or_not n m = grind arith

-- the numbers below this one, with this one
range-more : (a n : ℕ) → range_with_len a (suc n) ≡ range_with_len a n ++ (a + n) ∷ []
range-more a zero = rw (add-zero a) refl
range-more a (suc n) = let e : a + 1 + n ≡ a + suc n = omega arith in ap (λ xs. a ∷ xs) (range-more (a + 1) n ∙ rw e refl)

module _ (nets : List (Option Source)) (order : List ℕ) where
  -- what an order has at a place
  pub ordered-at : (i net : ℕ) → i < length order → net ≡ get_or order i net → slice_get (in_order nets order) i ≡ Some (get_or nets net None)
  ordered-at i net l is = slice_get-is (in_order nets order) i None (omega (arith, length-map order (λ n. get_or nets n None))) ∙ ap (λ o. Some o) (get_or-map (λ n. get_or nets n None) order i net None l ∙ ap (λ n. get_or nets n None) (sym is))

  -- the nets in an order pass a test alike
  pub any-ordered : (p : Option Source → Bool) → IsPermutation (range_with_len 0 (length nets)) order → list_any p (in_order nets order) ≡ list_any p nets
  any-ordered p permuted =
      sym (list_any-IsPermutation p (map (λ n. get_or nets n None) (range_with_len 0 (length nets))) (in_order nets order) (IsPermutation-map (λ n. get_or nets n None) (range_with_len 0 (length nets)) order permuted))
      ∙ ap (list_any p) (sym (fill_by_all (λ n. get_or nets n None) nets (length nets) None refl (λ k l. refl)))

  -- each net of an order is one of them
  pub ordered-within : (i net : ℕ) → IsPermutation (range_with_len 0 (length nets)) order → i < length order → net ≡ get_or order i net → net < length nets
  ordered-within i net permuted l is =
      let (j, lj, at) = Contains-permutation order (range_with_len 0 (length nets)) net (IsPermutation-sym (range_with_len 0 (length nets)) order permuted) (i, l, sym is) in
      let long : j < length nets = omega (arith, length-range_with_len 0 (length nets)) in
      omega (arith, sym at ∙ get_or-range_with_len 0 (length nets) j net long)

pub range-next : (n : ℕ) → range_with_len 0 (suc n) ≡ range_with_len 0 n ++ n ∷ []
range-next n = let e : 0 + n ≡ n = omega arith in range-more 0 n ∙ rw e refl

-- The nets in an order, as far as they have been visited: their sources are kept, and they have their numbers.
pub record AreVisited (all : List ℕ → Bool) (nets : List (Option Source)) (order : List ℕ) (i : ℕ) (known : KnownCodes) (numbers : List (Option ℕ)) : Type 0 where
  pub linked : IsLinked known
  pub above : AreAbove known i (in_order nets order)
  pub codes : (code : List ℕ) → knows known code ≡ (all code || is_used (take i (in_order nets order)) code)
  pub count : length numbers ≡ length nets
  pub done : (j net : ℕ) → j < i → get_or order j net ≡ net → IsNumber (sources_in known) (get_or nets net None) (get_or numbers net None)

module _ (all : List ℕ → Bool) (nets : List (Option Source)) (order : List ℕ) where
  pub visited-next : (i net : ℕ) (old new : KnownCodes) (number : Option ℕ) (numbers : List (Option ℕ)) → AreFallingNets (in_order nets order) → i < length order → net ≡ get_or order i net → net < length nets
      → Takes old new (get_or nets net None) number → AreVisited all nets order i old numbers → AreVisited all nets order (i + 1) new (set numbers net number)
  visited-next i net old new number numbers falls l is within takes v = record {
    linked = takes.linked;
    above = above;
    codes = λ code. takes.codes code ∙ rw (v.codes code, more, any-more (λ taken. option_map_or (is_of code) taken false) (take i (in_order nets order)) (get_or nets net None))
        (or_assoc (all code) (is_used (take i (in_order nets order)) code) (option_map_or (is_of code) (get_or nets net None) false));
    count = length-set numbers net number ∙ v.count;
    done = done;
  }
    where
      here : slice_get (in_order nets order) i ≡ Some (get_or nets net None)
      here = ordered-at nets order i net l is

      more : take (i + 1) (in_order nets order) ≡ take i (in_order nets order) ++ get_or nets net None ∷ []
      more =
          take_more (in_order nets order) i None (omega (arith, length-map order (λ n. get_or nets n None)))
          ∙ ap (λ o. take i (in_order nets order) ++ o ∷ []) (get_or-map (λ n. get_or nets n None) order i net None l ∙ ap (λ n. get_or nets n None) (sym is))

      above : AreAbove new (i + 1) (in_order nets order)
      above k a at j b h there = elim (takes.kept k a at) [
        | inl was ↦ v.above k a was j b (omega arith) there
        | inr own ↦ falls i j a b (omega arith) (here ∙ ap (λ o. Some o) own) there
      ]

      earlier : (j other : ℕ) → j < i + 1 → get_or order j other ≡ other → (other ≡ net → ⊥) → j < i
      earlier j other h e apart = elim (cases_eq j i) [
        | inl same ↦ absurd (apart (sym e ∙ get_or_default order j other net (omega arith) ∙ ap (λ k. get_or order k net) same ∙ sym is))
        | inr n ↦ omega arith
      ]

      done : (j other : ℕ) → j < i + 1 → get_or order j other ≡ other → IsNumber (sources_in new) (get_or nets other None) (get_or (set numbers net number) other None)
      done j other h e = elim (cases_eq other net) [
        | inl same ↦ rw (same, get_or-set_same numbers net number None (omega (arith, v.count))) takes.numbered
        | inr apart ↦ (let before : j < i = earlier j other h e apart in
            rw (get_or-set_other numbers net other number None apart) (number-stays (sources_in old) (sources_in new) takes.stays (get_or nets other None) (get_or numbers other None) (v.done j other before e)))
      ]

  -- all nets have been visited
  pub visited-all : (i : ℕ) (known : KnownCodes) (numbers : List (Option ℕ)) → IsPermutation (range_with_len 0 (length nets)) order → length order ≤ i → AreVisited all nets order i known numbers → AreNumbers (sources_in known) nets numbers
  visited-all i known numbers permuted end v = record { count = v.count; each = each }
    where
      each : (net : ℕ) → IsNumber (sources_in known) (get_or nets net None) (get_or numbers net None)
      each net = elim (lt_or_not net (length nets)) [
        | inl within ↦ (
            let long : net < length (range_with_len 0 (length nets)) = omega (arith, length-range_with_len 0 (length nets)) in
            let first : Contains (range_with_len 0 (length nets)) net = (net, long, omega (arith, get_or-range_with_len 0 (length nets) net net within)) in
            let (j, l, is) = Contains-permutation (range_with_len 0 (length nets)) order net permuted first in
            v.done j net (omega arith) is)
        | inr past ↦ (let also : length numbers ≤ net = omega (arith, v.count) in rw (get_or-eq_default nets None past, get_or-eq_default numbers None also) refl)
      ]

  pub known-all : (i : ℕ) (known : KnownCodes) (numbers : List (Option ℕ)) → IsPermutation (range_with_len 0 (length nets)) order → length order ≤ i → AreVisited all nets order i known numbers → (code : List ℕ) → knows known code ≡ (all code || is_used nets code)
  known-all i known numbers permuted end v code =
      v.codes code
      ∙ ap (λ xs. all code || is_used xs code) (take_all i (in_order nets order) (omega (arith, length-map order (λ n. get_or nets n None))))
      ∙ ap (λ b. all code || b) (any-ordered nets order (λ taken. option_map_or (is_of code) taken false) permuted)

-- sources sorted by their places and turned around
abbrev pub place_at : List (Option Source) → ℕ → ℕ
place_at nets net = option_map_or (λ (s : Source). s.place) (get_or nets net None) 0

-- what stands at a place of what is turned around stood before
pub falls-turned : (nets : List (Option Source)) (sorted : List ℕ) → IsNonDecreasingBy (place_at nets) sorted → AreFallingNets (in_order nets (reverse sorted))
falls-turned nets sorted up i j a b h ia jb =
    let long : length (reverse sorted) ≡ length sorted = length-reverse sorted in
    let many : length (in_order nets (reverse sorted)) ≡ length (reverse sorted) = length-map (reverse sorted) (λ n. get_or nets n None) in
    let li : i < length (in_order nets (reverse sorted)) = slice_get-within (in_order nets (reverse sorted)) i (Some a) ia in
    let lj : j < length (in_order nets (reverse sorted)) = slice_get-within (in_order nets (reverse sorted)) j (Some b) jb in
    let mi : i < length sorted = omega arith in
    let mj : j < length sorted = omega arith in
    let ka : place_at nets (get_or sorted (length sorted - 1 - i) 0) ≡ a.place = key-at i a mi ia in
    let kb : place_at nets (get_or sorted (length sorted - 1 - j) 0) ≡ b.place = key-at j b mj jb in
    let low : place_at nets (get_or sorted (length sorted - 1 - j) 0) ≤ place_at nets (get_or sorted (length sorted - 1 - i) 0) = up (length sorted - 1 - j) (length sorted - 1 - i) 0 (omega arith) (omega arith) in
    omega arith
  where
    key-at : (k : ℕ) (s : Source) → k < length sorted → slice_get (in_order nets (reverse sorted)) k ≡ Some (Some s) → place_at nets (get_or sorted (length sorted - 1 - k) 0) ≡ s.place
    key-at k s l at =
        let there : slice_get (in_order nets (reverse sorted)) k ≡ Some (get_or nets (get_or (reverse sorted) k 0) None) = slice_get-is (in_order nets (reverse sorted)) k None (omega (arith, length-reverse sorted, length-map (reverse sorted) (λ n. get_or nets n None))) ∙ ap (λ o. Some o) (get_or-map (λ n. get_or nets n None) (reverse sorted) k 0 None (omega (arith, length-reverse sorted))) in
        let is : get_or nets (get_or (reverse sorted) k 0) None ≡ Some s = same_Some _ (Some s) (sym there ∙ at) in
        let turned : get_or (reverse sorted) k 0 ≡ get_or sorted (length sorted - 1 - k) 0 = get_or-reverse sorted k 0 l in
        ap (λ (o : Option Source). option_map_or (λ (x : Source). x.place) o 0) (ap (λ n. get_or nets n None) (sym turned) ∙ is)

-- a list written over the whole of another
pub written-over : {X : Type 0} (n : ℕ) (new items : List X) → n ≡ length new → take n (new ++ items) ≡ new
written-over n new items e = rw e (take-append_seam new items)

-- the source at a place
pub numbered-at : (known : KnownCodes) (number : ℕ) (s : Source) (kept : Held) → slice_get known.used.items number ≡ Some kept → same_source s (source kept) ≡ true → slice_get (sources_in known) number ≡ Some s
numbered-at known number s kept at same = rw (slice_get-map source known.used.items number, at, same_sources s (source kept) same) refl
