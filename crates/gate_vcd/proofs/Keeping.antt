-- The lists of changes, a change at a time.
use Rattle.std.proofs.Common.{◌≡◌, ℕ, zero, suc, ◌+◌, ◌<◌, ◌≤◌, Bool, true, false, not, cond, nat_lt, List, [], ◌∷◌, ◌++◌, length, map, filter, get_or, replicate, Some, None, Vec, Global, refl, ap, sym, ◌∙◌, arith, add-one}
use Rattle.std.specs.List.{AllByRecursion, position, prefix_len}
use Rattle.std.specs.Str.{bytes_eq}
use Rattle.std.proofs.lemmas.Bool.Decides.{nat_tests}
use Rattle.std.proofs.lemmas.Grind.{common_steps}
use Rattle.std.proofs.lemmas.List.{map-append, length-replicate, get_or-replicate}
use Rattle.std.proofs.lemmas.List.Elements.{filter-append}
use Rattle.std.proofs.lemmas.Slice.Eq.{bytes_eq-Decides}
use Rattle.std.proofs.lemmas.List.Sums.{prefix_len_stops}
use Rattle.gate_values.specs.declared.logic.Change.{Change}
use Rattle.gate_vcd.specs.Changes.{Event, Source, changes_with, change_of, value_with}
use Rattle.gate_stimulus.specs.Given.{last_stamp}
use Rattle.gate_stimulus.proofs.ChangesOf.{changes-none, latest-none}
use Rattle.gate_vcd.specs.Inner.Items.{AreKept}
use Rattle.net_waves.specs.Waves.{lists_in}
use Rattle.gate_vcd.proofs.Links.{slice_get-within}
use Rattle.gate_vcd.proofs.Settling.{AreUpTo}

pub events-none : (es : List Event) → es ++ [] ≡ es
events-none es = grind (arith, common_steps)

pub append-nil : (xs : List Change) → xs ++ [] ≡ xs
append-nil xs = grind (arith, common_steps)

pub one_more : {A : Type 0} (n : ℕ) (x : A) → replicate n x ++ x ∷ [] ≡ replicate (suc n) x
one_more zero x = refl
one_more (suc n) x = ap (λ xs. x ∷ xs) (one_more n x)

pub one_list_more : (vs new : List (Vec Change Global)) (v : Vec Change Global) (n : ℕ) → v.items ≡ [] → new ≡ vs ++ v ∷ [] → lists_in vs ≡ replicate {A = List Change} n [] → lists_in new ≡ replicate {A = List Change} (n + 1) []
one_list_more vs new v n e en h =
    rw en (map-append (λ (w : Vec Change Global). w.items) vs (v ∷ []) ∙ rw (h, e, add-one n) (one_more n []))

pub all_lists : (vs : List (Vec Change Global)) (n m : ℕ) → n ≡ m → lists_in vs ≡ replicate {A = List Change} n [] → lists_in vs ≡ replicate {A = List Change} m []
all_lists vs n m e h = rw (← e) h

found_at : (n len k : ℕ) → cond (nat_lt n len) (Some n) None ≡ Some k → (n < len) × (n ≡ k)
found_at n len k e = go (nat_lt n len) refl e
  where
    go : (b : Bool) → nat_lt n len ≡ b → cond b (Some n) None ≡ Some k → (n < len) × (n ≡ k)
    go true t e = (grind (arith, nat_tests, t), cc)
    go false t e = cc

not_false : (b : Bool) → not b ≡ false → b ≡ true
not_false true e = refl
not_false false e = cc

-- what stands at the first place that passes
pub position-some : {A : Type 0} (p : A → Bool) (xs : List A) (k : ℕ) (d : A) → position p xs ≡ Some k → (k < length xs) × (p (get_or xs k d) ≡ true)
position-some p xs k d e =
    let (within, is) = found_at (prefix_len (λ x. not (p x)) xs) (length xs) k e in
    (rw (← is) within, not_false (p (get_or xs k d)) (rw (← is) (prefix_len_stops (λ x. not (p x)) xs d within)))

pub same_bytes : (a b : List ℕ) → bytes_eq a b ≡ true → a ≡ b
same_bytes a b h = (bytes_eq-Decides a b).0 h

-- the changes of a source with one more change
pub more_changes : (source : Source) (es : List Event) (e : Event) → changes_with source (es ++ e ∷ []) ≡ changes_with source es ++ cond (bytes_eq source.code e.code) (change_of source.place e ∷ []) []
more_changes source es e = rw (filter-append (λ (x : Event). bytes_eq source.code x.code) es (e ∷ []), map-append (change_of source.place) (filter (λ (x : Event). bytes_eq source.code x.code) es) (filter (λ (x : Event). bytes_eq source.code x.code) (e ∷ [])))
    (ap (λ cs. changes_with source es ++ cs) (elim (bytes_eq source.code e.code) as (λ b. map (change_of source.place) (cond b (e ∷ []) []) ≡ cond b (change_of source.place e ∷ []) []) [ true ↦ refl | false ↦ refl ]))

pub up_to_with : (now : ℕ) (source : Source) (es : List Event) → AllByRecursion (λ (e : Event). e.time ≤ now) es → AreUpTo now (changes_with source es)
up_to_with now source [] h = tt
up_to_with now source (e ∷ es) h =
    elim (bytes_eq source.code e.code) as (λ b. AreUpTo now (map (change_of source.place) (cond b (e ∷ filter (λ (x : Event). bytes_eq source.code x.code) es) (filter (λ (x : Event). bytes_eq source.code x.code) es))))
    [ true ↦ (h.0, up_to_with now source es h.1) | false ↦ up_to_with now source es h.1 ]

pub past-more : (now : ℕ) (es : List Event) (e : Event) → e.time ≤ now → AllByRecursion (λ (x : Event). x.time ≤ now) es → AllByRecursion (λ (x : Event). x.time ≤ now) (es ++ e ∷ [])
past-more now [] e h all = (h, tt)
past-more now (x ∷ es) e h all = (all.0, past-more now es e h all.1)

pub past-later : (now next : ℕ) (es : List Event) → now ≤ next → AllByRecursion (λ (x : Event). x.time ≤ now) es → AllByRecursion (λ (x : Event). x.time ≤ next) es
past-later now next [] h all = tt
past-later now next (x ∷ es) h all = (omega (arith, all.0), past-later now next es h all.1)

-- before the first change
pub kept-none : (sources : List Source) (n : ℕ) → n ≡ length sources → AreKept sources 0 [] (replicate n [])
kept-none sources n e =
    record {
      count = length-replicate n [] ∙ e;
      past = tt;
      within = omega arith;
      changes = λ k source h. (let l : k < n = rw e (slice_get-within sources k source h) in get_or-replicate n k [] [] l) ∙ sym (changes-none (value_with source []) (last_stamp + 1) latest-none);
    }
