-- The value that changes at rising times leave.
use Rattle.std.proofs.Common.{◌≡◌, ℕ, suc, ◌+◌, ◌-◌, ◌<◌, ◌≤◌, Bool, true, false, not, IsTrue, cond, nat_le, List, [], ◌∷◌, ◌++◌, length, take, drop, get_or, map, Option, Some, None, is_some, option_map, refl, ap, sym, ◌∙◌, arith, take-append-drop, length-drop, inl, inr}
use Rattle.std.proofs.lemmas.Bool.{cases_eq}
use Rattle.std.specs.Bool.{beq}
use Rattle.std.proofs.lemmas.Bool.Decides.{nat_tests}
use Rattle.std.proofs.lemmas.List.{get_or-map, length-map, get_or-drop, same_lists}
use Rattle.gate_netlist.specs.Circuit.{is_input}
use Rattle.gate_netlist.specs.declared.driver.Driver.{Driver}
use Rattle.gate_netlist.specs.declared.driver.Driver.TheVariants.{Input}
use Rattle.std.proofs.Math.Seq.{drop-cons}
use Rattle.std.specs.List.Sorted.{IsPartitionedBy, IsPartitionPoint}
use Rattle.gate_values.specs.declared.logic.Logic.{Logic}
use Rattle.gate_values.specs.declared.logic.Logic.TheVariants.{X}
use Rattle.gate_values.specs.declared.logic.Change.{Change}
use Rattle.gate_values.specs.Changes.{latest}
use Rattle.net_waves.specs.Inner.Lists.{IsRising}

-- those that aren't later come first
pub rising-partitioned : (cs : List Change) (t : ℕ) → IsRising cs → IsPartitionedBy (λ (c : Change). nat_le c.time t) cs
rising-partitioned cs t rising i j d h l e = elim (cases_eq i j) [
  | inl same ↦ rw same e
  | inr other ↦ (let before : (get_or cs i d).time < (get_or cs j d).time = rising i j d (omega arith) l in
      let late : (get_or cs j d).time ≤ t = grind (arith, nat_tests, e) in
      let early : (get_or cs i d).time ≤ t = omega arith in
      grind (arith, nat_tests, early))
]

pub latest-split : (v : Logic) (xs ys : List Change) (t : ℕ) → latest v (xs ++ ys) t ≡ latest (latest v xs t) ys t
unfolding latest
latest-split v [] ys t = refl
latest-split v (x ∷ xs) ys t = latest-split (cond (nat_le x.time t) x.value v) xs ys t

latest-late : (v : Logic) (cs : List Change) (t : ℕ) → ((k : ℕ) (d : Change) → k < length cs → nat_le (get_or cs k d).time t ≡ false) → latest v cs t ≡ v
unfolding latest
latest-late v [] t h = refl
latest-late v (c ∷ cs) t h = rw (h 0 c (omega arith)) (latest-late v cs t (λ k d l. h (suc k) d (omega arith)))

pub none_until : (cs : List Change) (t n : ℕ) → n ≡ 0 → IsPartitionPoint (λ (c : Change). nat_le c.time t ≡ true) (λ (c : Change). nat_le c.time t ≡ false) cs n → X ≡ latest X cs t
none_until cs t n e (early, late) = sym (latest-late X cs t (λ k d l. late k d (omega arith) l))

latest-head : (v : Logic) (c : Change) (rest : List Change) (t : ℕ) → nat_le c.time t ≡ true → latest v (c ∷ rest) t ≡ latest c.value rest t
unfolding latest
latest-head v c rest t e = rw e refl

pub some_until : (cs : List Change) (t n : ℕ) (d : Change) → 0 < n → n ≤ length cs → IsPartitionPoint (λ (c : Change). nat_le c.time t ≡ true) (λ (c : Change). nat_le c.time t ≡ false) cs n
    → (get_or cs (n - 1) d).value ≡ latest X cs t
some_until cs t n d pos within (early, late) =
    let last : Change = get_or cs (n - 1) d in
    let parts : cs ≡ take (n - 1) cs ++ last ∷ drop n cs = sym (take-append-drop (n - 1) cs) ∙ ap (λ ys. take (n - 1) cs ++ ys) (drop-cons cs (n - 1) d (omega arith) ∙ ap (λ k. last ∷ drop k cs) (let e : suc (n - 1) ≡ n = omega arith in e)) in
    sym (ap (λ ys. latest X ys t) parts ∙ latest-split X (take (n - 1) cs) (last ∷ drop n cs) t ∙ latest-head (latest X (take (n - 1) cs) t) last (drop n cs) t (early (n - 1) d (omega arith) (omega arith))
    ∙ latest-late last.value (drop n cs) t (λ k e l. rw (get_or-drop n cs k e) (late (n + k) e (omega arith) (omega (arith, length-drop n cs)))))

-- just the inputs have a list
pub fits-at : (os : List (Option ℕ)) (ds : List Driver) (k : ℕ) → k < length os → k < length ds → map is_some os ≡ map is_input ds → is_some (get_or os k None) ≡ is_input (get_or ds k Input)
fits-at os ds k lo ld e = sym (get_or-map is_some os k None false lo) ∙ ap (λ xs. get_or xs k false) e ∙ get_or-map is_input ds k Input false ld

pub fits-all : (os : List (Option ℕ)) (ds : List Driver) → length os ≡ length ds → ((k : ℕ) → k < length os → is_some (get_or os k None) ≡ is_input (get_or ds k Input)) → map is_some os ≡ map is_input ds
fits-all os ds e h =
    same_lists (map is_some os) (map is_input ds) (length-map os is_some ∙ e ∙ sym (length-map ds is_input))
    (λ k d l. (let lo : k < length os = omega (arith, length-map os is_some) in let ld : k < length ds = omega arith in get_or-map is_some os k None d lo ∙ h k lo ∙ sym (get_or-map is_input ds k Input d ld)))

pub some-mapped : {X Y : Type 0} (f : X → Y) (os : List (Option X)) → map is_some (map (option_map f) os) ≡ map is_some os
some-mapped f [] = refl
some-mapped f (None ∷ os) = ap (λ bs. false ∷ bs) (some-mapped f os)
some-mapped f (Some x ∷ os) = ap (λ bs. true ∷ bs) (some-mapped f os)

pub differ : (a b : Bool) → not (beq a b) ≡ true → a ≡ b → IsTrue false
differ true true h e = h
differ false false h e = h
differ true false h e = sym e
differ false true h e = e
