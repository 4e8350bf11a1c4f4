-- What is read and begins with a known value.
use Rattle.std.proofs.Common.{◌≡◌, ◌≢◌, ◌∙◌, ℕ, ◌<◌, ◌&&◌, not, Bool, true, false, length, get_or, refl, ap, sym}
use Rattle.std.proofs.lemmas.Bool.{true≢false, and_parts}
use Rattle.std.proofs.lemmas.List.{get_or_default}
use Rattle.std.proofs.lemmas.List.Folds.{Any-from_list_any, list_any_at, list_any_none}
use Rattle.gate_values.specs.declared.logic.Logic.{Logic}
use Rattle.gate_values.specs.declared.logic.Logic.TheVariants.{X}
use Rattle.gate_values.specs.Behaviour.{Source, Outside, Gate, Flop, initial_of}
use Rattle.gate_values.specs.Changes.{same}
use Rattle.gate_values.proofs.ChangeLists.{same_is}
use Rattle.warp_part.specs.Portion.{Portion, IsPortion, source_of, is_driven, is_used}
use Rattle.warp_part.specs.Placing.{net_of_place}
use Rattle.warp_part.proofs.Placing.{source_at}
use Rattle.part_engine.specs.Runs.{begins_of}
use Rattle.part_engine.specs.Inner.Firsts.{begins_at}

pub begins_own : (s : Source) → initial_of s ≢ X → is_driven s ≡ true
begins_own Outside n = absurd (n refl)
begins_own (Gate kind delay inputs) n = refl
begins_own (Flop delay d clock initial) n = refl

module _ (p : Portion) (portion : IsPortion p) where
  abbrev net_begins : ℕ → Bool
  net_begins n = is_used p n && not (same (initial_of (source_of p n)) X)

  same_test : (i : ℕ) → i < length p.nets → net_begins (net_of_place p i) ≡ begins_at p i
  same_test i l = ap (λ (s : Source). is_used p (net_of_place p i) && not (same (initial_of s) X)) (source_at p portion i l)

  pub begins_here : (i : ℕ) → i < length p.nets → begins_at p i ≡ true → begins_of p ≡ true
  begins_here i l h = list_any_at net_begins p.nets i 0 l (same_test i l ∙ h)

  pub begins_nowhere : ((i : ℕ) → i < length p.nets → begins_at p i ≡ false) → begins_of p ≡ false
  begins_nowhere h = list_any_none net_begins p.nets (λ i d l. ap net_begins (get_or_default p.nets i d 0 l) ∙ same_test i l ∙ h i l)

  pub record BeginsSome : Type 0 where
    pub at : ℕ
    pub within : at < length p.nets
    pub used : is_used p (net_of_place p at) ≡ true
    pub known : initial_of (get_or p.sources at Outside) ≢ X

  pub begins_some : begins_of p ≡ true → BeginsSome
  begins_some h =
      let a = Any-from_list_any net_begins p.nets h in
      let there : net_begins (net_of_place p a.0) ≡ true = ap net_begins (get_or_default p.nets a.0 0 a.1 a.2 ∙ a.3) ∙ a.4 in
      let parts = and_parts (is_used p (net_of_place p a.0)) (not (same (initial_of (get_or p.sources a.0 Outside)) X)) (sym (same_test a.0 a.2) ∙ there) in
      record { at = a.0; within = a.2; used = parts.0; known = λ e. true≢false (sym parts.1 ∙ ap (λ (v : Logic). not (same v X)) e) }

  pub begins_none : (i : ℕ) → i < length p.nets → is_used p (net_of_place p i) ≡ true → begins_of p ≡ false → initial_of (get_or p.sources i Outside) ≡ X
  begins_none i l used h = go (same (initial_of (get_or p.sources i Outside)) X) refl
    where
      both : (a b : Bool) → a ≡ true → b ≡ false → (a && not b) ≡ true
      both a b e f = rw (e, f) refl

      go : (b : Bool) → same (initial_of (get_or p.sources i Outside)) X ≡ b → initial_of (get_or p.sources i Outside) ≡ X
      go true e = same_is (initial_of (get_or p.sources i Outside)) X e
      go false e = absurd (true≢false (sym (begins_here i l (both (is_used p (net_of_place p i)) (same (initial_of (get_or p.sources i Outside)) X) used e)) ∙ h))
