-- What is found of blocks, each alone.
use Rattle.std.proofs.Common.{◌≡◌, ℕ, ◌+◌, ◌<◌, ◌≤◌, ◌++◌, Bool, true, false, Option, Some, None, List, [], ◌∷◌, length, get_or, map, IfSome, inl, inr, sym, MatchBool, subst, arith}
use Rattle.std.specs.Option.{MatchOption}
use Rattle.std.proofs.lemmas.Bool.{cases_lt}
use Rattle.std.proofs.lemmas.List.{get_or_append_left, get_or_push, get_or-map}
use Rattle.gate_netlist.specs.Circuit.{Design}
use Rattle.gate_netlist.specs.Cut.{Ownership}
use Rattle.gate_stimulus.specs.Given.{Given}
use Rattle.warp_process.specs.View.{Process}
use Rattle.warp_core.specs.declared.gathering.findings.Finding.{Finding}
use Rattle.warp_core.specs.Matched.{seen_at, IsBlockOf, IsToldAt, AreTold, EachBlock}
use Rattle.warp_core.specs.Gather.{IsFirst, IsFirstBlock}
use Rattle.warp_core.specs.Inner.Findings.{IsFinding, AreFound, AreOfCut}
use Rattle.warp_core.proofs.Sweeping.{first_block}

module _ (d : Design) (cut : Ownership) (g : Given) (horizon : ℕ) (blocks : List Process) where
  -- one block more is looked at
  pub found_more : (found : List Finding) (n : ℕ) (f : Finding) → length found ≡ n → ((b : ℕ) (x : Finding) → b < n → IsFinding d cut g horizon blocks b (get_or found b x)) → IsFinding d cut g horizon blocks n f →
      (b : ℕ) (x : Finding) → b < n + 1 → IsFinding d cut g horizon blocks b (get_or (found ++ f ∷ []) b x)
  found_more found n f count each new b x l = elim (cases_lt b n) [
    | inl before ↦ subst (IsFinding d cut g horizon blocks b) (sym (get_or_append_left found (f ∷ []) x b (omega (arith, before, count)))) (each b x before)
    | inr past ↦
        (let same : n ≡ b = omega (arith, l, past) in
        subst (λ k. IsFinding d cut g horizon blocks k (get_or (found ++ f ∷ []) k x)) same (subst (IsFinding d cut g horizon blocks n) (sym (get_or_push found f x n count)) new))
  ]

  -- an answer that isn't missing
  pub known_at : (answers : List (Option Finding)) (found : List Finding) (b : ℕ) (x : Finding) → map Some found ≡ answers → b < length found → IfSome (get_or answers b None) (IsFinding d cut g horizon blocks b) → IsFinding d cut g horizon blocks b (get_or found b x)
  known_at answers found b x are l some = subst (λ o. IfSome o (IsFinding d cut g horizon blocks b)) (subst (λ os. get_or os b None ≡ Some (get_or found b x)) are (get_or-map Some found b x None l)) some

  abbrev pub blank : Finding
  blank = record { is_other = false; untold = None }

  of_part : (b : ℕ) (f : Finding) → IsFinding d cut g horizon blocks b f → f.is_other ≡ false → IsBlockOf d cut horizon b (seen_at blocks b)
  of_part b f is none = subst (λ (o : Bool). MatchBool o (¬ IsBlockOf d cut horizon b (seen_at blocks b)) (IsBlockOf d cut horizon b (seen_at blocks b))) none is.part

  told_all : AreOfCut d cut horizon blocks → (b : ℕ) (f : Finding) → IsFinding d cut g horizon blocks b f → f.untold ≡ None → AreTold cut g horizon blocks (seen_at blocks b)
  told_all of b f is none = subst (λ (o : Option ℕ). MatchOption o (AreTold cut g horizon blocks (seen_at blocks b)) (IsFirst (IsToldAt cut g horizon blocks (seen_at blocks b)))) none (is.told of)

  module _ (found : List Finding) (are : AreFound d cut g horizon blocks found) (n : ℕ) where
    module _ (before : (b : ℕ) (f : Finding) → b < n → (get_or found b f).is_other ≡ false) where
      mine : (b : ℕ) → b < cut.blocks → b < n → IsBlockOf d cut horizon b (seen_at blocks b)
      mine b within l = of_part b (get_or found b blank) (are.each b blank within) (before b blank l)

      pub none_other : cut.blocks ≤ n → EachBlock cut blocks (IsBlockOf d cut horizon)
      none_other all b l = mine b l (omega (arith, l, all))

      pub first_other : n < cut.blocks → (get_or found n blank).is_other ≡ true → IsFirstBlock cut blocks (IsBlockOf d cut horizon) n
      first_other within other =
          first_block cut blocks (IsBlockOf d cut horizon) n within (λ b l. mine b (omega (arith, l, within)) l)
          (subst (λ (o : Bool). MatchBool o (¬ IsBlockOf d cut horizon n (seen_at blocks n)) (IsBlockOf d cut horizon n (seen_at blocks n))) other (are.each n blank within).part)

    module _ (of : AreOfCut d cut horizon blocks) (before : (b : ℕ) (f : Finding) → b < n → (get_or found b f).untold ≡ None) where
      told : (b : ℕ) → b < cut.blocks → b < n → AreTold cut g horizon blocks (seen_at blocks b)
      told b within l = told_all of b (get_or found b blank) (are.each b blank within) (before b blank l)

      pub none_untold : cut.blocks ≤ n → EachBlock cut blocks (λ _ v. AreTold cut g horizon blocks v)
      none_untold all b l = told b l (omega (arith, l, all))

      pub first_untold : (net : ℕ) → n < cut.blocks → (get_or found n blank).untold ≡ Some net → IsFirstBlock cut blocks (λ _ v. AreTold cut g horizon blocks v) n × IsFirst (IsToldAt cut g horizon blocks (seen_at blocks n)) net
      first_untold net within some =
          let first : IsFirst (IsToldAt cut g horizon blocks (seen_at blocks n)) net =
          subst (λ (o : Option ℕ). MatchOption o (AreTold cut g horizon blocks (seen_at blocks n)) (IsFirst (IsToldAt cut g horizon blocks (seen_at blocks n)))) some ((are.each n blank within).told of) in
          (first_block cut blocks (λ _ v. AreTold cut g horizon blocks v) n within (λ b l. told b (omega (arith, l, within)) l) (λ all. first.fails (all net)), first)
