-- Matched blocks have the circuit's values.
use Rattle.std.proofs.Common.{◌≡◌, ℕ, zero, suc, ◌+◌, ◌<◌, ◌≤◌, ◌⊎◌, inl, inr, true, not, is_some, IfSome, Option, Some, None, List, [], ◌∷◌, refl, ap, sym, subst, ◌∙◌, arith}
use Rattle.std.specs.List.{AllByRecursion}
use Rattle.std.proofs.lemmas.Bool.{cases_Bool, and_from}
use Rattle.gate_values.specs.declared.logic.Logic.{Logic}
use Rattle.gate_values.specs.declared.logic.Change.{Change}
use Rattle.gate_values.specs.Behaviour.{Source, Outside, Gate, Flop, source_delay}
use Rattle.gate_values.specs.Inner.Behaviour.{IsOver}
use Rattle.gate_values.specs.Changes.{changes, pair_at}
use Rattle.gate_values.proofs.Behaving.{Joined, same_values, outside_is}
use Rattle.gate_values.proofs.ChangeLists.{held-changes, pair_at-changes, changes-agree}
use Rattle.gate_netlist.specs.Circuit.{Design, CutFits, nets_of, source_of as circuit_source}
use Rattle.gate_netlist.specs.Cut.{Ownership, IsOwnership, owner_of}
use Rattle.gate_stimulus.specs.Given.{Given, AreItsChanges, value_at, changes_of}
use Rattle.warp_process.specs.Limits.{most_horizon}
use Rattle.warp_part.specs.Portion.{Portion, owns, reads, slot_of, source_of}
use Rattle.warp_process.specs.View.{View, Process, effective_at, given_by as received, block_value, log_of}
use Rattle.warp_process.specs.Lawful.{IsLawful}
use Rattle.warp_process.proofs.Views.{IsUsed, over_used}
use Rattle.warp_core.specs.Matched.{seen_at, EachBlock, AreMatched, told_by, told_of}
use Rattle.warp_core.specs.Values.{given_by, value_under}
use Rattle.warp_core.proofs.Parts.{read_outside, unowned_outside, own_source, owner_owns, net_within}
use Rattle.warp_core.proofs.Finished.{finished_log, given_changes}

each_more : (M N : ℕ → Type 0) → ((i : ℕ) → M i → N i) → (xs : List ℕ) → AllByRecursion M xs → AllByRecursion N xs
each_more M N h [] a = tt
each_more M N h (x ∷ xs) a = (h x a.0, each_more M N h xs a.1)

over_more : (M N : ℕ → Type 0) → ((i : ℕ) → M i → N i) → (s : Source) → IsOver M s → IsOver N s
over_more M N h Outside o = absurd o
over_more M N h (Gate kind delay inputs) o = (o.0, each_more M N h inputs o.1)
over_more M N h (Flop delay d c i) o = (o.0, h d o.1, h c o.2)

delayed : (N : ℕ → Type 0) (s : Source) → IsOver N s → 0 < source_delay s
delayed N Outside o = absurd o
delayed N (Gate kind delay inputs) o = o.0
delayed N (Flop delay d c i) o = o.0

module _ (d : Design) (cut : Ownership) (g : Given) (horizon : ℕ) (blocks : List Process)
    (fits : CutFits d cut) (owners : IsOwnership cut) (given : (n : ℕ) → AreItsChanges (changes_of g n)) (short : horizon ≤ most_horizon)
    (lawful : EachBlock cut blocks (λ _ v. IsLawful v)) (m : AreMatched d cut g horizon blocks) where
  abbrev view : ℕ → View
  view b = seen_at blocks b

  -- a net of a block's own, and one that it reads and doesn't own
  abbrev Owns : ℕ → ℕ → Type 0
  Owns b n = (b < cut.blocks) × (owns (view b).part n ≡ true)

  abbrev Reads : ℕ → ℕ → Type 0
  Reads b n = (b < cut.blocks) × (reads (view b).part n ≡ true)

  own : (b n : ℕ) → Owns b n → source_of (view b).part n ≡ circuit_source d n
  own b n (l, o) =
      let is = (m.parts b l).part in
      ap (λ (p : Portion). source_of p n) is ∙ own_source d cut fits b n (ap (λ (p : Portion). owns p n) (sym is) ∙ o)

  used : (b n : ℕ) → b < cut.blocks → IsUsed (view b).part n → Owns b n ⊎ Reads b n
  used b n l u = elim (cases_Bool (owns (view b).part n)) [
    | inl own ↦ inl (l, own)
    | inr other ↦ inr (l, and_from (is_some (slot_of (view b).part.nets n)) (not (owns (view b).part n)) u.1 (ap not other))
  ]

  over : (b n : ℕ) → Owns b n → IsOver (λ i. Owns b i ⊎ Reads b i) (source_of (view b).part n)
  over b n (l, o) =
      over_more (IsUsed (view b).part) (λ i. Owns b i ⊎ Reads b i) (λ i u. used b i l u) (source_of (view b).part n)
      (over_used (view b).part (lawful b l).part n o)

  -- what blocks read has the circuit's value below a time
  ReadBelow : ℕ → Type 0
  ReadBelow u = (b i : ℕ) → Reads b i → (t : ℕ) → t < u → block_value (view b) i t ≡ value_under d g i t

  -- then so has each own net, one delay longer
  own_below : (u : ℕ) → ReadBelow u → (b n t : ℕ) → Owns b n → t < u + source_delay (source_of (view b).part n) → block_value (view b) n t ≡ value_under d g n t
  unfolding ReadBelow
  own_below u below b n t o l =
      let joined : Joined (source_of (view b).part) (circuit_source d) (received (view b)) (given_by g) (Owns b) (Reads b) u =
      record { same_source = own b; over = over b; agree = λ i s r k. below b i r s k } in
      same_values (source_of (view b).part) (circuit_source d) (received (view b)) (given_by g) (Owns b) (Reads b) u joined n t o l

  -- the changes of a function that a block was told give it that function's values
  told_value : (b i : ℕ) (f : ℕ → Logic) → Reads b i → told_of cut g horizon blocks i ≡ changes f (horizon + 1) → (t : ℕ) → t ≤ horizon → block_value (view b) i t ≡ f t
  told_value b i f (l, r) e t h =
      outside_is (source_of (view b).part) (received (view b)) i t (read_outside (view b).part i r).1
      ∙ held-changes (effective_at (view b) i) f (horizon + 1)
      (λ k j. m.told b l i r k ∙ (ap (λ (cs : List Change). pair_at cs k) e ∙ pair_at-changes f (horizon + 1) k j)) t (omega arith)

  owner_log : (o i : ℕ) → Owns o i → log_of (view o) i ≡ changes (block_value (view o) i) (horizon + 1)
  owner_log o i (l, own) =
      finished_log (view o) (lawful o l) (m.done o l) i own
      ∙ ap (λ h. changes (block_value (view o) i) (h + 1)) (m.parts o l).horizon_is

  owner_is : (o i : ℕ) → owner_of cut i ≡ Some o → Owns o i
  owner_is o i e =
      let within : o < cut.blocks = subst (λ k. IfSome k (λ block. block < cut.blocks)) e (owners.owned i) in
      (within, ap (λ (p : Portion). owns p i) (m.parts o within).part ∙ owner_owns d cut fits o i e)

  read_within : (b i : ℕ) → Reads b i → i < nets_of d
  read_within b i (l, r) =
      net_within d cut fits b i (ap (λ (p : Portion). is_some (slot_of p.nets i)) (sym (m.parts b l).part) ∙ (read_outside (view b).part i r).0)

  input_changes : (i : ℕ) → owner_of cut i ≡ None → told_of cut g horizon blocks i ≡ changes (value_at g i) (horizon + 1)
  input_changes i e = ap (told_by g horizon blocks i) e ∙ given_changes (changes_of g i) horizon short (given i)

  log_changes : (o i : ℕ) → owner_of cut i ≡ Some o → told_of cut g horizon blocks i ≡ changes (block_value (view o) i) (horizon + 1)
  log_changes o i e = ap (told_by g horizon blocks i) e ∙ owner_log o i (owner_is o i e)

  read_next : (u : ℕ) → u ≤ horizon → ReadBelow u → ReadBelow (suc u)
  unfolding ReadBelow
  read_next u h below b i r t l = by_owner (owner_of cut i) refl
    where
      by_owner : (o : Option ℕ) → owner_of cut i ≡ o → block_value (view b) i t ≡ value_under d g i t
      by_owner None e =
          told_value b i (value_at g i) r (input_changes i e) t (omega arith)
          ∙ sym (outside_is (circuit_source d) (given_by g) i t (unowned_outside d cut fits i (read_within b i r) e))
      by_owner (Some o) e =
          let owns_it = owner_is o i e in
          let d_ : 0 < source_delay (source_of (view o).part i) = delayed _ _ (over o i owns_it) in
          told_value b i (block_value (view o) i) r (log_changes o i e) t (omega arith)
          ∙ own_below u below o i t owns_it (omega arith)

  read_all : (u : ℕ) → u ≤ suc horizon → ReadBelow u
  unfolding ReadBelow
  read_all zero h = λ b i r t l. absurd (omega arith)
  read_all (suc u) h = read_next u (omega arith) (read_all u (omega arith))

  -- matched blocks have the values of the circuit
  pub matched_values : (b n t : ℕ) → Owns b n → t ≤ horizon → block_value (view b) n t ≡ value_under d g n t
  matched_values b n t o l = own_below (suc horizon) (read_all (suc horizon) (omega arith)) b n t o (omega arith)

  -- and what is told of each net are the changes of its value
  pub matched_changes : (n : ℕ) → n < nets_of d → told_of cut g horizon blocks n ≡ changes (value_under d g n) (horizon + 1)
  matched_changes n within = by_owner (owner_of cut n) refl
    where
      by_owner : (o : Option ℕ) → owner_of cut n ≡ o → told_of cut g horizon blocks n ≡ changes (value_under d g n) (horizon + 1)
      by_owner None e =
          input_changes n e
          ∙ changes-agree (value_at g n) (value_under d g n) (horizon + 1)
          (λ t l. sym (outside_is (circuit_source d) (given_by g) n t (unowned_outside d cut fits n within e)))
      by_owner (Some o) e =
          log_changes o n e
          ∙ changes-agree (block_value (view o) n) (value_under d g n) (horizon + 1) (λ t l. matched_values o n t (owner_is o n e) (omega arith))
