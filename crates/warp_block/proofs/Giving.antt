-- The logs of own nets move to the places of the nets' lists.
use Rattle.std.proofs.Common.{◌≡◌, ◌≢◌, ℕ, ◌+◌, ◌<◌, false, inl, inr, Option, Some, None, List, [], length, set, refl, ap, sym, ◌∙◌, subst, IsTrue, arith, get_or-set_same, get_or-set_other}
use Rattle.std.specs.declared.vec.Vec.{Vec}
use Rattle.std.specs.declared.alloc.Global.{Global}
use Rattle.std.specs.List.Sorted.{IsStrictlyIncreasing}
use Rattle.std.proofs.lemmas.Bool.{cases_lt, true≢false}
use Rattle.gate_values.specs.declared.logic.Change.{Change}
use Rattle.gate_values.specs.Behaviour.{Outside}
use Rattle.net_waves.specs.Waves.{lists_in, wave_of}
use Rattle.warp_part.specs.Portion.{Portion, is_driven, owns, slot_of, at_slot}
use Rattle.warp_process.specs.View.{View, log_of}
use Rattle.warp_process.specs.Inner.Step.{log_at}
use Rattle.warp_process.specs.Shown.Step.{net_at}
use Rattle.warp_block.specs.Inner.Give.{IsOwnAt, AreGiven}
use Rattle.warp_part.proofs.Slots.{slot_is, slot_at}
use Rattle.std.proofs.lemmas.List.Kept.{AllPairs-from_increasing}
use Rattle.std.proofs.lemmas.List.{map-set, length-map}

module _ (lists : List (Vec Change Global)) (n : ℕ) (list : Vec Change Global) where
  put_here : n < length lists → wave_of (lists_in (set lists n list)) n ≡ list.items
  put_here h =
      let short : n < length (lists_in lists) = rw length-map h in
      ap (λ (ls : List (List Change)). wave_of ls n) (map-set (λ (v : Vec Change Global). v.items) lists n list) ∙ get_or-set_same (lists_in lists) n list.items [] short

  pub put_other : (k : ℕ) → k ≢ n → wave_of (lists_in (set lists n list)) k ≡ wave_of (lists_in lists) k
  put_other k ne = ap (λ (ls : List (List Change)). wave_of ls k) (map-set (λ (v : Vec Change Global). v.items) lists n list) ∙ get_or-set_other (lists_in lists) n k list.items [] ne

module _ (p : Portion) (up : IsStrictlyIncreasing p.nets) (logs old : List (List Change)) where
  -- one own place more is given
  given_one : (k : ℕ) (lists : List (Vec Change Global)) (log : Vec Change Global) → k < length p.nets → net_at p k < length lists → IsOwnAt p k → log.items ≡ log_at logs k
      → AreGiven p logs k old (lists_in lists) → AreGiven p logs (k + 1) old (lists_in (set lists (net_at p k) log))
  given_one k lists log in_nets in_lists here is given = record {
    own = λ i less own. elim (cases_lt i k) [
      | inl before ↦ put_other lists (net_at p k) log (net_at p i) (λ e. absurd (omega (arith, AllPairs-from_increasing p.nets up i k 0 before in_nets, e))) ∙ given.own i before own
      | inr past ↦
          (let same : k ≡ i = omega (arith, less, past) in
          subst (λ j. wave_of (lists_in (set lists (net_at p k) log)) (net_at p j) ≡ log_at logs j) same (put_here lists (net_at p k) log in_lists ∙ is))
    ];
    others = λ n apart. put_other lists (net_at p k) log n (λ e. apart k (omega arith) here (sym e)) ∙ given.others n (λ i less. apart i (omega (arith, less)));
  }

  pub given_more : (k net : ℕ) (lists : List (Vec Change Global)) (log : Vec Change Global) → net ≡ net_at p k → k < length p.nets → net < length lists → IsOwnAt p k → log.items ≡ log_at logs k
      → AreGiven p logs k old (lists_in lists) → AreGiven p logs (k + 1) old (lists_in (set lists net log))
  given_more k net lists log net_is in_nets in_lists here is given =
      subst (λ m. AreGiven p logs (k + 1) old (lists_in (set lists m log))) (sym net_is)
      (given_one k lists log in_nets (omega (arith, net_is, in_lists)) here is given)

module _ (v : View) (up : IsStrictlyIncreasing v.part.nets) (old new : List (List Change)) (given : AreGiven v.part v.logs (length v.part.nets) old new) where
  -- each own net has its log
  pub given_own : (n : ℕ) → IsTrue (owns v.part n) → wave_of new n ≡ log_of v n
  given_own n own = go (slot_of v.part.nets n) refl
    where
      go : (o : Option ℕ) → slot_of v.part.nets n ≡ o → wave_of new n ≡ log_of v n
      go None e = absurd (true≢false (sym own ∙ ap (λ o. is_driven (at_slot v.part.sources Outside o)) e))
      go (Some i) e =
          let is = slot_is v.part.nets n i e in
          let here : IsOwnAt v.part i = sym (ap (λ o. is_driven (at_slot v.part.sources Outside o)) e) ∙ own in
          subst (λ m. wave_of new m ≡ log_at v.logs i) is.1 (given.own i is.0 here) ∙ sym (ap (at_slot v.logs []) e)

  -- the other lists stay
  pub given_others : (n : ℕ) → owns v.part n ≡ false → wave_of new n ≡ wave_of old n
  given_others n other =
      given.others n
      (λ i less own same. true≢false (sym own ∙ sym (ap (λ o. is_driven (at_slot v.part.sources Outside o)) (slot_at v.part.nets i up less)) ∙ ap (owns v.part) same ∙ other))
