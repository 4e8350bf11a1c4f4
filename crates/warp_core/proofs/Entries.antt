-- Entries that are settled, and nets that aren't among a block's.
use Rattle.std.proofs.Common.{◌≡◌, ℕ, ◌+◌, arith, false, Option, None, is_some, not, ◌&&◌, List, inl, inr, ap, sym, ◌∙◌}
use Rattle.std.proofs.lemmas.Bool.{cases_Bool, cases_lt, true≢false}
use Rattle.gate_netlist.specs.Cut.{Ownership}
use Rattle.gate_stimulus.specs.Given.{Given}
use Rattle.warp_process.specs.Entries.{is_settled}
use Rattle.warp_part.specs.Portion.{slot_of, reads, owns}
use Rattle.warp_process.specs.View.{View, Process, entry_of}
use Rattle.warp_process.specs.Lawful.{IsLawful}
use Rattle.warp_process.specs.Commit.{IsUnsettledBelow, IsFirstUnsettled as IsFirstBelow}
use Rattle.warp_process.proofs.Settled.{settled-none}
use Rattle.warp_core.specs.Gather.{IsFirst}
use Rattle.warp_core.specs.Matched.{IsSettledBy, IsSettledAt, AreSettled, IsToldAt}

module _ (v : View) (n : ℕ) where
  settled_or_not : (t : ℕ) → (¬ IsSettledBy v n t → ⊥) → IsSettledBy v n t
  settled_or_not t h = elim (cases_Bool (is_settled (entry_of v n t))) [
    | inl settled ↦ settled
    | inr not ↦ absurd (h (λ settled. true≢false (sym settled ∙ not)))
  ]

-- ---- the first unsettled entry of a block
module _ (v : View) (lawful : IsLawful v) where
  unsettled_within : (n t : ℕ) → (IsSettledBy v n t → ⊥) → IsUnsettledBelow v (v.horizon + 1) n t
  unsettled_within n t not = elim (cases_lt v.horizon t) [
    | inl late ↦ absurd (not (ap is_settled (lawful.within n t late) ∙ settled-none))
    | inr within ↦ (omega (arith, within), not)
  ]

  pub none_unsettled : ((n t : ℕ) → IsUnsettledBelow v (v.horizon + 1) n t → ⊥) → AreSettled v
  none_unsettled none n t = settled_or_not v n t (λ not. none n t (unsettled_within n t not))

  pub first_unsettled : (n t : ℕ) → IsFirstBelow v (v.horizon + 1) n t → IsFirst (IsSettledAt v) n × IsFirst (IsSettledBy v n) t
  first_unsettled n t first = (
    record {
      fails = λ all. first.0.1 (all t);
      before = λ m l u. settled_or_not v m u (λ not. elim (first.1 m u (unsettled_within m u not)) [
        | inl later ↦ omega (arith, later, l)
        | inr here ↦ (let same = here.0 in omega (arith, same, l))
      ]);
    },
    record {
      fails = first.0.1;
      before = λ u l. settled_or_not v n u (λ not. elim (first.1 n u (unsettled_within n u not)) [
        | inl later ↦ omega (arith, later)
        | inr here ↦ (let below = here.1 in omega (arith, below, l))
      ]);
    },
  )

-- a net that isn't among a block's has no entries
pub other_settled : (v : View) (n : ℕ) → slot_of v.part.nets n ≡ None → IsSettledAt v n
other_settled v n e t = rw e settled-none

-- and isn't read
pub other_told : (cut : Ownership) (g : Given) (horizon : ℕ) (blocks : List Process) (v : View) (n : ℕ) → slot_of v.part.nets n ≡ None → IsToldAt cut g horizon blocks v n
other_told cut g horizon blocks v n e h = absurd (let none : reads v.part n ≡ false = ap (λ (o : Option ℕ). is_some o && not (owns v.part n)) e in cc)
