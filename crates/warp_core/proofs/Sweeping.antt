-- A sweep over the nets of a part meets each net of which something may not be so.
use Rattle.std.proofs.Common.{◌≡◌, ℕ, ◌<◌, ◌≤◌, Option, Some, None, List, length, get_or, refl, ap, ◌∙◌, subst, arith, inl, inr}
use Rattle.std.specs.List.Sorted.{IsStrictlyIncreasing}
use Rattle.std.proofs.lemmas.Bool.{cases_lt}
use Rattle.warp_part.specs.Portion.{slot_of}
use Rattle.warp_part.proofs.Slots.{slot_is}
use Rattle.warp_part.proofs.PartPlaces.{ascends}
use Rattle.std.proofs.lemmas.List.{get_or_default}
use Rattle.gate_netlist.specs.Cut.{Ownership}
use Rattle.warp_process.specs.View.{View, Process}
use Rattle.warp_core.specs.Matched.{no_process, seen_at}
use Rattle.warp_core.specs.Gather.{IsFirst, IsFirstBlock}

-- an element of some blocks, as a block of them
pub seen_is : (blocks : List Process) (b : ℕ) (p : Process) → b < length blocks → p ≡ get_or blocks b p → p.seen ≡ seen_at blocks b
seen_is blocks b p within is = ap (λ (q : Process). q.seen) (is ∙ get_or_default blocks b p no_process within)

-- the first block of which something isn't so, after those of which it is
pub first_block : (cut : Ownership) (blocks : List Process) (P : ℕ → View → Type 0) (b : ℕ) → b < cut.blocks → ((c : ℕ) → c < b → P c (seen_at blocks c)) → (P b (seen_at blocks b) → ⊥) → IsFirstBlock cut blocks P b
first_block cut blocks P b within before fails = (within, record { fails = fails; before = before })

module _ (P : ℕ → Type 0) (nets : List ℕ) (others : (n : ℕ) → slot_of nets n ≡ None → P n) where
  by_place : (n : ℕ) → ((i : ℕ) → i < length nets → get_or nets i 0 ≡ n → P n) → P n
  by_place n at = go (slot_of nets n) refl
    where
      go : (o : Option ℕ) → slot_of nets n ≡ o → P n
      go None e = others n e
      go (Some i) e = let is = slot_is nets n i e in at i is.0 is.1

  pub swept_all : (end : ℕ) → length nets ≤ end → ((k : ℕ) → k < end → P (get_or nets k 0)) → (n : ℕ) → P n
  swept_all end all below n = by_place n (λ i l e. subst P e (below i (omega arith)))

  pub swept_first : IsStrictlyIncreasing nets → (i : ℕ) → i < length nets → ((k : ℕ) → k < i → P (get_or nets k 0)) → (P (get_or nets i 0) → ⊥) → IsFirst P (get_or nets i 0)
  swept_first up i within below fails = record {
    fails = fails;
    before = λ n less. by_place n (λ k l e. elim (cases_lt k i) [
      | inl earlier ↦ subst P e (below k earlier)
      | inr later ↦ absurd (omega (arith, ascends nets up i k later l, e))
    ]);
  }
