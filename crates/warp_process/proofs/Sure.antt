-- Up to when all is known to be settled.
use Rattle.std.proofs.Common.{◌≡◌, ◌==◌, ℕ, true, max, ◌<◌, ◌≤◌, ◌⊎◌, inl, inr, sym, ap, ◌∙◌, arith}
use Rattle.std.specs.Prelude.{◌&&◌}
use Rattle.std.proofs.lemmas.Bool.{cases_Bool, true≢false, eqb-true, and_parts}
use Rattle.warp_process.specs.declared.entry.Entry.{Entry}
use Rattle.warp_process.specs.Entries.{is_settled}
use Rattle.warp_process.specs.View.{View, entry_of}
use Rattle.warp_process.specs.Commit.{IsUnsettledBelow}
use Rattle.warp_process.specs.Shown.Receive.{IsPut}

-- what isn't unsettled is settled
pub settled_of : (v : View) (end : ℕ) → ((n t : ℕ) → IsUnsettledBelow v end n t → ⊥) → (n t : ℕ) → t < end → is_settled (entry_of v n t) ≡ true
settled_of v end none n t l = elim (cases_Bool (is_settled (entry_of v n t))) [
  | inl e ↦ e
  | inr e ↦ absurd (none n t (l, λ yes'. true≢false (sym yes' ∙ e)))
]

-- below the later of two times
pub below_later : (t sure floor later : ℕ) → later ≡ max sure floor → t < later → (t < floor) ⊎ (t < sure)
below_later t sure floor later e l = grind (arith, e, l)

-- another entry, settled or not
pub sure_put : (v w : View) (net time sure sure' : ℕ) (entry : Entry) → IsPut v w net time entry → ((n t : ℕ) → t < sure → is_settled (entry_of v n t) ≡ true) → sure' ≤ sure → (time < sure' → is_settled entry ≡ true) → (n t : ℕ) → t < sure' → is_settled (entry_of w n t) ≡ true
sure_put v w net time sure sure' entry put old less new n t l = elim (cases_Bool ((n == net) && (t == time))) [
  | inl e ↦ (
      let at : t ≡ time = eqb-true t time ((and_parts (n == net) (t == time) e).1) in
      ap is_settled (put.entries n t) ∙ rw e (new (omega (arith, at, l))))
  | inr e ↦ ap is_settled (put.entries n t) ∙ rw e (old n t (omega (arith, less, l)))
]
