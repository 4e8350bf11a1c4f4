-- The lists of a stimulus, each that of the changes of its values.
use Rattle.std.proofs.Common.{◌⊎◌, inl, inr, ℕ, ◌+◌, ◌<◌, ◌≤◌, List, [], length, get_or, Option, Some, None, IfSome, option_map, unwrap_or, Vec, Global, sym, ap, subst, arith}
use Rattle.std.proofs.Math.ListN.{get_or-map as map-at}
use Rattle.std.proofs.lemmas.List.{get_or_past}
use Rattle.gate_values.specs.declared.logic.Logic.TheVariants.{X}
use Rattle.gate_values.specs.declared.logic.Change.{Change}
use Rattle.gate_values.specs.Changes.{latest}
use Rattle.gate_stimulus.specs.declared.timescale.Timescale.{Timescale}
use Rattle.gate_stimulus.specs.Given.{last_stamp, AreItsChanges, changes_of}
use Rattle.net_waves.specs.Waves.{lists_in}
use Rattle.net_waves.specs.Inner.Lists.{IsRising}
use Rattle.gate_stimulus.specs.Shown.Held.{AreLaidOut, given_by}
use Rattle.gate_stimulus.proofs.ChangesOf.{changes-none, latest-none, changes-rising}

pub its_rising : (cs : List Change) → AreItsChanges cs → IsRising cs
its_rising cs e = subst IsRising (sym e) (changes-rising (latest X cs) (last_stamp + 1))

lt_or_not : (n m : ℕ) → (n < m) ⊎ (m ≤ n)
lt_or_not n m = grind arith

-- where there is no list, there is no change
no_changes : AreItsChanges []
no_changes = sym (changes-none (latest X []) (last_stamp + 1) latest-none)

pub laid_changes : (timescale : Timescale) (lists : List (Vec Change Global)) (list_of : List (Option ℕ)) → AreLaidOut lists list_of → (n : ℕ) → AreItsChanges (changes_of (given_by timescale lists list_of) n)
laid_changes timescale lists list_of laid n =
    subst AreItsChanges (sym (ap (λ o. unwrap_or o []) (map-at (option_map (λ k. get_or (lists_in lists) k [])) list_of n None))) (at (lt_or_not n (length list_of)))
  where
    by : (o : Option ℕ) → IfSome o (λ k. (k < length lists) × AreItsChanges (get_or (lists_in lists) k [])) → AreItsChanges (unwrap_or (option_map (λ k. get_or (lists_in lists) k []) o) [])
    by None h = no_changes
    by (Some k) h = h.1

    at : (n < length list_of) ⊎ (length list_of ≤ n) → AreItsChanges (unwrap_or (option_map (λ k. get_or (lists_in lists) k []) (get_or list_of n None)) [])
    at (inl l) = by (get_or list_of n None) (laid n None l)
    at (inr g) = rw (get_or_past list_of n None g) no_changes
