use Rattle.std.proofs.Common.{◌≡◌, ◌<◌, ℕ, get_or, true}
use Rattle.gate_values.specs.declared.logic.Change.{Change}
use Rattle.bit_compare.specs.Inner.Moments.{is_gone}
use Rattle.bit_compare.specs.Shown.Moments.{lens}
use Rattle.bit_compare.proofs.shown.gone.Given as goal

-- the changes so far are gone
abbrev pub invariant-loop-count : goal.invariant-loop-count
invariant-loop-count l = (i : ℕ) (d : Change) → i < l.count → is_gone (lens l.scale l.later l.earlier) (get_or l.changes i d).time ≡ true
