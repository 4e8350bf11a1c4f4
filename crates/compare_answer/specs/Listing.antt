-- Which of the bits that differ are listed, and in which order.
use Rattle.std.specs.Prelude.{ℕ, ◌==◌, if◌then◌else◌, List, take}
use Rattle.std.specs.List.Sorted.{IsNonDecreasingBy, IsPermutation, IsStableByKey}
use Rattle.std.specs.Ordering.{nat_cmp}
use Rattle.vcd_compare.specs.declared.report.Differing.{Differing}

-- the first compared time at which a bit differs
abbrev pub time_of : Differing → ℕ
time_of d = d.difference.time

-- the same bits by the first times at which they differ; those of one time stand as they stood
pub record AreByTime (found shown : List Differing) : Type 0 where
  pub same : IsPermutation found shown
  pub rising : IsNonDecreasingBy time_of shown
  pub stable : IsStableByKey time_of nat_cmp found shown

-- at most so many of them, or all at 0
abbrev pub at_most : ℕ → List Differing → List Differing
at_most most shown = if most == 0 then shown else take most shown
