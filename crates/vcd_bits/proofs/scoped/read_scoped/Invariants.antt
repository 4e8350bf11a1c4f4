use Rattle.std.proofs.Common.{◌≡◌, None, length}
use Rattle.vcd_bits.specs.Scopes.{Scoped, declaring, nothing_declared}
use Rattle.vcd_bits.specs.Inner.Held.{IsScoped}
use Rattle.vcd_bits.proofs.scoped.read_scoped.Given as goal

-- the reading goes on from the declarations so far
abbrev pub invariant-loop-first : goal.invariant-loop-first
invariant-loop-first l = (s : Scoped) × IsScoped l.scoped s × (declaring s None l.words ≡ declaring nothing_declared None l.initial.words)

abbrev pub decreases-loop-first : goal.decreases-loop-first
decreases-loop-first l = length l.words
