use Rattle.std.proofs.Common.{◌≡◌, ℕ, take}
use Rattle.warp_part.specs.Inner.Building.{is_used_among}
use Rattle.warp_part.specs.Inner.Uses.{noted, AreNotes}
use Rattle.warp_part.proofs.part.uses.uses_of.Given as goal

abbrev pub invariant-loop-net : goal.invariant-loop-net
invariant-loop-net l = record {
  lawful : AreNotes l.cut l.block l.own l.marks.items l.others.items;
  noted : (n : ℕ) → noted l.own l.marks.items l.others.items n ≡ is_used_among l.circuit (take l.net-index l.own) n;
}
