use Rattle.std.proofs.Common.{◌≡◌, ℕ, ◌||◌, take}
use Rattle.warp_part.specs.Inner.Building.{has}
use Rattle.warp_part.specs.Inner.Uses.{noted, AreNotes}
use Rattle.warp_part.proofs.part.uses.note_all.Given as goal

abbrev pub invariant-loop-net : goal.invariant-loop-net
invariant-loop-net l = record {
  lawful : AreNotes l.cut l.block l.own l.marks.items l.others.items;
  noted : (n : ℕ) → noted l.own l.marks.items l.others.items n ≡ (noted l.own l.initial.marks.items l.initial.others.items n || has (take l.net-index l.nets) n);
}
