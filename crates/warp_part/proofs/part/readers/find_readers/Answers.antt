use Rattle.std.proofs.Common.{sym}
use Rattle.warp_part.proofs.PartReaders.{owners_are}
use Rattle.warp_part.proofs.part.readers.find_readers.Goals as goal

pub returns-then-is_own : goal.returns-then-is_own
returns-then-is_own c =
    let owners = rw c.readers.ensures at c.in_ok-add_owners.ensures.owners in
    owners_are c.args.circuit.now c.args.cut.now c.args.block c.args.net c.add_owners.new.list.items c.law.ensures (sym c.if-is_own.ensures) c.in_ok-add_owners.ensures.rising owners
