use Rattle.std.proofs.Common.{refl, arith}
use Rattle.gate_vcd.proofs.Bundling.{room-same}
use Rattle.gate_vcd.proofs.bundles.make_room_at.Goals as goal

pub returns-in_ok-reserve-in-Some-clause-ok : goal.returns-in_ok-reserve-in-Some-clause-ok
returns-in_ok-reserve-in-Some-clause-ok c =
    room-same c.args.lists.now.items c.args.number c.in-Some.list.now c.reserve.new.self (omega (arith, c.in-Some.ensures.variant.0 refl, c.args.lists.now.ok)) c.in-Some.ensures.value c.reserve.ensures.items
