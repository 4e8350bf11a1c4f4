use Rattle.std.proofs.Common.{◌<◌, length, arith}
use Rattle.history_waves.proofs.Pending.{taken_one}
use Rattle.history_waves.proofs.several.list_one.Goals as goal

pub returns-in_ok-push-clause-taken : goal.returns-in_ok-push-clause-taken
returns-in_ok-push-clause-taken c =
    let there : c.args.place < length c.args.untold.now = omega (arith, c.if-place-untold.false) in
    taken_one c.args.given.now c.args.from c.in_ok-next.next c.args.time c.args.untold.now c.args.place c.tell.new.self c.index-untold-place.result c.args.moves.now.items c.tell.new.moves.items there
    c.in_ok-next.ensures.taken

pub returns-in_default-clause-taken : goal.returns-in_default-clause-taken
returns-in_default-clause-taken c =
    let there : c.args.place < length c.args.untold.now = omega (arith, c.if-place-untold.false) in
    taken_one c.args.given.now c.args.from c.in_ok-next.next c.args.time c.args.untold.now c.args.place c.tell.new.self c.index-untold-place.result c.args.moves.now.items c.tell.new.moves.items there
    c.in_ok-next.ensures.taken
