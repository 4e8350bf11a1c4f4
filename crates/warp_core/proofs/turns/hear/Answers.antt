use Rattle.std.proofs.Common.{◌<◌, length, arith}
use Rattle.warp_core.proofs.Delivering.{deliverable}
use Rattle.warp_core.proofs.Leaving.{left-le}
use Rattle.warp_core.proofs.TurnSteps.{place_within, for_block, at_rank, rank_of, is_within, heard_open, heard_reached, heard_before, heard_later}
use Rattle.warp_core.specs.Inner.Turns.{place_in, scene_left}
use Rattle.warp_core.proofs.turns.hear.Goals as goal

pub index-message-requires : goal.index-message-requires
index-message-requires c =
    let room : c.args.number < length c.args.heard.now.items = (let n = c.requires.stands.count in omega (arith, n, c.requires.within)) in
    let there = place_within c.args.course.now c.args.blocks.now.items c.args.flight.now.items c.args.heard.now.items c.requires.stands c.args.number c.args.place c.requires.first.0 c.requires.first.1 room in
    omega (arith, there, c.args.flight.now.ok.0)

pub receive_one-requires-clause-block : goal.receive_one-requires-clause-block
receive_one-requires-clause-block c =
    let room : c.args.number < length c.args.heard.now.items = (let n = c.requires.stands.count in omega (arith, n, c.requires.within)) in
    let e = for_block c.args.course.now c.args.blocks.now.items c.args.flight.now.items c.args.heard.now.items c.requires.stands c.args.number c.args.place c.requires.first.0 c.requires.first.1 room c.index-message.result.now c.index-message.ensures in
    let n = c.requires.stands.law.count in
    omega (arith, e, n, c.requires.within)

pub receive_one-requires-clause-taken : goal.receive_one-requires-clause-taken
receive_one-requires-clause-taken c =
    let co = c.args.course.now in
    let bs = c.args.blocks.now.items in
    let fl = c.args.flight.now.items in
    let hs = c.args.heard.now.items in
    let m = c.index-message.result.now in
    let room : c.args.number < length hs = (let n = c.requires.stands.count in omega (arith, n, c.requires.within)) in
    let le = left-le (place_in hs) 0 fl in
    deliverable (scene_left co bs fl hs) c.requires.stands.law (rank_of co bs fl hs c.requires.stands c.args.number c.args.place c.requires.first.0 c.requires.first.1 room m c.index-message.ensures) m
    (is_within co bs fl hs c.requires.stands c.args.number c.args.place c.requires.first.0 c.requires.first.1 room m c.index-message.ensures)
    (at_rank co bs fl hs c.requires.stands c.args.number c.args.place c.requires.first.0 c.requires.first.1 room m c.index-message.ensures)
    (omega (arith, le, c.args.flight.now.ok.0, c.args.flight.now.ok.1, c.args.flight.now.small))

pub overflow_add-place : goal.overflow_add-place
overflow_add-place c =
    let room : c.args.number < length c.args.heard.now.items = (let n = c.requires.stands.count in omega (arith, n, c.requires.within)) in
    let there = place_within c.args.course.now c.args.blocks.now.items c.args.flight.now.items c.args.heard.now.items c.requires.stands c.args.number c.args.place c.requires.first.0 c.requires.first.1 room in
    omega (arith, there, c.args.flight.now.ok.0, c.args.flight.now.ok.1, c.args.flight.now.small)

pub returns-clause-stands : goal.returns-clause-stands
returns-clause-stands c =
    let room : c.args.number < length c.args.heard.now.items = (let n = c.requires.stands.count in omega (arith, n, c.requires.within)) in
    let given = c.in-Ok.ensures in
    heard_open c.args.course.now c.args.blocks.now.items c.args.flight.now.items c.args.heard.now.items c.requires.stands c.args.number c.args.place c.requires.first.0 c.requires.first.1 room c.index-message.result.now c.index-message.ensures
    c.receive_one.new.blocks.items c.receive_one.new.flight.items given.others given.taken given.lawful given.sends

pub returns-clause-reached : goal.returns-clause-reached
returns-clause-reached c =
    let room : c.args.number < length c.args.heard.now.items = (let n = c.requires.stands.count in omega (arith, n, c.requires.within)) in
    let given = c.in-Ok.ensures in
    heard_reached c.args.course.now c.args.blocks.now.items c.args.flight.now.items c.args.heard.now.items c.requires.stands c.args.number c.args.place c.requires.first.0 c.requires.first.1 room c.index-message.result.now c.index-message.ensures
    c.receive_one.new.blocks.items c.receive_one.new.flight.items given.others given.taken given.lawful given.sends

pub returns-clause-never_earlier : goal.returns-clause-never_earlier
returns-clause-never_earlier c =
    let room : c.args.number < length c.args.heard.now.items = (let n = c.requires.stands.count in omega (arith, n, c.requires.within)) in
    let given = c.in-Ok.ensures in
    heard_before c.args.course.now c.args.blocks.now.items c.args.flight.now.items c.args.heard.now.items c.requires.stands c.args.number c.args.place c.requires.first.0 c.requires.first.1 room c.index-message.result.now c.index-message.ensures
    c.receive_one.new.blocks.items c.receive_one.new.flight.items given.others given.taken given.lawful given.sends

pub returns-clause-sent : goal.returns-clause-sent
returns-clause-sent c =
    let room : c.args.number < length c.args.heard.now.items = (let n = c.requires.stands.count in omega (arith, n, c.requires.within)) in
    let given = c.in-Ok.ensures in
    heard_later c.args.course.now c.args.blocks.now.items c.args.flight.now.items c.args.heard.now.items c.requires.stands c.args.number c.args.place c.requires.first.0 c.requires.first.1 room c.index-message.result.now c.index-message.ensures
    c.receive_one.new.blocks.items c.receive_one.new.flight.items given.others given.taken given.lawful given.sends
