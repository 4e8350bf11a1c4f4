use Rattle.std.proofs.Common.{◌≡◌, ◌≤◌, ◌<◌, arith}
use Rattle.warp_process.specs.View.{busy_times}
use Rattle.warp_rounds.proofs.Accounting.{room_back, received_back, received_on, back_from, back_until}
use Rattle.warp_rounds.proofs.counts.receive.Goals as goal

pub roll_back-requires : goal.roll_back-requires
roll_back-requires g c =
    let back : c.receive.new.self.seen.mark < c.args.block.now.seen.mark = omega (arith, c.if-mark.true, c.mark.ensures, c.mark-mark.ensures) in
    let told : c.finished_after-undone.result ≡ busy_times c.args.block.now.seen c.args.message.time c.args.block.now.seen.mark =
    c.finished_after-undone.ensures
    (back_from c.args.block.now.seen c.receive.new.self.seen c.args.message c.law.ensures.seen c.law-in-Ok.ensures.seen c.in-Ok.ensures.taken back)
    (back_until c.args.block.now.seen c.receive.new.self.seen c.args.message c.law.ensures.seen c.law-in-Ok.ensures.seen c.in-Ok.ensures.taken back) in
    room_back c.args.block.now.seen c.receive.new.self.seen c.args.message c.law.ensures.seen c.law-in-Ok.ensures.seen c.in-Ok.ensures.taken
    c.args.counts.now c.finished_after-undone.result c.requires.counted back told

pub returns-then-mark-clause-counted : goal.returns-then-mark-clause-counted
returns-then-mark-clause-counted g c =
    let back : c.receive.new.self.seen.mark < c.args.block.now.seen.mark = omega (arith, c.if-mark.true, c.mark.ensures, c.mark-mark.ensures) in
    let told : c.finished_after-undone.result ≡ busy_times c.args.block.now.seen c.args.message.time c.args.block.now.seen.mark =
    c.finished_after-undone.ensures
    (back_from c.args.block.now.seen c.receive.new.self.seen c.args.message c.law.ensures.seen c.law-in-Ok.ensures.seen c.in-Ok.ensures.taken back)
    (back_until c.args.block.now.seen c.receive.new.self.seen c.args.message c.law.ensures.seen c.law-in-Ok.ensures.seen c.in-Ok.ensures.taken back) in
    received_back c.args.block.now.seen c.receive.new.self.seen c.args.message c.law.ensures.seen c.law-in-Ok.ensures.seen c.in-Ok.ensures.taken
    c.args.counts.now c.roll_back.new.self c.finished_after-undone.result c.requires.counted back told c.roll_back.ensures.since c.roll_back.ensures.steps c.roll_back.ensures.undone

pub returns-else-mark-clause-counted : goal.returns-else-mark-clause-counted
returns-else-mark-clause-counted g c =
    let on : c.args.block.now.seen.mark ≤ c.receive.new.self.seen.mark = omega (arith, c.if-mark.false, c.mark.ensures, c.mark-mark.ensures) in
    received_on c.args.block.now.seen c.receive.new.self.seen c.args.message c.law.ensures.seen c.law-in-Ok.ensures.seen c.in-Ok.ensures.taken c.args.counts.now c.requires.counted on
