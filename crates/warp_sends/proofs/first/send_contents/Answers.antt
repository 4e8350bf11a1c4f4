use Rattle.std.proofs.Common.{◌<◌, length, arith}
use Rattle.warp_sends.proofs.Contents.{first_more}
use Rattle.warp_sends.proofs.first.send_contents.Goals as goal

pub loop-slot-preserved : goal.loop-slot-preserved
loop-slot-preserved c =
    let l : c.loop-slot.slot < length c.args.part.now.nets = omega (arith, c.loop-slot-test.true, c.len-slot-end.ensures.count) in
    first_more c.args.part.now c.law.ensures c.loop-slot.slot l c.args.out.now.items c.loop-slot.out.items c.send_content.new.out.items c.net.result c.initial.result c.readers.result.now
    c.net.ensures c.initial.ensures c.readers.ensures c.loop-slot.invariant c.in_ok-send_content.ensures.ok
