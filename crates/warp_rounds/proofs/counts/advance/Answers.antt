use Rattle.std.proofs.Common.{arith}
use Rattle.warp_rounds.proofs.Accounting.{advanced_small, advanced_counted}
use Rattle.warp_rounds.proofs.counts.advance.Goals as goal

pub advance-requires-in-Ok-clause-kept : goal.advance-requires-in-Ok-clause-kept
advance-requires-in-Ok-clause-kept g c =
    let small = advanced_small c.args.block.now.seen c.advance.new.self.seen c.in-Ok.finished c.args.counts.now c.law.ensures.seen c.law-in-Ok.ensures.seen
    c.in-Ok.ensures.ok c.requires.counted in
    omega (arith, small, c.from.ensures)

pub advance-requires-in-Err-clause-kept : goal.advance-requires-in-Err-clause-kept
advance-requires-in-Err-clause-kept g c =
    let (count, fewer, advanced) = c.in-Err.ensures.some in
    let small = advanced_small c.args.block.now.seen c.advance.new.self.seen count c.args.counts.now c.law.ensures.seen c.law-in-Err.ensures.seen
    advanced c.requires.counted in
    let told = rw c.mark-mark.ensures at c.finished_from.ensures in
    let is = advanced.finished in
    omega (arith, small, told, is)

pub returns-in-Ok-clause-counted : goal.returns-in-Ok-clause-counted
returns-in-Ok-clause-counted g c =
    advanced_counted c.args.block.now.seen c.advance.new.self.seen c.in-Ok.finished c.args.counts.now c.advance-in-Ok.new.self c.law.ensures.seen c.law-in-Ok.ensures.seen
    c.in-Ok.ensures.ok c.requires.counted c.advance-in-Ok.ensures.since c.advance-in-Ok.ensures.undone (omega (arith, c.advance-in-Ok.ensures.kept, c.from.ensures))

pub returns-in-Err-clause-counted : goal.returns-in-Err-clause-counted
returns-in-Err-clause-counted g c =
    let (count, fewer, advanced) = c.in-Err.ensures.some in
    let told = rw c.mark-mark.ensures at c.finished_from.ensures in
    let is = advanced.finished in
    advanced_counted c.args.block.now.seen c.advance.new.self.seen count c.args.counts.now c.advance-in-Err.new.self c.law.ensures.seen c.law-in-Err.ensures.seen
    advanced c.requires.counted c.advance-in-Err.ensures.since c.advance-in-Err.ensures.undone (omega (arith, c.advance-in-Err.ensures.kept, told, is))
