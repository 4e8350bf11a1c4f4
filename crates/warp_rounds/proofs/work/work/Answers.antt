use Rattle.std.proofs.Common.{rules}
use Rattle.warp_rounds.proofs.Working.{visited_none, visited_more, visited_over, visited_faulty, some_block}
use Rattle.warp_rounds.proofs.work.work.Goals as goal

pub loop-init : goal.loop-init
loop-init g c = let played = visited_none _ c.args.order.floor c.args.order.window _ c.requires.ready.seat in search rules

pub loop-preserved : goal.loop-preserved
loop-preserved g c =
    let played = visited_more _ _ _ _ _ _ _ _ c.loop.invariant.played c.in-Some-draw.ensures.drawn c.in-Ok.ensures.visits in
    search rules

pub returns-in_default : goal.returns-in_default
returns-in_default g c = visited_over _ _ _ _ _ _ _ _ _ c.loop.invariant.played c.in_default.ensures.marked c.report.ensures.reported c.loop.invariant.well

pub returns-in-Err : goal.returns-in-Err
returns-in-Err g c = visited_faulty _ _ _ _ _ _ _ _ _ c.loop.invariant.played c.in-Some-draw.ensures.drawn c.in-Err.ensures.fault

pub play_drawn-requires : goal.play_drawn-requires
play_drawn-requires g c = some_block _ _ _ c.requires.count c.in-Some-draw.ensures.below
