use Rattle.std.proofs.Common.{◌≤◌, sym, subst, ◌∙◌, arith}
use Rattle.warp_process.specs.Played.{was_busy}
use Rattle.warp_process.specs.View.{Process}
use Rattle.warp_block.specs.Shown.Block.{mark_by}
use Rattle.warp_block.proofs.Times.{times_from_cut}
use Rattle.warp_block.proofs.Resting.{rest_times, count_same}
use Rattle.warp_block.proofs.kernel.Kernel.finished_from.Goals as goal

pub returns : goal.returns
returns c =
    let v = c.self.inside.heard in
    let run = c.self.inside.engine in
    let played = c.self.inside.times in
    let rest = c.self.invariant.at in
    let low : v.floor ≤ c.args.time = subst (λ (p : Process). p.seen.floor ≤ c.args.time) (sym c.self.view_is) c.requires.floor in
    let high : c.args.time ≤ mark_by v run = subst (λ (p : Process). c.args.time ≤ p.seen.mark) (sym c.self.view_is) c.requires.mark in
    let oldest = rest.low in
    let counted = times_from_cut (was_busy v) played.first (mark_by v run) c.args.time played.times (rest_times v run played rest) (omega (arith, oldest, low)) high in
    let same = count_same v run played rest c.args.time (mark_by v run) (omega arith) in
    rw (← c.self.view_is) (c.count_from.ensures ∙ counted ∙ sym same)
