use Rattle.std.proofs.Common.{◌≡◌, ◌≤◌, map, sym, subst, arith}
use Rattle.warp_engine.specs.Runs.{Run}
use Rattle.warp_process.specs.Lawful.{lawful_log}
use Rattle.warp_process.specs.View.{View, Process}
use Rattle.warp_block.specs.Shown.Block.{mark_by, seen_by}
use Rattle.warp_block.proofs.Resting.{rest_lawful, seen_back, seen_stays}
use Rattle.warp_block.proofs.kernel.Kernel.give_up.Goals as goal

pub returns-then-time-mark : goal.returns-then-time-mark
returns-then-time-mark c =
    let v : View = c.self.inside.heard in
    let run : Run = c.self.inside.engine in
    let P : Process → Type 0 = λ p. seen_by v c.give_up.new.engine ≡ record p.seen { mark = c.args.time; logs = map (lawful_log (record p.seen { mark = c.args.time })) p.seen.part.nets } in
    let floor : v.floor ≤ c.args.time = subst (λ (p : Process). p.seen.floor ≤ c.args.time) (sym c.self.view_is) c.requires.floor in
    subst P c.self.view_is (seen_back v run c.give_up.new.engine c.args.time c.give_up.ensures.mark floor)

pub returns-else-time-mark : goal.returns-else-time-mark
returns-else-time-mark c =
    let v : View = c.self.inside.heard in
    let run : Run = c.self.inside.engine in
    let P : Process → Type 0 = λ p. p.seen ≡ record p.seen { mark = c.args.time; logs = map (lawful_log (record p.seen { mark = c.args.time })) p.seen.part.nets } in
    let floor : v.floor ≤ c.args.time = subst (λ (p : Process). p.seen.floor ≤ c.args.time) (sym c.self.view_is) c.requires.floor in
    let high : c.args.time ≤ mark_by v run = subst (λ (p : Process). c.args.time ≤ p.seen.mark) (sym c.self.view_is) c.requires.mark in
    let same : mark_by v run ≡ c.args.time = omega (arith, floor, high, c.if-time-mark.false, c.mark.ensures) in
    subst P c.self.view_is (seen_stays (seen_by v run) (rest_lawful v run c.self.inside.times c.self.invariant.at) c.args.time same)
