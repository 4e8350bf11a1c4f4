use Rattle.std.proofs.Common.{◌≡◌, ◌∙◌, ℕ, [], ◌+◌, length, ap, sym, arith}
use Rattle.std.proofs.lemmas.Bool.{eqb-true}
use Rattle.warp_engine.specs.Runs.{makings}
use Rattle.warp_block.proofs.Outplayed.{out_tells, none_dated}
use Rattle.warp_block.proofs.Resting.{done_up}
use Rattle.warp_block.proofs.ending.play_out.Goals as goal

pub returns-clause-tell : goal.returns-clause-tell
returns-clause-tell c = λ empty.
    let old = c.args.engine.now in
    let run = c.play_quiet.new.engine in
    let few : length c.words.result.now ≡ 0 = eqb-true (length c.words.result.now) 0 (sym c.is_empty.ensures ∙ empty) in
    let none : c.tell_since.new.batch ≡ [] = none_dated c.tell_since.new.batch (ap length (sym c.words.ensures) ∙ few) in
    let mark : run.book.mark ≡ c.args.heard.now.horizon + 1 = c.in_ok-play_quiet.ensures.mark c.if-not-branch.false in
    let low = c.requires.at.engine.run.is.low in
    let within = c.requires.at.within in
    out_tells c.args.heard.now c.args.times.now.first old run c.play_quiet.ensures.engine low (omega (arith, mark, within)) mark
    (ap (λ (step : ℕ). makings step run) (sym c.mark-mark.ensures) ∙ sym c.in_ok-tell_since.ensures ∙ none)

pub returns-clause-done : goal.returns-clause-done
returns-clause-done c = λ empty. done_up c.args.heard.now c.args.engine.now c.args.times.now c.requires.at (c.in_ok-play_quiet.ensures.done c.if-not-branch.false)
