use Rattle.std.proofs.Common.{◌∙◌, suc, ap, arith}
use Rattle.std.proofs.lemmas.Result.{on_ok_weaker, on_err_weaker}
use Rattle.warp_journal.proofs.Parting.{on_err}
use Rattle.warp_journal.proofs.Playing.{may_pass, may_go, may_end, ended, some_passed}
use Rattle.warp_journal.proofs.journal.play.Goals as goal

pub play_due-requires-clause-may : goal.play_due-requires-clause-may
play_due-requires-clause-may c = may_pass c.args.time c.args.outside.now c.args.journal.now c.requires.may

pub returns-in_err-play_due-clause-err : goal.returns-in_err-play_due-clause-err
returns-in_err-play_due-clause-err c = on_err c.from_residual.result (some_passed c.args.time c.args.outside.now c.args.journal.now c.play_due.new.journal c.play_due.ensures.passed)

pub pass-requires-clause-may : goal.pass-requires-clause-may
pass-requires-clause-may c =
    may_go c.args.time c.args.journal.now c.play_due.new.journal (may_pass c.args.time c.args.outside.now c.args.journal.now c.requires.may) c.play_due.ensures.passed c.args.time (omega arith) c.play_due.ensures.passed.to

pub step-requires-clause-may : goal.step-requires-clause-may
step-requires-clause-may c = may_end c.args.time c.args.outside.now c.args.journal.now c.play_due.new.journal c.pass.new.self c.requires.may c.play_due.ensures.passed c.pass.ensures.mark c.pass.ensures.passed

pub returns-clause-ok : goal.returns-clause-ok
returns-clause-ok c =
    on_ok_weaker c.step.result (λ played. record {
      mark = played.mark ∙ ap suc c.pass.ensures.mark;
      keeps = ended c.args.time c.args.outside.now c.args.journal.now c.play_due.new.journal c.pass.new.self c.requires.may c.play_due.ensures.passed c.pass.ensures.mark c.pass.ensures.passed c.step.new.self played.keeps;
    }) c.step.ensures.ok

pub returns-clause-err : goal.returns-clause-err
returns-clause-err c =
    on_err_weaker c.step.result (λ stayed. record {
      from = omega (arith, stayed.mark, c.pass.ensures.mark, c.requires.may.ahead);
      keeps = ended c.args.time c.args.outside.now c.args.journal.now c.play_due.new.journal c.pass.new.self c.requires.may c.play_due.ensures.passed c.pass.ensures.mark c.pass.ensures.passed c.step.new.self stayed.keeps;
    }) c.step.ensures.err
