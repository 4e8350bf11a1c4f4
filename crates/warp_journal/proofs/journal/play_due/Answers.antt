use Rattle.std.proofs.Common.{◌≤◌, [], arith}
use Rattle.warp_stores.specs.declared.least.TheConstants.{NEVER}
use Rattle.warp_stores.specs.Delays.{least_due}
use Rattle.warp_journal.specs.Books.{HasPlayed, HasStayed, all_of}
use Rattle.warp_journal.specs.Inner.Playing.{HasPassed}
use Rattle.warp_journal.proofs.Playing.{passed_none, may_go, mark_due, may_step, passed_step}
use Rattle.warp_journal.proofs.journal.play_due.Goals as goal

pub loop-due-init : goal.loop-due-init
loop-due-init c = (c.due-due.ensures, passed_none c.args.time c.args.journal.now c.requires.may.ahead)

pub pass-requires-clause-may : goal.pass-requires-clause-may
pass-requires-clause-may c =
    let bound : c.args.time ≤ NEVER = omega (arith, c.requires.time) in
    let low : c.loop-due.journal.mark ≤ least_due (all_of c.loop-due.journal.queues) = mark_due c.args.time c.args.journal.now c.loop-due.journal c.requires.may c.loop-due.invariant.1 bound in
    may_go c.args.time c.args.journal.now c.loop-due.journal c.requires.may c.loop-due.invariant.1 c.loop-due.due (omega (arith, c.loop-due-test.true)) (omega (arith, low, c.loop-due.invariant.0))

pub step-requires-clause-may : goal.step-requires-clause-may
step-requires-clause-may c =
    may_step c.args.time c.args.journal.now c.loop-due.journal c.requires.may c.loop-due.invariant.1 c.loop-due.due c.pass.new.self c.pass.ensures.mark c.pass.ensures.passed (omega (arith, c.loop-due-test.true)) c.loop-due-test.true

pub returns-in_err-step-clause-passed : goal.returns-in_err-step-clause-passed
returns-in_err-step-clause-passed c =
    let stayed : HasStayed c.pass.new.self.mark [] c.pass.new.self c.step.new.self = c.in_err-step.ensures.err in
    passed_step c.args.time c.args.journal.now c.loop-due.journal c.requires.may c.loop-due.invariant.1 c.loop-due.due c.pass.new.self c.pass.ensures.mark c.pass.ensures.passed (omega (arith, c.loop-due-test.true)) c.loop-due-test.true
    c.step.new.self (omega (arith, stayed.mark)) (omega (arith, stayed.mark, c.pass.ensures.mark, c.loop-due-test.true)) stayed.keeps

pub loop-due-smaller : goal.loop-due-smaller
loop-due-smaller c =
    let bound : c.args.time ≤ NEVER = omega (arith, c.requires.time) in
    let played : HasPlayed c.pass.new.self.mark [] c.pass.new.self c.step.new.self = c.in_ok-step.ensures.ok in
    let passed : HasPassed c.args.time c.args.journal.now c.step.new.self =
    passed_step c.args.time c.args.journal.now c.loop-due.journal c.requires.may c.loop-due.invariant.1 c.loop-due.due c.pass.new.self c.pass.ensures.mark c.pass.ensures.passed (omega (arith, c.loop-due-test.true)) c.loop-due-test.true
    c.step.new.self (omega (arith, played.mark)) (omega (arith, played.mark, c.pass.ensures.mark, c.loop-due-test.true)) played.keeps in
    let low : c.step.new.self.mark ≤ least_due (all_of c.step.new.self.queues) = mark_due c.args.time c.args.journal.now c.step.new.self c.requires.may passed bound in
    omega (arith, low, c.due-due-in-loop-due.ensures, played.mark, c.pass.ensures.mark, c.loop-due-test.true)

pub loop-due-preserved : goal.loop-due-preserved
loop-due-preserved c =
    let played : HasPlayed c.pass.new.self.mark [] c.pass.new.self c.step.new.self = c.in_ok-step.ensures.ok in (
      c.due-due-in-loop-due.ensures,
      passed_step c.args.time c.args.journal.now c.loop-due.journal c.requires.may c.loop-due.invariant.1 c.loop-due.due c.pass.new.self c.pass.ensures.mark c.pass.ensures.passed (omega (arith, c.loop-due-test.true)) c.loop-due-test.true
          c.step.new.self (omega (arith, played.mark)) (omega (arith, played.mark, c.pass.ensures.mark, c.loop-due-test.true)) played.keeps,
    )
