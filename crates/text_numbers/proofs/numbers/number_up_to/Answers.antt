use Rattle.std.proofs.Common.{◌*◌, ◌+◌, ◌∙◌, sym, drop, arith}
use Rattle.std.proofs.lemmas.List.{drop_all}
use Rattle.text_numbers.proofs.NumberLaws.{number-drop, too_large, all_read}
use Rattle.text_numbers.proofs.numbers.number_up_to.Goals as goal

pub returns-then-number-most : goal.returns-then-number-most
returns-then-number-most c =
    let step = number-drop c.loop-byte.number c.args.digits.now c.loop-byte.byte-index c.loop-byte-test.true in
    too_large c.args.most (c.loop-byte.number * 10 + c.saturating_sub.result) (drop (c.loop-byte.byte-index + 1) c.args.digits.now) c.args.digits.now (rw c.saturating_sub.ensures (sym step ∙ c.loop-byte.invariant.rest)) c.if-number-most.true

pub loop-byte-preserved : goal.loop-byte-preserved
loop-byte-preserved c =
    let step = number-drop c.loop-byte.number c.args.digits.now c.loop-byte.byte-index c.loop-byte-test.true in
    record { rest = rw c.saturating_sub.ensures (sym step ∙ c.loop-byte.invariant.rest); within = omega arith }

pub returns : goal.returns
returns c =
    all_read c.args.most c.loop-byte.number c.args.digits.now (rw (drop_all c.loop-byte.byte-index c.args.digits.now c.loop-byte-test.false) at c.loop-byte.invariant.rest) c.loop-byte.invariant.within
