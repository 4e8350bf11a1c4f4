use Rattle.std.proofs.Common.{ap, ◌∙◌, arith}
use Rattle.gate_stimulus.specs.Given.{changes_of}
use Rattle.bit_compare.specs.Bits.{value_through}
use Rattle.bit_compare.specs.Shown.Moments.{shown}
use Rattle.vcd_compare.specs.Inner.Sights.{actual_through, expected_through}
use Rattle.vcd_compare.proofs.SightLaws.{changes-rise, changes-small, found-same}
use Rattle.vcd_compare.proofs.sight.Sight.difference.Goals as goal

pub new-shown-requires-clause-rising : goal.new-shown-requires-clause-rising
new-shown-requires-clause-rising c = rw c.changes.ensures (changes-rise (changes_of c.args.expected.now c.args.pair) (c.law.ensures c.args.pair))

pub new-shown-requires-clause-small : goal.new-shown-requires-clause-small
new-shown-requires-clause-small c = rw c.changes.ensures (changes-small (changes_of c.args.expected.now c.args.pair) c.args.self.now.scale 0 0 (c.law.ensures c.args.pair) c.requires.scale (omega arith) (omega arith))

pub new-looked-requires-clause-rising : goal.new-looked-requires-clause-rising
new-looked-requires-clause-rising c = rw c.changes-2.ensures (changes-rise (changes_of c.args.actual.now c.args.pair) (c.law-2.ensures c.args.pair))

pub new-looked-requires-clause-small : goal.new-looked-requires-clause-small
new-looked-requires-clause-small c = rw c.changes-2.ensures (changes-small (changes_of c.args.actual.now c.args.pair) c.args.self.now.own c.args.self.now.later c.args.self.now.earlier (c.law-2.ensures c.args.pair) c.requires.own c.requires.later c.requires.earlier)

pub returns : goal.returns
returns c =
    found-same c.args.self.now.how c.args.self.now.times (shown c.new-shown.result) _ (shown c.new-looked.result) _ c.first_difference.result
    (λ t. c.new-shown.ensures.values t ∙ ap (λ cs. value_through (expected_through c.args.self.now) cs t) c.changes.ensures)
    (λ t. c.new-looked.ensures.values t ∙ ap (λ cs. value_through (actual_through c.args.self.now) cs t) c.changes-2.ensures)
    c.first_difference.ensures
