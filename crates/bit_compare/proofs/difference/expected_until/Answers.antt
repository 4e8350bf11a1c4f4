use Rattle.std.proofs.Common.{inl, inr, refl, arith}
use Rattle.bit_compare.proofs.Agreeing.{expected-alone, expected-either}
use Rattle.bit_compare.proofs.difference.expected_until.Goals as goal

pub returns-then-not-how : goal.returns-then-not-how
returns-then-not-how c = expected-alone c.args.how.now c.args.expected.now c.requires.within c.args.found c.near_until-end.result c.near_until-end.ensures c.if-not-how.true

pub returns-then-free-end : goal.returns-then-free-end
returns-then-free-end c =
    expected-either c.args.how.now c.args.expected.now c.requires.within c.args.found c.near_until-end.result c.near_until-free.result c.near_until-end.result c.near_until-end.ensures c.near_until-free.ensures c.if-not-how.false (inl refl) (omega arith) (omega arith)

pub returns-else-free-end : goal.returns-else-free-end
returns-else-free-end c =
    expected-either c.args.how.now c.args.expected.now c.requires.within c.args.found c.near_until-end.result c.near_until-free.result c.near_until-free.result c.near_until-end.ensures c.near_until-free.ensures c.if-not-how.false (inr refl) (omega arith) (omega arith)
