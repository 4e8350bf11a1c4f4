use Rattle.bit_compare.proofs.Agreeing.{alike-until}
use Rattle.bit_compare.proofs.difference.alike_until.Goals as goal

pub returns : goal.returns
returns c = rw (c.lesser-2.ensures, c.lesser-held.ensures, c.lesser.ensures)
    (alike-until c.args.how.now c.args.expected.now c.args.actual.now c.requires c.until.result c.until-2.result c.near_until-known.result c.expected_until-taken.result c.until.ensures c.until-2.ensures (rw c.value.ensures at c.near_until-known.ensures) (rw c.value-2.ensures at c.expected_until-taken.ensures))
