use Rattle.std.proofs.Common.{sym, ◌∙◌}
use Rattle.gate_vcd.proofs.Links.{slice_get-is}
use Rattle.vcd_bits.specs.Shown.Tables.{bits_in}
use Rattle.vcd_compare.proofs.AloneLaws.{no_bit}
use Rattle.vcd_compare.proofs.PairLaws.{nothing-some}
use Rattle.vcd_compare.proofs.pairs.Pairs.put.Goals as goal

pub returns-in-Some-clause-ok : goal.returns-in-Some-clause-ok
returns-in-Some-clause-ok c are = c.put_bit.ensures.ok (bits_in c.args.expected.now) (sym c.in-Some.ensures) are

pub returns-in-None-clause-ok : goal.returns-in-None-clause-ok
returns-in-None-clause-ok c are = absurd (nothing-some (c.in-None.ensures ∙ slice_get-is (bits_in c.args.expected.now) c.args.number no_bit c.requires))
