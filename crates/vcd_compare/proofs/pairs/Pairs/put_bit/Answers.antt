use Rattle.std.proofs.Common.{refl, sym}
use Rattle.gate_vcd.specs.Shown.Known.{source}
use Rattle.vcd_bits.specs.Shown.Tables.{bit_by, bits_in}
use Rattle.vcd_compare.proofs.PairLaws.{on-ok, pairs-passed, pairs-taken}
use Rattle.vcd_compare.proofs.pairs.Pairs.put_bit.Goals as goal

pub returns-in-Some-clause-ok : goal.returns-in-Some-clause-ok
returns-in-Some-clause-ok c bits e are =
    on-ok c.push.result (λ takes. pairs-taken bits (bits_in c.args.actual.now) c.args.number (bit_by c.args.name.now (source c.args.source)) (source c.in-Some.other) c.args.source c.in-Some.other c.args.self.now c.push.new.self e (sym c.in-Some.ensures) refl refl takes are) c.push.ensures.ok

pub returns-in-None-clause-ok : goal.returns-in-None-clause-ok
returns-in-None-clause-ok c bits e are = pairs-passed bits (bits_in c.args.actual.now) bits c.args.number (bit_by c.args.name.now (source c.args.source)) c.args.self.now e (sym c.in-None.ensures) are
