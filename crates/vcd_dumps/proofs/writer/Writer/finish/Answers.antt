use Rattle.std.proofs.Common.{[], refl, arith}
use Rattle.byte_sinks.proofs.Passing.{passes_as, passes_then}
use Rattle.vcd_dumps.proofs.Writing.{whole}
use Rattle.vcd_dumps.proofs.writer.Writer.finish.Goals as goal

pub returns : goal.returns
returns c = λ head stops lists taken are waves until.
    let begun = c.begin.ensures.begun (let many = taken.many in let few = taken.few in omega (arith, many, few)) in
    let now = c.begin.ensures.taken head _ stops taken in
    let text = passes_then (now.text begun) c.put_tail.ensures in
    c.taken.ensures [] _ (record { text = _; went = passes_as (whole head lists stops c.args.horizon c.begin.new.self waves until are now) text; all = refl })
