use Rattle.std.proofs.Common.{[], get_or, sym, ap, ◌∙◌}
use Rattle.std.proofs.lemmas.List.Sums.{fold_more}
use Rattle.gate_netlist.specs.Bench.{with_last}
use Rattle.gate_netlist.proofs.reading.each_once.Goals as goal

pub loop-number-preserved : goal.loop-number-preserved
loop-number-preserved c =
    c.in_ok-insert.ensures.keys ∙ ap (λ ns. with_last ns (get_or c.args.numbers.now c.loop-number.number-index 0)) c.loop-number.invariant ∙ sym (fold_more with_last [] c.args.numbers.now c.loop-number.number-index 0 c.loop-number-test.true)
