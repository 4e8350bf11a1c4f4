use Rattle.std.proofs.Common.{◌++◌, [], refl, ◌∙◌, ap}
use Rattle.vcd_dumps.proofs.PieceLaws.{goes-new}
use Rattle.vcd_dumps.proofs.workers.with_tail.Goals as goal

pub returns : goal.returns
returns c =
    let tail = c.in_ok-tail.ensures [] _ (goes-new _ _ _ _ _ _ c.new-sink.ensures c.new-lot.ensures (record { text = _; went = c.put_tail.ensures; all = refl })) in
    c.in_ok-extend_from_slice.ensures.items ∙ ap (λ l. c.args.text.items ++ l) (c.as_slice.ensures.value ∙ tail)
