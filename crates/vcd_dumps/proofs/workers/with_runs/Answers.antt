use Rattle.std.proofs.Common.{◌++◌, [], refl, ◌∙◌, ap}
use Rattle.vcd_dumps.proofs.PieceLaws.{goes-new}
use Rattle.vcd_dumps.proofs.workers.with_runs.Goals as goal

pub returns : goal.returns
returns g c =
    let rest = c.in_ok-rest.ensures [] _ (goes-new _ _ _ _ _ _ c.new-sink.ensures c.new-lot.ensures (record { text = _; went = c.put_runs.ensures; all = refl })) in
    c.in_ok-extend_from_slice.ensures.items ∙ ap (λ l. c.args.front.items ++ l) (c.as_slice.ensures.value ∙ rest)
