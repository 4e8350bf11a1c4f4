use Rattle.std.proofs.Common.{[], refl}
use Rattle.byte_sinks.proofs.Passing.{passes_then}
use Rattle.vcd_dumps.proofs.PieceLaws.{goes-new}
use Rattle.vcd_dumps.proofs.workers.front_of.Goals as goal

pub returns : goal.returns
returns c =
    let first = rw c.nets.ensures.count at c.put_first_values.ensures in
    let went = passes_then c.put_header.ensures.text (passes_then first c.put_text.ensures) in
    c.taken.ensures [] _ (goes-new _ _ _ _ _ _ c.new-sink.ensures c.new-lot.ensures (record { text = _; went = went; all = refl }))
