use Rattle.vcd_dumps.proofs.PieceLaws.{goes-new}
use Rattle.vcd_dumps.proofs.pieces.times_piece.Goals as goal

pub returns : goal.returns
returns c = c.taken.ensures _ _ (goes-new _ _ _ _ _ _ c.new-sink.ensures c.new-lot.ensures c.put_times.ensures.text)
