use Rattle.std.proofs.Common.{get_or, ◌+◌, ◌<◌}
use Rattle.net_waves.specs.declared.timeline.Stop.{Stop}
use Rattle.vcd_dumps.proofs.PieceLaws.{goes-new, keys-next, keys-some}
use Rattle.vcd_dumps.proofs.pieces.keys_piece.Goals as goal

pub put_keys-requires : goal.put_keys-requires
put_keys-requires c =
    let from = get_or c.args.cuts.now c.args.at 0 in
    let end = get_or c.args.cuts.now (c.args.at + 1) 0 in
    rw (c.split_at-2.ensures.back, c.split_at.ensures.front) (keys-some (λ (s : Stop). s.net < 1000000) c.args.keys.now from end c.requires.known)

pub returns : goal.returns
returns c =
    let from = get_or c.args.cuts.now c.args.at 0 in
    let end = get_or c.args.cuts.now (c.args.at + 1) 0 in
    let next = keys-next c.args.keys.now _ _ _ from end _ (c.requires.cuts.rising c.args.at c.requires.at) c.split_at.ensures.front c.split_at-2.ensures.front c.split_at-2.ensures.back c.last_of.ensures in
    c.taken.ensures _ _ (goes-new _ _ _ _ _ _ c.new-sink.ensures c.new-lot.ensures (record { text = _; went = c.put_keys.ensures.text; all = next }))
