use Rattle.std.proofs.Common.{◌<◌, Vec, length, ap, sym, ◌∙◌, arith}
use Rattle.std.specs.declared.alloc.Global.{Global}
use Rattle.gate_values.specs.declared.logic.Change.{Change}
use Rattle.net_waves.specs.Waves.{lists_in}
use Rattle.warp_process.proofs.Rows.{row_at}
use Rattle.warp_block.proofs.Giving.{put_other, given_more}
use Rattle.warp_block.proofs.give.give.Goals as goal

pub loop-slot-preserved : goal.loop-slot-preserved
loop-slot-preserved c =
    let p = c.args.part.now in
    let k = c.loop-slot.slot in
    let h = c.loop-slot.invariant in
    let logs = c.loop-slot.logs.items in
    let lists = c.loop-slot.lists.items in
    let in_nets : k < length p.nets = omega (arith, c.len-slot-end.ensures.count, c.loop-slot-test.true) in
    let in_logs : k < length logs = omega (arith, in_nets, h.logs_len, c.requires.logs, c.loop-slot.logs.ok.0) in
    let within = c.requires.places k 0 in_nets in
    let in_lists : c.net-net.result < length lists = omega (arith, within, c.net-net.ensures, h.lists_len, c.loop-slot.lists.ok.0) in
    record {
      lists_len = h.lists_len;
      logs_len = h.logs_len;
      left = λ i more. put_other logs k c.swap.new.x i (omega (arith, more)) ∙ h.left i (omega (arith, more));
      given = given_more p c.law.ensures.ascending (lists_in c.args.logs.items) (lists_in c.args.lists.now.items) k c.net-net.result lists c.swap.new.y c.net-net.ensures in_nets in_lists
          (sym c.is_own.ensures ∙ c.if-not-is_own.false)
          (ap (λ (v : Vec Change Global). v.items) c.swap.ensures.y_after ∙ sym (row_at logs k c.index_mut.result.now in_logs c.index_mut.ensures.value) ∙ h.left k (omega arith))
          h.given;
    }
