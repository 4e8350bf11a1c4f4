use Rattle.std.proofs.Common.{arith, ◌∙◌, ap, length-take, length-drop}
use Rattle.byte_sinks.specs.Sink.{Held}
use Rattle.byte_sinks.proofs.Writing.{took_more, still_sound}
use Rattle.byte_sinks.proofs.put.put_all.Goals as goal

pub loop-at-preserved : goal.loop-at-preserved
loop-at-preserved g c =
    let held = c.in-Some.ensures.held in
    record {
      within = grind (arith, length-take, length-drop, c.in-Some.ensures.within);
      taken = took_more (g.S.Sink.held c.args.sink.now).bytes (g.S.Sink.held c.loop-at.sink).bytes _ c.args.bytes.now c.loop-at.at c.in-Some.n c.loop-at.invariant.taken (ap (λ (q : Held). q.bytes) held);
      sound = ap (λ (q : Held). q.failed) held ∙ rw (c.loop-at.invariant.sound, still_sound c.in-Some.n _ c.if-n-gt0.true);
    }
