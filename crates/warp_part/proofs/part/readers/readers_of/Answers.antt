use Rattle.std.proofs.Common.{◌≡◌, ◌<◌, ◌∷◌, [], ◌++◌, ◌∙◌}
use Rattle.std.specs.List.{All}
use Rattle.gate_netlist.specs.Circuit.{nets_of}
use Rattle.warp_part.specs.PartOf.{part_readers}
use Rattle.warp_part.specs.declared.cell.Span.{Span}
use Rattle.warp_part.proofs.PartBuilding.{nets_within}
use Rattle.warp_part.proofs.PartReaders.{stretches_more, spans_more}
use Rattle.warp_part.proofs.part.readers.readers_of.Goals as goal

pub find_readers-requires : goal.find_readers-requires
find_readers-requires c =
    let within : All (λ n. n < nets_of c.args.circuit.now) c.args.nets.now = rw c.requires.nets (nets_within c.args.circuit.now c.args.cut.now c.args.block) in
    within c.loop-net.net-index 0 c.loop-net-test.true

pub loop-net-preserved : goal.loop-net-preserved
loop-net-preserved c =
    let span : Span = c.in_ok-span.span in
    let list = c.deref.result.now in
    let before = c.loop-net.all.items in
    let spans : c.push.new.self.items ≡ c.loop-net.spans.items ++ span ∷ [] = c.in_ok-push.ensures.items in
    let all : c.put_behind.new.all.items ≡ before ++ list = c.in_ok-span.ensures.all in
    let is = c.deref.ensures.value ∙ c.in_ok-find_readers.ensures in
    let at = c.in_ok-span.ensures.span in
    record {
      readers = rw (all, spans) (stretches_more (part_readers c.args.circuit.now c.args.cut.now c.args.block) c.args.nets.now c.loop-net.net-index list before c.loop-net.spans.items span
          c.loop-net-test.true is at.0 at.1 c.loop-net.invariant.within c.loop-net.invariant.readers);
      within = rw (all, spans) (spans_more before list c.loop-net.spans.items span at.0 at.1 c.loop-net.invariant.within);
    }
