use Rattle.std.proofs.Common.{◌+◌, List, map, sym, subst, arith}
use Rattle.std.proofs.lemmas.List.{length-map}
use Rattle.gate_values.specs.Behaviour.{initial_of}
use Rattle.warp_stores.specs.Words.{Move}
use Rattle.part_engine.proofs.FirstMoves.{AreFirstBelow, first_none, first_more, first_all}
use Rattle.part_engine.proofs.moves.first_words.Goals as goal

pub loop-slot-init : goal.loop-slot-init
loop-slot-init c = subst (λ (ws : List Move). AreFirstBelow 0 (map initial_of c.args.part.now.sources) ws) (sym c.clear.ensures.items) (first_none (map initial_of c.args.part.now.sources))

pub loop-slot-preserved : goal.loop-slot-preserved
loop-slot-preserved c =
    subst (λ (ws : List Move). AreFirstBelow (c.loop-slot.slot + 1) (map initial_of c.args.part.now.sources) ws) (sym c.in_ok-push_first.ensures)
    (first_more c.loop-slot.slot (map initial_of c.args.part.now.sources) c.loop-slot.words.items c.loop-slot.invariant)

pub returns : goal.returns
returns c =
    let many = length-map c.args.part.now.sources initial_of in
    first_all c.loop-slot.slot (map initial_of c.args.part.now.sources) c.loop-slot.words.items
    (omega (arith, many, c.law.ensures.sources, c.len-slot-end.ensures.count, c.loop-slot-test.false)) c.loop-slot.invariant
