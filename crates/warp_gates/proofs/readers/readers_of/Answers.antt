use Rattle.std.proofs.Common.{◌≡◌, List, length, subst, sym, arith}
use Rattle.std.proofs.lemmas.Result.{IfOk-weaker}
use Rattle.number_groups.specs.declared.groups.Keyed.{Keyed}
use Rattle.warp_gates.specs.Inner.Fronts.{AreReaders}
use Rattle.warp_gates.specs.Inner.First.{AreListed}
use Rattle.warp_gates.proofs.Listing.{listed_none, readers_made}
use Rattle.warp_gates.proofs.readers.readers_of.Goals as goal

pub loop-gate-init : goal.loop-gate-init
loop-gate-init c = subst (λ (es : List Keyed). AreListed c.args.wiring.now 0 0 es) (sym c.new-edges.ensures.items) (listed_none c.args.wiring.now)

pub returns : goal.returns
returns c =
    let all : c.loop-gate.gate ≡ length c.args.wiring.now = omega (arith, c.len-gate-end.ensures) in
    IfOk-weaker c.of.result _ (λ rows. AreReaders c.args.wiring.now rows)
    (readers_made c.args.wiring.now c.loop-gate.gate c.len.result c.loop-gate.edges.items c.deref.result.now c.requires.cells all c.len.ensures c.deref.ensures.value c.loop-gate.invariant) c.of.ensures
