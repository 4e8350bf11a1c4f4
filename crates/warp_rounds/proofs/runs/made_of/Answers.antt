use Rattle.std.proofs.Common.{◌<◌, sym, subst}
use Rattle.std.proofs.lemmas.List.Elements.{All-nil}
use Rattle.warp_process.specs.declared.message.Message.{Message}
use Rattle.warp_rounds.specs.Inner.Work.{AreThere}
use Rattle.warp_rounds.proofs.Faulting.{told_there}
use Rattle.warp_rounds.proofs.runs.made_of.Goals as goal

pub returns : goal.returns
returns g c =
    told_there c.args.circuit.now c.args.cut.now c.requires.cut c.args.number c.args.horizon c.args.stimulus.now c.in_ok-part.part c.in_ok-block.block.seen
    c.new-sent.result.items c.open.new.out.items c.in_ok-part.ensures c.in_ok-block.ensures.sends
    (subst (AreThere c.args.cut.now.blocks) (sym c.new-sent.ensures.items) (All-nil (λ (m : Message). m.block < c.args.cut.now.blocks)))
