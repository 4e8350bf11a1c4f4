use Rattle.std.proofs.Common.{refl}
use Rattle.vcd_dumps.proofs.Writing.{taken_later, rises_known}
use Rattle.vcd_dumps.proofs.writer.Writer.take_later.Goals as goal

pub put_moves-self-requires : goal.put_moves-self-requires
put_moves-self-requires c = rises_known _ _ _ c.in-Some.ensures

pub returns : goal.returns
returns c = λ _.
    taken_later c.args.self.now _ c.args.time c.args.moves.now c.requires.later c.requires.begun c.requires.begun refl c.put_moves-self.ensures.last c.in-Some.ensures c.put_moves-self.ensures.text
