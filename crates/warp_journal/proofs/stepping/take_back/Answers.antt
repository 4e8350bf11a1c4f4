use Rattle.std.proofs.Common.{}
use Rattle.warp_journal.specs.Inner.Parts.{words_of}
use Rattle.warp_journal.proofs.Restoring.{taken_back}
use Rattle.warp_journal.proofs.stepping.take_back.Goals as goal

pub returns : goal.returns
returns c =
    taken_back c.args.gates.now c.undo.new.self c.restore_puts.new.gates c.args.words.now (words_of c.args.puts.now) c.undo.ensures.cells c.undo.ensures.queues c.undo.ensures.values c.law.ensures.gates c.undo.ensures.outputs c.requires.puts
    c.restore_puts.ensures.cells c.restore_puts.ensures.queues c.restore_puts.ensures.values c.restore_puts.ensures.outputs
