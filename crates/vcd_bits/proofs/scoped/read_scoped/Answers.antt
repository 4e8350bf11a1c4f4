use Rattle.vcd_bits.specs.Scopes.{nothing_declared}
use Rattle.vcd_bits.proofs.ScopedLaws.{declaring-end}
use Rattle.vcd_bits.proofs.scoped.read_scoped.Goals as goal

pub returns : goal.returns
returns c =
    let (s, is, read) = c.loop-first.invariant in
    let over = c.in_default.ensures in
    (s, declaring-end s nothing_declared c.loop-first.words c.next.new.self c.args.words.now over.0 over.1 read, is)
