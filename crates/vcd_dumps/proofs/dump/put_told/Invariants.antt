use Rattle.std.proofs.Common.{drop, map}
use Rattle.vcd_dumps.specs.Inner.Walk.{IsWalked}
use Rattle.net_waves.specs.Packed.{told}
use Rattle.vcd_dumps.proofs.dump.put_told.Given as goal

-- the words so far
abbrev pub invariant-loop-word : goal.invariant-loop-word
invariant-loop-word g l = IsWalked (g.S.Sink.held l.fn.sink) (g.S.Sink.held l.sink) l.fn.lot l.lot l.fn.last l.last (map (told l.time) (drop l.word-index l.words)) (map (told l.time) l.words)
