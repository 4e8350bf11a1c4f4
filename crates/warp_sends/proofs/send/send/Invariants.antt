use Rattle.std.proofs.Common.{◌≡◌, ◌++◌, take}
use Rattle.warp_process.specs.Shown.Step.{sent}
use Rattle.warp_sends.proofs.send.send.Given as goal

abbrev pub invariant-loop-reader : goal.invariant-loop-reader
invariant-loop-reader l = l.out.items ≡ l.fn.out.items ++ sent l.sign l.net (take l.reader-index l.readers) l.change
