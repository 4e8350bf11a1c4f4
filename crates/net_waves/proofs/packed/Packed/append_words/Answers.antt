use Rattle.std.proofs.Common.{◌-◌, arith}
use Rattle.net_waves.specs.Packed.{times}
use Rattle.net_waves.proofs.Appending.{early-told}
use Rattle.net_waves.proofs.packed.Packed.append_words.Goals as goal

pub extend_last-requires-clause-early : goal.extend_last-requires-clause-early
extend_last-requires-clause-early c = early-told c.args.self.now c.grow_to.new.self (times c.grow_to.new.self - 1) c.grow_to.ensures.told (omega (arith, c.if-time-times.false, c.times.ensures, c.in_ok-grow_to.ensures.times))
