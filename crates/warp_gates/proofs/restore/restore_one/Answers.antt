use Rattle.std.proofs.Common.{◌∙◌, sym, arith}
use Rattle.warp_gates.proofs.Undoing.{restored_call}
use Rattle.warp_gates.proofs.restore.restore_one.Goals as goal

pub returns-then-is_flop : goal.returns-then-is_flop
returns-then-is_flop c old later restored =
    restored_call c.args.wiring.now c.args.word later old c.args.fronts.now _ c.place-place.result c.before-then-is_flop.result c.place-place.ensures.place c.before-then-is_flop.ensures
    (omega (arith, c.requires.word, c.requires.fronts)) (sym c.is_flop.ensures ∙ c.if-is_flop.true) restored
