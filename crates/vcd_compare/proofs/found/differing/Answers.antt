use Rattle.std.proofs.Common.{arith, ap, get_or, refl, ◌≡◌, length}
use Rattle.vcd_bits.specs.Shown.Tables.{bits_in}
use Rattle.vcd_compare.specs.Inner.Found.{IsFoundBy}
use Rattle.vcd_compare.proofs.FoundLaws.{found-more, found-none}
use Rattle.vcd_compare.proofs.found.differing.Goals as goal

pub loop-pair-init : goal.loop-pair-init
loop-pair-init c = rw c.new-found.ensures.items (found-none (IsFoundBy c.args.sight.now c.args.expected.now c.args.actual.now) (bits_in c.args.table.now) c.args.pairs.now.numbers.items 0 refl)

pub loop-pair-preserved : goal.loop-pair-preserved
loop-pair-preserved c =
    found-more (IsFoundBy c.args.sight.now c.args.expected.now c.args.actual.now) (bits_in c.args.table.now) c.args.pairs.now.numbers.items c.loop-pair.pair c.loop-pair.found.items c.note.new.found.items _ c.difference-difference.result
    (ap (λ xs. get_or xs c.loop-pair.pair 0) c.deref-number-items.ensures.value) c.loop-pair.invariant c.difference-difference.ensures c.in_ok-note.ensures.ok

pub returns-clause-ok : goal.returns-clause-ok
returns-clause-ok c =
    let whole : c.loop-pair.pair ≡ length c.args.pairs.now.numbers.items = omega (arith, c.loop-pair-test.false, c.loop-pair.auto.pair-end, ap length c.deref-number-items.ensures.value) in
    rw (← whole) c.loop-pair.invariant
