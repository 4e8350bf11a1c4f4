use Rattle.std.proofs.Common.{◌∙◌, ℕ, ◌+◌, ◌<◌, List, length, get_or, refl, subst, arith}
use Rattle.std.proofs.lemmas.List.{take_all, length-set}
use Rattle.std.proofs.lemmas.List.Elements.{All-get_or}
use Rattle.number_groups.specs.Groups.{group}
use Rattle.gate_netlist.specs.Inner.Readers.{AreTold}
use Rattle.gate_netlist.proofs.Readers.{told_none, told_again, told_more}
use Rattle.gate_netlist.proofs.circuit.readers.push_each.Goals as goal
use Rattle.gate_netlist.proofs.circuit.readers.push_each.Goals.{then-next-net+in_ok-push, else-next-net}

pub loop-net-init : goal.loop-net-init
loop-net-init c = (told_none c.args.reader c.args.uses.now.items c.args.next.now c.requires.open, refl)

pub bounds-next-net : goal.bounds-next-net
bounds-next-net c =
    omega (arith, All-get_or (λ (n : ℕ). n < length c.args.next.now) c.args.nets.now c.loop-net.net-index 0 c.loop-net-test.true c.requires.used, c.loop-net.auto.next)

pub loop-net-preserved : goal.loop-net-preserved
loop-net-preserved c =
    let before = group c.args.uses.now.items in
    let nets = c.args.nets.now in
    let i = c.loop-net.net-index in
    let next = c.loop-net.next in
    let there : get_or nets i 0 < length next = omega (arith, All-get_or (λ (n : ℕ). n < length c.args.next.now) nets i 0 c.loop-net-test.true c.requires.used, c.loop-net.auto.next) in
    elim c.if-next-net.branch [
      | then-next-net+in_ok-push w ↦ rw (w.next-is, w.uses-is, w.in_ok-push.ensures.items) (
        told_more before c.args.reader nets i c.loop-net.uses.items next c.loop-net-test.true there c.loop-net.invariant.0 w.if-next-net.true,
        length-set next (get_or nets i 0) (c.args.reader + 1) ∙ c.loop-net.invariant.1,
      )
      | else-next-net w ↦ rw (w.next-is, w.uses-is) (told_again before c.args.reader nets i c.loop-net.uses.items next c.loop-net-test.true there c.loop-net.invariant.0 w.if-next-net.false, c.loop-net.invariant.1)
    ]

pub returns-clause-told : goal.returns-clause-told
returns-clause-told c =
    subst (λ (nets : List ℕ). AreTold (group c.args.uses.now.items) c.args.reader nets c.loop-net.uses.items c.loop-net.next) (take_all c.loop-net.net-index c.args.nets.now c.loop-net-test.false) c.loop-net.invariant.0

pub returns-clause-nets : goal.returns-clause-nets
returns-clause-nets c = c.loop-net.invariant.1
