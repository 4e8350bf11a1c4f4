use Rattle.std.proofs.Common.{ℕ, List, ap, sym, ◌∙◌}
use Rattle.std.proofs.lemmas.List.{take_all}
use Rattle.warp_part.specs.Inner.Building.{is_other_owner}
use Rattle.warp_part.proofs.PartLists.{and_none}
use Rattle.warp_part.proofs.PartReaders.{owners-other}
use Rattle.warp_part.proofs.part.readers.add_owners.Goals as goal

pub loop-gate-init : goal.loop-gate-init
loop-gate-init c = λ n. rw c.requires (sym (and_none _))

pub loop-gate-preserved : goal.loop-gate-preserved
loop-gate-preserved c =
    rw c.in_ok-push.ensures.items
    (owners-other c.args.cut.now c.args.block c.args.gates.now c.loop-gate.gate-index c.loop-gate-test.true c.loop-gate.list.items c.loop-gate.invariant c.in-Some.reader (sym c.in-Some.ensures) c.if-reader-block.false)

pub returns-clause-owners : goal.returns-clause-owners
returns-clause-owners c = λ n.
    c.settle.ensures.same n ∙ c.loop-gate.invariant n ∙ ap (λ (gates : List ℕ). is_other_owner c.args.cut.now c.args.block gates n) (take_all c.loop-gate.gate-index c.args.gates.now c.loop-gate-test.false)
