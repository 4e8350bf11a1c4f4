use Rattle.std.proofs.Common.{◌≡◌, ◌∙◌, ℕ, List, [], replicate, ap, arith}
use Rattle.gate_values.specs.declared.logic.Change.{Change}
use Rattle.warp_stores.specs.Shown.Lists.{lists_of}
use Rattle.warp_stores.proofs.lists.empty_lists.Goals as goal

pub loop-init : goal.loop-init
loop-init c = ap lists_of c.new-lists.ensures.items

pub returns : goal.returns
returns c =
    let all : c.loop.counter ≡ c.args.count = omega arith in
    c.loop.invariant ∙ ap (λ (n : ℕ). replicate {A = List Change} n []) all
