use Rattle.std.proofs.Common.{◌≡◌, ◌∙◌, get_or, ap, arith}
use Rattle.std.proofs.lemmas.List.{get_or_default}
use Rattle.warp_stores.specs.Least.{least_of}
use Rattle.warp_stores.proofs.Seats.{two_nodes, root_places}
use Rattle.warp_stores.proofs.least.Least.least.Goals as goal

pub index-requires : goal.index-requires
index-requires c = omega (arith, two_nodes c.self.invariant, c.self.inside.nodes.ok.0)

-- the first node has the least of the places
pub returns : goal.returns
returns c =
    let at : c.index.result.now ≡ get_or c.self.inside.nodes.items 1 0 = c.index.ensures ∙ get_or_default c.self.inside.nodes.items 1 c.index.result.now 0 (omega (arith, two_nodes c.self.invariant)) in
    at ∙ root_places c.self.inside.count c.self.inside.nodes.items c.self.invariant (omega arith) ∙ ap least_of c.self.view_is
