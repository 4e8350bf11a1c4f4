use Rattle.std.proofs.Common.{◌≡◌, ◌∙◌, ap, length, arith}
use Rattle.std.proofs.lemmas.List.FromFn.{length-map-range_with_len}
use Rattle.std.proofs.lemmas.Result.{IfOk-weaker}
use Rattle.gate_netlist.specs.Circuit.{nets_of, CutFits}
use Rattle.gate_netlist.specs.Even.{even_owner, even_cut}
use Rattle.gate_netlist.proofs.EvenCuts.{even_cut_is_ownership, even_cut_fits}
use Rattle.gate_netlist.proofs.cut.Cut.even.Goals as goal

pub new-requires-clause-law : goal.new-requires-clause-law
new-requires-clause-law c = rw c.in_ok-owners.ensures (even_cut_is_ownership c.args.circuit.now c.args.blocks c.law.ensures c.requires.some c.requires.within)

pub new-requires-clause-within : goal.new-requires-clause-within
new-requires-clause-within c =
    omega (arith, c.law.ensures.within, ap length c.in_ok-owners.ensures ∙ length-map-range_with_len (even_owner c.args.circuit.now c.args.blocks) 0 (nets_of c.args.circuit.now))

pub returns-clause-even : goal.returns-clause-even
returns-clause-even c = rw c.in_ok-owners.ensures at c.new.ensures

pub returns-clause-fits : goal.returns-clause-fits
returns-clause-fits c =
    IfOk-weaker c.new.result (λ cut. cut ≡ even_cut c.args.circuit.now c.args.blocks) (CutFits c.args.circuit.now) (λ cut e. rw e (even_cut_fits c.args.circuit.now c.args.blocks)) (returns-clause-even c)
