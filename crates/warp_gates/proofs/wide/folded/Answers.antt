use Rattle.std.proofs.Common.{◌∙◌, ℕ, ◌<◌, List, length, get_or, ap}
use Rattle.std.proofs.lemmas.List.{take_all}
use Rattle.warp_gates.specs.Cells.{gate_output}
use Rattle.warp_gates.proofs.Folding.{gate_output-none, gate_output-more}
use Rattle.warp_gates.proofs.wide.folded.Goals as goal

pub loop-input-init : goal.loop-input-init
loop-input-init c = c.neutral-output.ensures ∙ gate_output-none c.args.values.now c.args.kind c.requires.kind

pub loop-input-preserved : goal.loop-input-preserved
loop-input-preserved c =
    let within : get_or c.args.inputs.now c.loop-input.input-index 0 < length c.args.values.now = c.requires.within c.loop-input.input-index 0 c.loop-input-test.true in
    c.table-output.ensures ∙ gate_output-more c.args.values.now c.args.kind c.args.inputs.now c.loop-input.input-index _ c.loop-input.output c.requires.kind c.loop-input-test.true within c.loop-input.invariant

pub returns : goal.returns
returns c = c.loop-input.invariant ∙ ap (λ (is : List ℕ). gate_output c.args.values.now c.args.kind is) (take_all c.loop-input.input-index c.args.inputs.now c.loop-input-test.false)
