use Rattle.std.proofs.Common.{◌<◌, map, set, ap, ◌∙◌, rules}
use Rattle.std.proofs.lemmas.List.{map-set}
use Rattle.gate_values.specs.declared.logic.Logic.{Logic}
use Rattle.warp_stores.specs.Shown.Words.{value_of}
use Rattle.warp_gates.proofs.Bits.{put, put-small, codes_in, codes_in-put, code_of-small, value_of-code_of}
use Rattle.warp_gates.proofs.pins.put.Goals as goal

pub overflow_add-result : goal.overflow_add-result
overflow_add-result c =
    let small : c.code.result < 4 = rw c.code.ensures (code_of-small c.args.value) in
    let fits : put c.args.bits c.args.pin c.code.result < 256 = put-small c.args.bits c.args.pin c.code.result (search rules) c.requires small in
    search rules

pub returns : goal.returns
returns c =
    let small : c.code.result < 4 = rw c.code.ensures (code_of-small c.args.value) in
    ap (map value_of) (codes_in-put c.args.bits c.args.pin c.code.result (search rules) c.requires small)
    ∙ map-set value_of (codes_in c.args.bits) c.args.pin c.code.result
    ∙ ap (λ (v : Logic). set (map value_of (codes_in c.args.bits)) c.args.pin v) (ap value_of c.code.ensures ∙ value_of-code_of c.args.value)
