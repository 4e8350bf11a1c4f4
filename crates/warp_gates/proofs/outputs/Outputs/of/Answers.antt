use Rattle.std.proofs.Common.{◌≡◌, ◌∙◌, ℕ, ◌*◌, ◌+◌, ◌/◌, ◌%◌, ◌<◌, List, get_or, refl, ap, arith, rules}
use Rattle.std.proofs.lemmas.List.FromFn.{get_or-map-range_with_len}
use Rattle.gate_values.specs.declared.logic.Logic.{Logic}
use Rattle.gate_values.specs.declared.gate.Kind.{Kind}
use Rattle.gate_values.specs.declared.gate.Kind.TheVariants.{And, Nand, Or, Nor, Xor, Xnor, Not, Buff}
use Rattle.gate_values.specs.Tables.{table_of}
use Rattle.warp_gates.specs.Inner.Pins.{pins_in}
use Rattle.warp_gates.specs.Inner.Outputs.{number_of, kind_at, entry_at, entries}
use Rattle.warp_gates.proofs.outputs.Outputs.of.Goals as goal

kind_at-number_of : (kind : Kind) → kind_at (number_of kind) ≡ kind
kind_at-number_of And = refl
kind_at-number_of Nand = refl
kind_at-number_of Or = refl
kind_at-number_of Nor = refl
kind_at-number_of Xor = refl
kind_at-number_of Xnor = refl
kind_at-number_of Not = refl
kind_at-number_of Buff = refl

number_of-small : (kind : Kind) → number_of kind < 8
number_of-small And = omega arith
number_of-small Nand = omega arith
number_of-small Or = omega arith
number_of-small Nor = omega arith
number_of-small Xor = omega arith
number_of-small Xnor = omega arith
number_of-small Not = omega arith
number_of-small Buff = omega arith

at_entry : (kind : Kind) (bits : ℕ) (d : Logic) → bits < 256 → get_or (entries 2048) (number_of kind * 256 + bits) d ≡ table_of kind (pins_in bits)
at_entry kind bits d h =
    let small : number_of kind < 8 = number_of-small kind in
    let row : (number_of kind * 256 + bits) / 256 ≡ number_of kind = omega arith in
    let column : (number_of kind * 256 + bits) % 256 ≡ bits = omega arith in
    get_or-map-range_with_len entry_at 0 2048 (number_of kind * 256 + bits) (number_of kind * 256 + bits) d (omega arith) (omega arith)
    ∙ ap (λ (n : ℕ). table_of (kind_at n) (pins_in ((number_of kind * 256 + bits) % 256))) row
    ∙ ap (λ (k : Kind). table_of k (pins_in ((number_of kind * 256 + bits) % 256))) (kind_at-number_of kind)
    ∙ ap (λ (n : ℕ). table_of kind (pins_in n)) column

pub returns : goal.returns
returns c =
    let small : c.args.pins.bits < 256 = search rules in
    c.index.ensures
    ∙ ap (λ (n : ℕ). get_or c.args.self.now.values.items (n * 256 + c.args.pins.bits) c.index.result.now) c.number_of.ensures
    ∙ ap (λ (vs : List Logic). get_or vs (number_of c.args.kind * 256 + c.args.pins.bits) c.index.result.now) c.args.self.now.each.each
    ∙ at_entry c.args.kind c.args.pins.bits c.index.result.now small
