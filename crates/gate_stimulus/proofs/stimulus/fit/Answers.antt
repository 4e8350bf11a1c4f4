use Rattle.std.proofs.Common.{◌≡◌, ◌∙◌, sym, refl, length, ◌<◌, arith}
use Rattle.gate_stimulus.proofs.Latest.{fits-at, fits-all, differ}
use Rattle.gate_stimulus.proofs.stimulus.fit.Goals as goal

pub returns-then-is_some-is_input : goal.returns-then-is_some-is_input
returns-then-is_some-is_input c = (
  λ h. cc,
  λ e.
      let lo : c.loop-net.net < length c.args.list_of.now = omega arith in
      let ld : c.loop-net.net < length c.args.circuit.now.drivers = omega arith in
      differ c.is_some.result c.is_input.result c.if-is_some-is_input.true (c.is_some.ensures ∙ fits-at c.args.list_of.now c.args.circuit.now.drivers c.loop-net.net lo ld e ∙ sym c.is_input.ensures),
)

pub returns : goal.returns
returns c =
    let e : length c.args.list_of.now ≡ length c.args.circuit.now.drivers = omega arith in
    (λ h. fits-all c.args.list_of.now c.args.circuit.now.drivers e (λ k l. c.loop-net.invariant k (omega arith)), λ h. refl)
