use Rattle.std.proofs.Common.{◌≡◌, true, false, sym, ◌∙◌}
use Rattle.bit_compare.specs.Inner.Cursors.{bit_of}
use Rattle.bit_compare.proofs.Agreeing.{agreed-alike}
use Rattle.bit_compare.proofs.difference.agreed_until.Goals as goal

pub returns-else-is_free : goal.returns-else-is_free
returns-else-is_free c =
    agreed-alike c.args.how.now c.args.expected.now.time c.alike_until.result (bit_of c.args.expected.now) (bit_of c.args.actual.now)
    (λ h x. (let free : c.is_free.result ≡ true = c.is_free.ensures.1 (h, c.value.ensures ∙ x) in let bad : true ≡ false = sym free ∙ c.if-is_free.false in absurd (cc)))
    c.alike_until.ensures
