use Rattle.std.proofs.Common.{◌≡◌, ap, ◌∙◌, ◌++◌, ◌∷◌, [], arith, length, vec_len}
use Rattle.vcd_bits.proofs.PathLaws.{opened}
use Rattle.vcd_bits.proofs.path.Path.open.Goals as goal

pub returns-clause-ok : goal.returns-clause-ok
returns-clause-ok c scopes is =
    let text_len : vec_len c.extend.new.self.text ≡ length c.extend.new.self.text.items = omega (arith, c.extend.new.self.text.ok.0) in
    opened c.args.self.now (record { text = c.extend.new.self.text; ends = c.push.new.self }) scopes c.args.name.now c.in_ok-extend.ensures.ok
    (rw c.extend.ensures.ends at c.in_ok-push.ensures.items ∙ ap (λ n. c.args.self.now.ends.items ++ n ∷ []) (c.len.ensures ∙ text_len)) is
