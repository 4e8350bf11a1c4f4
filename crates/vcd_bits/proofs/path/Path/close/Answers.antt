use Rattle.std.proofs.Common.{◌≡◌, ap, take, ◌∙◌, arith, length, vec_len}
use Rattle.vcd_bits.proofs.PathLaws.{closed}
use Rattle.vcd_bits.proofs.path.Path.close.Goals as goal

pub returns : goal.returns
returns c scopes is =
    let pop_len : vec_len c.args.self.now.ends ≡ length c.args.self.now.ends.items = omega (arith, c.args.self.now.ends.ok.0) in
    closed c.args.self.now (record { text = c.truncate.new.self; ends = c.pop.new.self }) scopes (rw pop_len at c.pop.ensures.rest) (c.truncate.ensures.items ∙ ap (λ n. take n c.args.self.now.text.items) c.last_end-end.ensures) is
