use Rattle.std.proofs.Common.{◌≡◌, ◌∙◌, List, ℕ, length, ap, sym, arith}
use Rattle.number_groups.proofs.Rowing.{length-rows_from}
use Rattle.number_groups.proofs.rows.Rows.len.Goals as goal

pub returns : goal.returns
returns c =
    let len : c.len.result ≡ length c.self.inside.ends.items = omega (arith, c.len.ensures) in
    len ∙ sym (length-rows_from 0 c.self.inside.ends.items c.self.inside.numbers.items) ∙ ap (λ (rs : List (List ℕ)). length rs) c.self.view_is
