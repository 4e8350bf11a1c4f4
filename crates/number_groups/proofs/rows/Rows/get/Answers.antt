use Rattle.std.proofs.Common.{◌≡◌, ◌∙◌, ℕ, List, length, ap, sym, arith}
use Rattle.number_groups.proofs.Rowing.{length-rows_from}
use Rattle.number_groups.proofs.rows.Rows.get.Goals as goal

pub row_in-requires-clause-place : goal.row_in-requires-clause-place
row_in-requires-clause-place c =
    let many : length c.self.inside.ends.items ≡ length c.args.self.now = sym (length-rows_from 0 c.self.inside.ends.items c.self.inside.numbers.items) ∙ ap (λ (rs : List (List ℕ)). length rs) c.self.view_is in
    rw c.deref.ensures.value (omega arith)
