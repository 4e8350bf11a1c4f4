use Rattle.std.proofs.Common.{◌∙◌, ℕ, length, get_or, ap, sym}
use Rattle.std.specs.List.{between}
use Rattle.number_groups.proofs.Rowing.{get_or-rows_from, end-within, start-end}
use Rattle.number_groups.proofs.rows.row_in.Goals as goal

pub part-requires-clause-order : goal.part-requires-clause-order
part-requires-clause-order c = rw c.start_of-start.ensures (start-end 0 c.args.ends.now (length c.args.numbers.now) c.args.place c.requires.ends c.requires.place)

pub part-requires-clause-within : goal.part-requires-clause-within
part-requires-clause-within c = end-within 0 c.args.ends.now (length c.args.numbers.now) c.args.place c.requires.ends c.requires.place

pub returns : goal.returns
returns c =
    c.part.ensures
    ∙ ap (λ (from : ℕ). between from (get_or c.args.ends.now c.args.place 0) c.args.numbers.now) c.start_of-start.ensures
    ∙ sym (get_or-rows_from 0 c.args.ends.now c.args.numbers.now c.args.place c.requires.place)
