use Rattle.std.proofs.Common.{◌==◌, cond, List, [], ◌∷◌, ◌++◌, ap, sym, ◌∙◌, subst}
use Rattle.warp_process.specs.Rows.{Standing, entry_on, IsRow}
use Rattle.warp_process.proofs.ByTime.{row_set, rows_after, entered, row_none}
use Rattle.warp_process.proofs.RowOrder.{one_entry, one_row}
use Rattle.warp_process.proofs.by_time.Rows.open.Goals as goal

pub returns-in_err-insert-clause-rows : goal.returns-in_err-insert-clause-rows
returns-in_err-insert-clause-rows c = record {
  ordered = c.insert.ensures.ordered;
  each = rw c.in_err-insert.ensures.err c.requires.rows.each;
}

pub returns-clause-rows : goal.returns-clause-rows
returns-clause-rows c =
    rows_after c.args.self.now (record { alloc = c.args.self.now.alloc; times = c.insert.new.self }) c.args.time c.push.new.self.items
    (row_set c.args.self.now (record { alloc = c.args.self.now.alloc; times = c.insert.new.self }) c.args.time c.push.new.self c.in_ok-insert.ensures.updates.0)
    c.requires.rows c.insert.ensures.ordered (subst IsRow (sym (c.in_ok-push.ensures.ok ∙ ap (λ (ss : List Standing). ss ++ c.args.placed ∷ []) c.new-row.ensures.items)) (one_row c.args.placed c.requires.stands))

pub returns-clause-put : goal.returns-clause-put
returns-clause-put c =
    entered c.args.self.now (record { alloc = c.args.self.now.alloc; times = c.insert.new.self }) c.args.time c.push.new.self.items
    (row_set c.args.self.now (record { alloc = c.args.self.now.alloc; times = c.insert.new.self }) c.args.time c.push.new.self c.in_ok-insert.ensures.updates.0)
    c.args.placed.place c.args.placed.entry
    (λ i. ap (λ (ss : List Standing). entry_on ss i) (c.in_ok-push.ensures.ok ∙ ap (λ (ss : List Standing). ss ++ c.args.placed ∷ []) c.new-row.ensures.items)
    ∙ (one_entry c.args.placed i ∙ ap (λ (ss : List Standing). cond (i == c.args.placed.place) c.args.placed.entry (entry_on ss i)) (sym (row_none c.args.self.now c.args.time c.requires.none))))
