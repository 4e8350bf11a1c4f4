use Rattle.std.proofs.Common.{List, ap, sym, ◌∙◌, subst}
use Rattle.warp_process.specs.Rows.{Standing, IsRow, entry_on}
use Rattle.warp_process.proofs.Hearing.{seen_rows, row_within}
use Rattle.warp_process.proofs.heard.Heard.row.Goals as goal

pub returns-clause-row : goal.returns-clause-row
returns-clause-row c = subst IsRow (sym c.at.ensures) (c.self.invariant.rows.each c.args.time)

pub returns-clause-all : goal.returns-clause-all
returns-clause-all c i l = (seen_rows c.self.inside c.args.self.now c.self.view_is c.self.invariant).entries i c.args.time l ∙ ap (λ (ss : List Standing). entry_on ss i) (sym c.at.ensures)

pub returns-clause-within : goal.returns-clause-within
returns-clause-within c = row_within c.args.self.now c.self.inside.rows (seen_rows c.self.inside c.args.self.now c.self.view_is c.self.invariant) c.args.time c.at.result.now c.at.ensures
