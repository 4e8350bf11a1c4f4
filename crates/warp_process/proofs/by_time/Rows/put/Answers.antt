use Rattle.std.proofs.Common.{ap, sym, subst}
use Rattle.warp_process.specs.Rows.{IsRow}
use Rattle.warp_process.specs.Inner.Rows.{row_in}
use Rattle.warp_process.proofs.ByTime.{written_rows, written_entry}
use Rattle.warp_process.proofs.by_time.Rows.put.Goals as goal

pub put-requires : goal.put-requires
put-requires c = subst IsRow (sym (ap row_in c.in-Some.ensures.value)) (c.requires.rows.each c.args.time)

pub returns-in_err-put-clause-rows : goal.returns-in_err-put-clause-rows
returns-in_err-put-clause-rows c =
    written_rows c.args.self.now (c.get_mut.follows.lender c.put.new.row) c.args.time c.in-Some.row.now c.put.new.row c.in-Some.ensures.value (c.get_mut.follows.holds c.put.new.row) c.requires.rows c.put.ensures.row

pub returns-in-Some-clause-rows : goal.returns-in-Some-clause-rows
returns-in-Some-clause-rows c =
    written_rows c.args.self.now (c.get_mut.follows.lender c.put.new.row) c.args.time c.in-Some.row.now c.put.new.row c.in-Some.ensures.value (c.get_mut.follows.holds c.put.new.row) c.requires.rows c.put.ensures.row

pub returns-in-Some-clause-put : goal.returns-in-Some-clause-put
returns-in-Some-clause-put c =
    written_entry c.args.self.now (c.get_mut.follows.lender c.put.new.row) c.args.time c.in-Some.row.now c.put.new.row c.in-Some.ensures.value (c.get_mut.follows.holds c.put.new.row) c.args.place c.args.entry c.in_ok-put.ensures.ok

pub returns-in_err-placed-clause-rows : goal.returns-in_err-placed-clause-rows
returns-in_err-placed-clause-rows c = rw c.get_mut.follows.holds-at-none c.requires.rows

pub open-requires-clause-rows : goal.open-requires-clause-rows
open-requires-clause-rows c = rw c.get_mut.follows.holds-at-none c.requires.rows

pub returns-clause-put : goal.returns-clause-put
returns-clause-put c = rw c.in_ok-placed.ensures at (rw c.get_mut.follows.holds-at-none at c.open.ensures.put)

pub returns-clause-err : goal.returns-clause-err
returns-clause-err c = rw c.get_mut.follows.holds-at-none at c.open.ensures.err
