use Rattle.std.proofs.Common.{sym, subst}
use Rattle.warp_process.specs.Rows.{IsRow}
use Rattle.warp_process.proofs.by_time.Rows.entry.Goals as goal

pub entry_on-requires : goal.entry_on-requires
entry_on-requires c = subst IsRow (sym c.at.ensures) (c.requires.each c.args.time)
