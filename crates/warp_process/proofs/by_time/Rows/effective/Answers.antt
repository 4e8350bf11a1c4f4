use Rattle.std.proofs.Common.{sym, subst}
use Rattle.warp_process.specs.Rows.{IsRow}
use Rattle.warp_process.proofs.by_time.Rows.effective.Goals as goal

pub effective_on-requires : goal.effective_on-requires
effective_on-requires c = subst IsRow (sym c.at.ensures) (c.requires.each c.args.time)
