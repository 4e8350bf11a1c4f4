use Rattle.std.proofs.Common.{sym, ◌∙◌, subst}
use Rattle.warp_process.specs.Inner.Logs.{IsLog}
use Rattle.warp_block.specs.Shown.Look.{view_of}
use Rattle.warp_process.proofs.Rows.{log_rises}
use Rattle.warp_block.proofs.Looking.{news_logged, news_heard}
use Rattle.warp_block.proofs.look.Look.next_news.Goals as goal

pub next_change-requires : goal.next_change-requires
next_change-requires c =
    subst IsLog (sym c.changes.ensures) (log_rises (view_of c.self.inside) c.self.invariant c.args.slot (rw (← c.self.view_is) at c.requires))

pub returns-then-is_own : goal.returns-then-is_own
returns-then-is_own c =
    rw (← c.self.view_is) (news_logged (view_of c.self.inside) c.self.invariant c.args.slot (rw (← c.self.view_is) at c.requires) c.args.from c.next_change.result
    (rw (c.part.ensures, ← c.self.view_is) at (sym c.is_own.ensures ∙ c.if-is_own.true)) (rw c.changes.ensures at c.next_change.ensures))

pub returns-else-is_own : goal.returns-else-is_own
returns-else-is_own c =
    rw (← c.self.view_is) (news_heard (view_of c.self.inside) c.self.invariant c.args.slot (rw (← c.self.view_is) at c.requires) c.args.from c.next_effective.result
    (rw (c.part.ensures, ← c.self.view_is) at (sym c.is_own.ensures ∙ c.if-is_own.false)) c.next_effective.ensures)
