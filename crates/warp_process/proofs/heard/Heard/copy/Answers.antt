use Rattle.std.proofs.Common.{◌∙◌, arith}
use Rattle.warp_process.proofs.Hearing.{late_rows}
use Rattle.warp_process.proofs.Putting.{view_alike, held_alike}
use Rattle.warp_process.proofs.heard.Heard.copy.Goals as goal

pub copy-requires-2-clause-end : goal.copy-requires-2-clause-end
copy-requires-2-clause-end c t i l = late_rows c.self.inside c.self.invariant t i (omega (arith, l))

pub invariant_of-result : goal.invariant_of-result
invariant_of-result c = rw c.in_ok-copy.ensures (held_alike c.self.inside c.self.invariant c.in_ok-copy-2.field-0 c.in_ok-copy-2.ensures.rows c.in_ok-copy-2.ensures.same)

pub returns : goal.returns
returns c = rw c.in_ok-copy.ensures (view_alike c.self.inside c.self.invariant c.in_ok-copy-2.field-0 c.in_ok-copy-2.ensures.rows c.in_ok-copy-2.ensures.same ∙ c.self.view_is)
