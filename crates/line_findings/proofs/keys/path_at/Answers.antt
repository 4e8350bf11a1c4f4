use Rattle.std.proofs.Common.{arith, inl, inr}
use Rattle.line_findings.proofs.keys.path_at.Goals as goal

pub returns-then-is_some_and : goal.returns-then-is_some_and
returns-then-is_some_and c =
    let within = c.written_in.ensures c.in-Header-default.header (inl c.in-Header-default.is-0) in
    omega (arith, within, c.line_at.ensures.within)

pub returns-in-Key-Some : goal.returns-in-Key-Some
returns-in-Key-Some c =
    let within = c.written_in.ensures c.in-Key-Some.key (inr c.in-Key-Some.is-0) in
    omega (arith, within, c.line_at.ensures.within)
