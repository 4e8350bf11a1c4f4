use Rattle.std.proofs.Common.{◌≡◌, length, arith}
use Rattle.gate_vcd.proofs.KnownLaws.{takes-more}
use Rattle.gate_vcd.proofs.known.KnownCodes.add.Goals as goal

pub returns-clause-ok : goal.returns-clause-ok
returns-clause-ok c =
    let e : c.len-number.result ≡ length c.args.self.now.used.items = omega (arith, c.len-number.ensures, c.args.self.now.used.ok) in
    rw e (takes-more c.args.self.now (record { used = c.push-2.new.self; last = c.insert.new.self; before = c.push.new.self }) c.args.source c.requires.linked c.in_ok-push-2.ensures.items
    (rw (← c.last_of-last.ensures) c.in_ok-push.ensures.items) c.requires.least (λ code. rw (← e) (c.in_ok-insert.ensures.ok code)))
