use Rattle.std.proofs.Common.{ℕ, List, Bor, option_map}
use Rattle.gate_vcd.proofs.ScopeLaws.{opened}
use Rattle.gate_vcd.proofs.scopes.Scopes.open.Goals as goal

pub returns-clause-ok : goal.returns-clause-ok
returns-clause-ok c scopes h =
    opened (option_map (λ (a : Bor (List ℕ)). a.now) c.args.self.now.asked) c.asked_text.result.now c.args.name.now c.args.self.now.ends.items c.push.new.self.items c.next_end-end.result scopes c.asked_text.ensures
    (rw (← c.inner_end.ensures) c.next_end-end.ensures) c.in_ok-push.ensures.items h
