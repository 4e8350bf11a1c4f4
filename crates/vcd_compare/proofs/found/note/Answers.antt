use Rattle.std.proofs.Common.{refl}
use Rattle.vcd_compare.proofs.found.note.Goals as goal

pub returns-in_ok-push-in-Some-clause-ok : goal.returns-in_ok-push-in-Some-clause-ok
returns-in_ok-push-in-Some-clause-ok c =
    rw c.in-Some.is (record { pair = c.args.pair; name = c.in_ok-name-in-Some.name; difference = c.in-Some.difference }, c.in_ok-push-in-Some.ensures.items, refl, refl, λ x e. c.in_ok-name-in-Some.ensures.ok x e)
