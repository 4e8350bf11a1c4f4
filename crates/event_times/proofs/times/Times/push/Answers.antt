use Rattle.std.proofs.Common.{◌<◌, sym, subst, arith}
use Rattle.std.specs.List.{All}
use Rattle.event_times.specs.Marks.{Played, IsRising}
use Rattle.event_times.proofs.Cutting.{rising_push}
use Rattle.event_times.proofs.times.Times.push.Goals as goal

pub invariant_of-self-2 : goal.invariant_of-self-2
invariant_of-self-2 c =
    subst (IsRising 0) (sym c.in_ok-push_back.ensures.items)
    (rising_push 0 c.args.time c.self.inside.times.items c.self.invariant (omega arith) (subst (λ (p : Played). All (λ t. t < c.args.time) p.times) (sym c.self.view_is) c.requires))
