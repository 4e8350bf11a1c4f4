use Rattle.std.proofs.Common.{inl, inr}
use Rattle.warp_process.specs.Shown.Heard.{heard_by}
use Rattle.warp_process.proofs.Sure.{settled_of, below_later}
use Rattle.warp_process.proofs.Settling.{floor_received}
use Rattle.warp_process.proofs.heard.Heard.commit.Goals as goal

pub invariant_of-self : goal.invariant_of-self
invariant_of-self c =
    let v = heard_by c.self.inside in
    record {
      received = floor_received v c.args.floor c.self.invariant.received (rw (← c.self.view_is) at c.requires.settled);
      rows = c.self.invariant.rows;
      within = c.self.invariant.within;
      sure = λ n t l. elim (below_later t c.self.inside.sure c.args.floor c.max-self-inside.result c.max-self-inside.ensures l) [
        | inl early ↦ settled_of v c.args.floor (rw (← c.self.view_is) at c.requires.settled) n t early
        | inr known ↦ c.self.invariant.sure n t known
      ];
    }
