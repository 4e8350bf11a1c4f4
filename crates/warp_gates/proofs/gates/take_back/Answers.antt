use Rattle.std.proofs.Common.{◌/◌, ◌<◌, ℕ, sym, subst}
use Rattle.std.specs.List.{All}
use Rattle.warp_gates.specs.Inner.Fronts.{AreSettled, row_of}
use Rattle.warp_gates.proofs.Evaluating.{edges_within}
use Rattle.warp_gates.proofs.Undoing.{settled_after, following}
use Rattle.warp_gates.proofs.gates.take_back.Goals as goal

pub unshow_all-requires-clause-edges : goal.unshow_all-requires-clause-edges
unshow_all-requires-clause-edges c =
    record { each = λ place. subst (λ (n : ℕ). All (λ e. e / 8 < n) (row_of c.args.readers.now place)) (sym c.requires.fronts.same) (edges_within c.args.wiring.now c.args.readers.now place c.requires.readers) }

pub settle_all-requires-clause-fronts : goal.settle_all-requires-clause-fronts
settle_all-requires-clause-fronts c = c.unshow_all.ensures.fronts c.args.wiring.now c.requires.readers c.requires.fronts

pub returns : goal.returns
returns c =
    let settled : AreSettled c.settle_all.new.fronts =
    settled_after c.args.readers.now c.args.words.now c.args.fronts.now c.unshow_all.new.fronts c.settle_all.new.fronts c.requires.settled c.unshow_all.ensures.touched c.settle_all.ensures.refreshed in
    record {
      values = c.unshow_all.ensures.values;
      fronts = c.settle_all.ensures.fronts;
      settled = settled;
      following = following c.args.wiring.now c.args.readers.now c.unshow_all.new.values c.args.words.now c.args.fronts.now c.unshow_all.new.fronts c.settle_all.new.fronts
          c.requires.readers c.requires.fronts.same c.settle_all.ensures.fronts settled c.unshow_all.ensures.touched c.settle_all.ensures.refreshed c.settle_all.ensures.queues;
    }
