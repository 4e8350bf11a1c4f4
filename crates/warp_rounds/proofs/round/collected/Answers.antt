use Rattle.std.proofs.Common.{cond, ap, ◌∙◌, arith}
use Rattle.std.proofs.lemmas.List.Elements.{All-head, All-rest}
use Rattle.warp_rounds.specs.Seats.{SeatView}
use Rattle.warp_rounds.specs.Inner.Inside.{IsOfTable}
use Rattle.warp_rounds.proofs.Steps.{collect_keeps, open_keeps}
use Rattle.warp_rounds.proofs.Ends.{takes_one, IsHandOf}
use Rattle.warp_rounds.proofs.round.collected.Goals as goal

pub load_new_seat-own-requires : goal.load_new_seat-own-requires
load_new_seat-own-requires c = (omega (arith, c.requires.words), open_keeps _ _ _)

pub join_seat-requires : goal.join_seat-requires
join_seat-requires c =
    let loop = c.loop-place.invariant in let seat = c.place.invariant in let steps = c.in-Some.ensures.steps in
    let here = All-head (IsOfTable c.args.table.now.shared.table_id) c.in-Some.place _ (rw steps.0 at loop.ours) in (
      loop.same,
      ap (λ (s : SeatView). s.round.table) c.place.view_is ∙ here,
      seat.no_slot,
      omega (arith, c.requires.words),
      collect_keeps _ _ _ _ _ _ (omega (arith, seat.one)),
    )

pub loop-place-preserved : goal.loop-place-preserved
loop-place-preserved c =
    let loop = c.loop-place.invariant in let seat = c.place.invariant in let view = c.place.view_is in
    let steps = c.in-Some.ensures.steps in let join = c.join_seat.ensures in
    let shown : IsHandOf c.place.inside.seat.me.0 c.in-Some.place = record {
      one = seat.one;
      marks = seat.marks ∙ ap (λ (s : SeatView). cond s.marked 1 0) view;
      draws = ap (λ (s : SeatView). s.draws) view;
      least = ap (λ (s : SeatView). s.least) view;
    } in
    record {
      can_next = tt;
      is_finite = tt;
      same = join.0 ∙ loop.same;
      no_slot = ap (λ m. m.1) join.2 ∙ loop.no_slot;
      ours = All-rest (IsOfTable c.args.table.now.shared.table_id) c.in-Some.place _ _ steps.0 loop.ours;
      taken = takes_one _ _ _ c.in-Some.place _ _ (rw steps.0 at loop.taken) shown (ap (λ m. m.0) join.2);
    }
