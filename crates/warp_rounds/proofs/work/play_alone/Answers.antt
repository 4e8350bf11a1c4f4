use Rattle.std.proofs.Common.{◌≡◌, ◌∙◌, [], ◌∷◌, ◌++◌, List, All, length, refl, ap, subst, arith}
use Rattle.std.proofs.lemmas.List.Elements.{All-nil, All-push, All-same}
use Rattle.warp_rounds.specs.Seats.{SeatView}
use Rattle.warp_rounds.specs.Inner.Work.{IsOver, IsPlayedOut}
use Rattle.warp_rounds.proofs.Working.{over_laps, stalled_round, never_refused}
use Rattle.warp_rounds.proofs.work.play_alone.Goals.{in_default-end-2, in_default-end}
use Rattle.warp_rounds.proofs.work.play_alone.Goals as goal

pub returns-clause-fault : goal.returns-clause-fault
returns-clause-fault g c =
    let r = c.in_ok-round.round.round in
    let floor = c.args.order.floor in
    let window = c.args.order.window in
    let seat : SeatView = c.work-seat.result.seat in
    let out : IsPlayedOut r floor window seat = subst (IsOver (length c.args.sites.now) r floor window seat) c.in_default-fault.is c.work-seat.ensures in
    let items : c.push.new.self.items ≡ [] ++ seat ∷ [] = c.in_ok-push.ensures.items ∙ ap (λ (ss : List SeatView). ss ++ seat ∷ []) c.new-back.ensures.items in
    let all : All (IsPlayedOut r floor window) c.push.new.self.items = All-same (IsPlayedOut r floor window) _ _ items (All-push (IsPlayedOut r floor window) [] seat (All-nil (IsPlayedOut r floor window)) out) in
    elim c.match-end.branch [
      | in_default-end-2 w ↦ rw w.result-is (refl, stalled_round r floor window c.requires.floor c.push.new.self.items all (omega (arith, w.in-Ok.ensures.answer.2, w.if-order-least.false)))
      | in_default-end w ↦ absurd (never_refused c.in_ok-round.round r floor window c.push.new.self.items _ (omega (arith, c.in_ok-round.ensures.seats)) (omega (arith, ap length items, c.in_ok-round.ensures.seats)) all w.in_default-end.ensures.answer)
    ]

pub work-seat-requires-clause-count : goal.work-seat-requires-clause-count
work-seat-requires-clause-count g c = over_laps (length c.args.sites.now) c.laps.result c.draws_of-draws.result c.in_ok-round.round.round c.draws_of-draws.ensures c.in_ok-round.ensures.blocks
