use Rattle.std.proofs.Common.{ℕ, None, get_or, sym, ap, ◌∙◌}
use Rattle.net_waves.specs.declared.timeline.NetMove.{NetMove}
use Rattle.history_waves.proofs.Pending.{own_one, own_other}
use Rattle.history_waves.proofs.merging.list_word.Goals as goal

pub returns-in_ok-push-in-Some : goal.returns-in_ok-push-in-Some
returns-in_ok-push-in-Some c =
    let m : NetMove = record { net = c.in-Some.net; value = c.after.result } in
    rw c.in_ok-push-in-Some.ensures.items
    (own_one c.args.own.now c.args.time c.args.moves.now.items c.args.word m
    (ap (λ (k : ℕ). get_or c.args.own.now k None) (sym c.place.ensures.place) ∙ sym c.in-Some.ensures) (sym c.after.ensures))

pub returns-in-None : goal.returns-in-None
returns-in-None c =
    own_other c.args.own.now c.args.time c.args.moves.now.items (c.args.time, c.args.word)
    (ap (λ (k : ℕ). get_or c.args.own.now k None) (sym c.place.ensures.place) ∙ sym c.in-None.ensures)
