use Rattle.std.proofs.Common.{ap, ◌∙◌, arith}
use Rattle.warp_rounds.proofs.Ends.{IsOver, ends_with_all_drawn, ends_with_one_undrawn}
use Rattle.warp_rounds.proofs.round.Round.end.Goals as goal

pub returns-then-number-from : goal.returns-then-number-from
returns-then-number-from c =
    let view = c.self.view_is in let kept = c.self.invariant in
    let over : IsOver c.args.self c.args.seats.items _ _ _ _ _ _ = record {
      same = kept.blocks ∙ ap (λ r. r.round.blocks) view;
      as_many = kept.seats ∙ ap (λ r. r.seats) view;
      enough = omega (arith, ap (λ r. r.seats) view);
      taken = c.collected-own.ensures.all;
      last = c.last_words-number.ensures.last;
    } in
    record { answer = ends_with_one_undrawn _ _ _ _ _ _ _ _ over (omega (arith, ap (λ r. r.round.blocks) view)) }

pub returns : goal.returns
returns c =
    let view = c.self.view_is in let kept = c.self.invariant in
    let over : IsOver c.args.self c.args.seats.items _ _ _ _ _ _ = record {
      same = kept.blocks ∙ ap (λ r. r.round.blocks) view;
      as_many = kept.seats ∙ ap (λ r. r.seats) view;
      enough = omega (arith, ap (λ r. r.seats) view);
      taken = c.collected-own.ensures.all;
      last = c.last_words-number.ensures.last;
    } in
    record { answer = ends_with_all_drawn _ _ _ _ _ _ _ _ over (omega (arith, ap (λ r. r.round.blocks) view)) }
