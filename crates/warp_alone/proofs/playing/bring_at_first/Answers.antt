use Rattle.std.proofs.Common.{◌∙◌, sym}
use Rattle.std.proofs.lemmas.Bool.{true≢false}
use Rattle.warp_alone.proofs.Stepping.{not_first}
use Rattle.warp_alone.proofs.playing.bring_at_first.Goals as goal

pub bring_first-requires-clause-quiet : goal.bring_first-requires-clause-quiet
bring_first-requires-clause-quiet c =
    not_first c.args.heard.now c.next_time.result (rw c.requires.mark at c.next_time.ensures) (λ e. true≢false (sym (rw e at c.eq.ensures) ∙ c.if-eq.false))
