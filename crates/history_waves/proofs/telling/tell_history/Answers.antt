use Rattle.std.proofs.Common.{◌≡◌, ◌∙◌, ◌+◌, ℕ, List, Result, Ok, Err, Bool, true, IfOk, ap}
use Rattle.std.specs.declared.alloc.AllocError.{AllocError}
use Rattle.net_waves.specs.declared.timeline.Stop.{Stop}
use Rattle.net_waves.specs.Timeline.{count}
use Rattle.warp_stores.specs.Words.{Move}
use Rattle.warp_stores.specs.Dated.{Dated}
use Rattle.history_waves.specs.Histories.{own_stops, AreBoth}
use Rattle.history_waves.proofs.Parting.{own_whole}
use Rattle.history_waves.proofs.telling.tell_history.Goals as goal

pub returns : goal.returns
returns g c = go c.tell_all.result c.tell_all.ensures
  where
    go : (answer : Result Bool AllocError) → IfOk answer (λ done. done ≡ true → ((all : List Stop) × g.T.Taker.took c.args.taker.now c.tell_all.new.taker all × AreBoth c.args.own.now c.args.given.now c.between-words.result all))
        → IfOk answer (λ done. done ≡ true → ((all : List Stop) × g.T.Taker.took c.args.taker.now c.tell_all.new.taker all × AreBoth c.args.own.now c.args.given.now c.args.history.now all))
    go (Ok done) told = λ all. (
      (told all).0,
      (told all).1,
      (λ s. (told all).2 s ∙ ap (λ (n : ℕ). count s c.args.given.now + n) (ap (λ (ds : List (Dated Move)). count s (own_stops c.args.own.now ds)) c.between-words.ensures ∙ own_whole c.args.own.now s c.args.history.now)),
    )
    go (Err error) told = told
