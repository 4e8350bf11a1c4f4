use Rattle.std.proofs.Common.{List, ℕ, map, sym, subst}
use Rattle.net_waves.specs.Timeline.{IsRising}
use Rattle.net_waves.specs.Packed.{told, times}
use Rattle.net_waves.proofs.Joining.{rising-at}
use Rattle.net_waves.proofs.packed.Packed.append_time.Goals as goal

pub append_words-requires : goal.append_words-requires
append_words-requires c =
    subst (λ (ws : List ℕ). IsRising (map (told c.args.time) ws)) (sym c.words-words.ensures) (rising-at c.args.later.now (times c.args.later.now) c.args.time c.requires c.law.ensures.rising)
