use Rattle.std.proofs.Common.{ℕ, List, sym, ap, ◌∙◌}
use mathlib.Core.Option.{some-injective}
use lib.ListN.{get_elem?}
use Rattle.warp_rounds.proofs.round.last_words.Goals as goal

pub returns : goal.returns
returns c =
    let final = c.close_with-closed.ensures.values.2 in let kept = final.1.0 in
    let words = sym kept.words ∙ final.2 in
    record {
      last = record {
        state = final.0;
        kept = kept;
        there = final.1.1;
        number_is = some-injective _ _ (ap (λ (ws : List ℕ). get_elem? ws 0) words ∙ c.word-number.ensures);
        least_is = some-injective _ _ (ap (λ (ws : List ℕ). get_elem? ws 1) words ∙ c.word-least.ensures);
      };
    }
