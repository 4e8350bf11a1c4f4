use Rattle.std.proofs.Common.{arith, not, drop, ap, sym, ◌∙◌}
use Rattle.std.proofs.lemmas.List.Sums.{prefix_len-le-length}
use Rattle.warp_core.specs.Schedule.{is_blank}
use Rattle.warp_core.proofs.ScheduleWords.{words-none, words-first}
use Rattle.warp_core.proofs.schedule.words.next_word.Goals as goal

pub split_at-requires : goal.split_at-requires
split_at-requires c = omega (arith, c.blank_len.ensures, prefix_len-le-length is_blank c.args.text.now)

pub returns-then-is_empty-clause-none : goal.returns-then-is_empty-clause-none
returns-then-is_empty-clause-none c =
    words-none c.args.text.now c.split_at.result.1.now (c.split_at.ensures.back ∙ ap (λ n. drop n c.args.text.now) c.blank_len.ensures) (sym c.is_empty.ensures ∙ c.if-is_empty.true)

pub split_at-requires-2 : goal.split_at-requires-2
split_at-requires-2 c = omega (arith, c.word_len.ensures, prefix_len-le-length (λ b. not (is_blank b)) c.split_at.result.1.now)

pub returns-clause-some : goal.returns-clause-some
returns-clause-some c =
    rw (c.split_at-2.ensures.front, c.split_at-2.ensures.back, c.word_len.ensures) (words-first c.args.text.now c.split_at.result.1.now
    (c.split_at.ensures.back ∙ ap (λ n. drop n c.args.text.now) c.blank_len.ensures) (sym c.is_empty.ensures ∙ c.if-is_empty.false))
