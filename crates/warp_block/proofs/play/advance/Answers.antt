use Rattle.std.proofs.Common.{◌≡◌, ◌∙◌, ℕ, inl, inr, List, refl, ap, sym, subst, arith}
use Rattle.warp_stores.specs.Words.{Move}
use Rattle.warp_stores.specs.Dated.{Dated}
use Rattle.warp_stores.specs.Lists.{AreLonger}
use Rattle.warp_engine.specs.Runs.{Run, makings}
use Rattle.event_times.specs.Marks.{Played}
use Rattle.warp_process.specs.declared.message.Sign.TheVariants.{Plus}
use Rattle.warp_process.specs.Advance.{IsAfterEvent}
use Rattle.warp_process.specs.View.{View}
use Rattle.warp_sends.specs.Told.{AreTold}
use Rattle.warp_sends.proofs.Sending.{tells_longer}
use Rattle.warp_block.specs.Shown.Block.{seen_by}
use Rattle.warp_block.proofs.Resting.{rest_lawful, done_up}
use Rattle.warp_block.proofs.Stepping.{batch_there, batch_until}
use Rattle.warp_block.proofs.Finishing.{turn_longer, words_later, words_until, turn_advanced}
use Rattle.warp_block.proofs.play.advance.Goals as goal

pub give_up-requires-clause-quiet : goal.give_up-requires-clause-quiet
give_up-requires-clause-quiet c = λ t a b. c.requires.at.quiet t (omega (arith, a, c.mark-start.ensures)) b

pub give_up-requires-in-Err-tell_made-clause-quiet : goal.give_up-requires-in-Err-tell_made-clause-quiet
give_up-requires-in-Err-tell_made-clause-quiet c = λ t a b. c.requires.at.quiet t (omega (arith, a, c.mark-start.ensures)) b

pub returns-in-Ok-tell_made-clause-advanced : goal.returns-in-Ok-tell_made-clause-advanced
returns-in-Ok-tell_made-clause-advanced c =
    turn_advanced c.args.heard.now c.args.engine.now c.args.times.now c.requires.at c.play.new.engine c.play.new.times c.play.ensures.at c.play.ensures.on c.in-Ok.finished c.in-Ok.ensures.advanced

pub returns-in-Ok-tell_made-clause-all : goal.returns-in-Ok-tell_made-clause-all
returns-in-Ok-tell_made-clause-all c = elim c.in-Ok.ensures.all [
  | inl whole ↦ inl whole
  | inr less ↦ inr (less.0, done_up c.args.heard.now c.play.new.engine c.play.new.times c.play.ensures.at less.1)
]

pub returns-in-Ok-tell_made-clause-sends : goal.returns-in-Ok-tell_made-clause-sends
returns-in-Ok-tell_made-clause-sends c =
    let v : View = c.args.heard.now in
    let start : Run = c.args.engine.now in
    let begun : Played = c.args.times.now in
    let run : Run = c.play.new.engine in
    let played : Played = c.play.new.times in
    let told : AreTold Plus v.part (makings start.book.mark run) c.args.out.now.items c.tell_made.new.out.items =
    subst (λ (s : ℕ). AreTold Plus v.part (makings s run) c.args.out.now.items c.tell_made.new.out.items) c.mark-start.ensures c.in-Ok-tell_made.ensures.told in
    tells_longer (seen_by v start) (seen_by v run) (IsAfterEvent (seen_by v start)) (makings start.book.mark run) c.args.out.now.items c.tell_made.new.out.items
    (rest_lawful v run played c.play.ensures.at) refl (turn_longer v start begun c.requires.at run played c.play.ensures.at c.play.ensures.on)
    (words_later v start begun c.requires.at run played c.play.ensures.at c.play.ensures.on) (words_until v start begun c.requires.at run played c.play.ensures.at c.play.ensures.on) told

pub returns-in-Ok-tell_made-clause-longer : goal.returns-in-Ok-tell_made-clause-longer
returns-in-Ok-tell_made-clause-longer c =
    let v : View = c.args.heard.now in
    let start : Run = c.args.engine.now in
    let run : Run = c.play.new.engine in
    let words : c.tell_made.new.batch ≡ makings start.book.mark run = c.in-Ok-tell_made.ensures.words ∙ ap (λ (s : ℕ). makings s run) c.mark-start.ensures in
    subst (λ (ws : List (Dated Move)). AreLonger ws (seen_by v start).logs (seen_by v run).logs) (sym words)
    (turn_longer v start c.args.times.now c.requires.at run c.play.new.times c.play.ensures.at c.play.ensures.on)

pub returns-in-Ok-tell_made-clause-there : goal.returns-in-Ok-tell_made-clause-there
returns-in-Ok-tell_made-clause-there c =
    batch_there c.args.heard.now c.play.new.engine c.play.new.times c.play.ensures.at c.mark-start.result c.tell_made.new.batch c.in-Ok-tell_made.ensures.words

pub returns-in-Ok-tell_made-clause-until : goal.returns-in-Ok-tell_made-clause-until
returns-in-Ok-tell_made-clause-until c =
    batch_until c.args.heard.now c.play.new.engine c.play.new.times c.play.ensures.at c.mark-start.result c.tell_made.new.batch c.in-Ok-tell_made.ensures.words
