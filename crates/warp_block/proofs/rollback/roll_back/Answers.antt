use Rattle.std.proofs.Common.{◌<◌, List, length, get_or, sym, subst, arith, All}
use Rattle.event_times.specs.Marks.{Played}
use Rattle.warp_stores.specs.Words.{Move}
use Rattle.warp_stores.specs.Dated.{Dated}
use Rattle.warp_stores.specs.Lists.{AreLonger}
use Rattle.warp_engine.specs.Runs.{Run}
use Rattle.warp_part.specs.Portion.{Portion}
use Rattle.warp_process.specs.declared.message.Sign.TheVariants.{Minus}
use Rattle.warp_process.specs.View.{View}
use Rattle.warp_sends.specs.Told.{AreTold}
use Rattle.warp_sends.proofs.Sending.{takes_back_shorter}
use Rattle.warp_block.specs.Shown.Block.{seen_by}
use Rattle.warp_block.proofs.Resting.{rest_lawful}
use Rattle.warp_block.proofs.Returning.{returned_at, returned_longer}
use Rattle.warp_block.proofs.Stepping.{ran, batch_there, batch_later, batch_until}
use Rattle.warp_block.proofs.rollback.roll_back.Goals as goal

pub take_back-requires : goal.take_back-requires
take_back-requires c =
    subst (λ (p : Portion). All (λ (d : Dated Move). d.1.place < length p.nets) c.tell_since.new.batch) (sym c.part.ensures)
    (batch_there c.args.heard.now c.args.engine.now c.args.times.now c.requires.at c.args.time c.tell_since.new.batch c.in_ok-tell_since.ensures)

pub go_back-requires : goal.go_back-requires
go_back-requires c =
    let at = c.requires.at in
    record {
      of = ran c.args.heard.now c.args.engine.now c.args.times.now at;
      low = (let low = at.low in let from = c.requires.from in omega (arith, low, from));
      high = (let late = c.requires.late in omega (arith, late));
    }

pub returns-in-Ok-clause-at : goal.returns-in-Ok-clause-at
returns-in-Ok-clause-at c =
    let v : View = c.args.heard.now in
    returned_at v c.put.new.self (get_or v.part.nets c.args.slot 0) c.args.time c.args.entry c.in-Ok.ensures.put c.requires.at.engine.received c.law.ensures
    c.args.engine.now c.args.times.now c.requires.at c.requires.from c.requires.late c.go_back.new.self c.go_back.ensures c.cut_from.new.self c.cut_from.ensures

pub returns-in-Ok-clause-longer : goal.returns-in-Ok-clause-longer
returns-in-Ok-clause-longer c =
    let v : View = c.args.heard.now in
    let run : Run = c.args.engine.now in
    subst (λ (ws : List (Dated Move)). AreLonger ws (seen_by c.put.new.self c.go_back.new.self).logs (seen_by v run).logs) (sym c.in_ok-tell_since.ensures)
    (returned_longer v c.put.new.self (get_or v.part.nets c.args.slot 0) c.args.time c.args.entry c.in-Ok.ensures.put c.requires.at.engine.received c.law.ensures
    run c.args.times.now c.requires.at c.requires.from c.requires.late c.go_back.new.self c.go_back.ensures c.cut_from.new.self c.cut_from.ensures)

pub returns-in-Ok-clause-sends : goal.returns-in-Ok-clause-sends
returns-in-Ok-clause-sends c =
    let v : View = c.args.heard.now in
    let run : Run = c.args.engine.now in
    let played : Played = c.args.times.now in
    let at = c.requires.at in
    let made = c.in_ok-tell_since.ensures in
    let longer : AreLonger c.tell_since.new.batch (seen_by c.put.new.self c.go_back.new.self).logs (seen_by v run).logs =
    subst (λ (ws : List (Dated Move)). AreLonger ws (seen_by c.put.new.self c.go_back.new.self).logs (seen_by v run).logs) (sym made)
    (returned_longer v c.put.new.self (get_or v.part.nets c.args.slot 0) c.args.time c.args.entry c.in-Ok.ensures.put at.engine.received c.law.ensures
    run played at c.requires.from c.requires.late c.go_back.new.self c.go_back.ensures c.cut_from.new.self c.cut_from.ensures) in
    let told : AreTold Minus v.part c.tell_since.new.batch c.args.out.now.items c.take_back.new.out.items =
    subst (λ (p : Portion). AreTold Minus p c.tell_since.new.batch c.args.out.now.items c.take_back.new.out.items) c.part.ensures c.in_ok-take_back.ensures.ok in
    takes_back_shorter (seen_by v run) (seen_by c.put.new.self c.go_back.new.self) (λ t. c.args.time < t) c.tell_since.new.batch c.args.out.now.items c.take_back.new.out.items
    (rest_lawful v run played at) c.in-Ok.ensures.put.part longer
    (batch_later v run played at c.args.time c.tell_since.new.batch made) (batch_until v run played at c.args.time c.tell_since.new.batch made) told

pub returns-in-Ok-clause-there : goal.returns-in-Ok-clause-there
returns-in-Ok-clause-there c = batch_there c.args.heard.now c.args.engine.now c.args.times.now c.requires.at c.args.time c.tell_since.new.batch c.in_ok-tell_since.ensures
