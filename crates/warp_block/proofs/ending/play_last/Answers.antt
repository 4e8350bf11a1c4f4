use Rattle.warp_part.specs.Placing.{place_source, place_given}
use Rattle.warp_process.specs.Played.{played_view}
use Rattle.warp_process.specs.View.{given_by}
use Rattle.warp_process.proofs.Playing.{played_lawful}
use Rattle.warp_block.proofs.Unheard.{quiet_unheard}
use Rattle.warp_block.proofs.Stepping.{ran, brought_as, engine_on}
use Rattle.warp_block.proofs.ending.play_last.Goals as goal

pub bring-requires-clause-quiet : goal.bring-requires-clause-quiet
bring-requires-clause-quiet c = λ t a b.
    let v = c.args.heard.now in
    let run = c.args.engine.now in
    quiet_unheard (played_view v run.book.mark) (played_lawful v run.book.mark c.requires.at.engine.received) t (c.requires.quiet t a (rw c.horizon-time.ensures.horizon at b))

pub play-requires-clause-may : goal.play-requires-clause-may
play-requires-clause-may c = record {
  of = ran c.args.heard.now c.args.engine.now c.args.times.now c.requires.at;
  ahead = rw c.horizon-time.ensures.horizon c.requires.ahead;
  brought = brought_as c.args.heard.now c.args.engine.now.book.mark c.horizon-time.result c.bring.new.words.items c.as_slice.result.now c.as_slice.ensures.value c.in_ok-bring.ensures;
}

pub returns-clause-engine : goal.returns-clause-engine
returns-clause-engine c =
    let v = c.args.heard.now in
    let run = c.args.engine.now in
    let floor = c.args.times.now.first in
    let done = c.in_ok-play.ensures.ok in
    engine_on v floor run c.play.new.self c.requires.at.engine done.like
    (done.follows (place_source v.part) (place_given v.part (given_by v)) floor c.requires.at.engine.run.is
    (brought_as v run.book.mark c.horizon-time.result c.bring.new.words.items c.as_slice.result.now c.as_slice.ensures.value c.in_ok-bring.ensures))

pub returns-in_err-play-clause-engine : goal.returns-in_err-play-clause-engine
returns-in_err-play-clause-engine c =
    let v = c.args.heard.now in
    let run = c.args.engine.now in
    let floor = c.args.times.now.first in
    let kept = c.in_err-play.ensures.err in
    engine_on v floor run c.play.new.self c.requires.at.engine kept.like
    (kept.follows (place_source v.part) (place_given v.part (given_by v)) floor c.requires.at.engine.run.is
    (brought_as v run.book.mark c.horizon-time.result c.bring.new.words.items c.as_slice.result.now c.as_slice.ensures.value c.in_ok-bring.ensures))
