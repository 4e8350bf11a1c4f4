use Rattle.std.proofs.Common.{arith}
use Rattle.warp_part.specs.Placing.{place_source, place_given}
use Rattle.warp_process.specs.View.{given_by}
use Rattle.warp_block.proofs.Stepping.{ran, brought_as, at_begun, at_kept}
use Rattle.warp_block.proofs.play.begin.Goals as goal

pub play-requires-clause-may : goal.play-requires-clause-may
play-requires-clause-may c = record {
  of = ran c.args.heard.now c.args.engine.now c.args.times.now c.requires.at;
  ahead = (let e = c.requires.mark in omega (arith, e));
  brought = brought_as c.args.heard.now c.args.engine.now.book.mark 0 c.bring_first.new.words.items c.as_slice.result.now c.as_slice.ensures.value c.in_ok-bring_first.ensures;
}

pub returns-clause-at : goal.returns-clause-at
returns-clause-at c =
    let v = c.args.heard.now in
    let run = c.args.engine.now in
    let played = c.args.times.now in
    let done = c.in_ok-play.ensures.ok in
    at_begun v run played c.requires.at c.requires.mark c.requires.quiet c.play.new.self done.mark done.like
    (done.follows (place_source v.part) (place_given v.part (given_by v)) played.first c.requires.at.engine.run.is
    (brought_as v run.book.mark 0 c.bring_first.new.words.items c.as_slice.result.now c.as_slice.ensures.value c.in_ok-bring_first.ensures))

pub returns-in_err-play-clause-at : goal.returns-in_err-play-clause-at
returns-in_err-play-clause-at c =
    let v = c.args.heard.now in
    let run = c.args.engine.now in
    let played = c.args.times.now in
    let kept = c.in_err-play.ensures.err in
    at_kept v run played c.requires.at c.play.new.self kept.mark kept.like
    (kept.follows (place_source v.part) (place_given v.part (given_by v)) played.first c.requires.at.engine.run.is
    (brought_as v run.book.mark 0 c.bring_first.new.words.items c.as_slice.result.now c.as_slice.ensures.value c.in_ok-bring_first.ensures))
