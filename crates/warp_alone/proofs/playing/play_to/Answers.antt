use Rattle.warp_part.specs.Placing.{place_source, place_given}
use Rattle.warp_process.specs.View.{given_by}
use Rattle.warp_block.proofs.Stepping.{brought_as, engine_on}
use Rattle.warp_alone.proofs.Stepping.{ran}
use Rattle.warp_alone.proofs.playing.play_to.Goals as goal

pub play-requires-clause-may : goal.play-requires-clause-may
play-requires-clause-may c = record {
  of = ran c.args.heard.now c.args.engine.now c.requires.engine.0 c.requires.engine.1;
  ahead = c.requires.ahead;
  brought = brought_as c.args.heard.now c.args.engine.now.book.mark c.args.time c.bring.new.words.items c.as_slice.result.now c.as_slice.ensures.value c.in_ok-bring.ensures;
}

pub returns-clause-engine : goal.returns-clause-engine
returns-clause-engine c =
    let v = c.args.heard.now in
    let run = c.args.engine.now in
    let done = c.in_ok-play.ensures.ok in
    let floor = c.requires.engine.0 in (
      floor,
      engine_on v floor run c.play.new.self c.requires.engine.1 done.like
          (done.follows (place_source v.part) (place_given v.part (given_by v)) floor c.requires.engine.1.run.is
          (brought_as v run.book.mark c.args.time c.bring.new.words.items c.as_slice.result.now c.as_slice.ensures.value c.in_ok-bring.ensures)),
    )
