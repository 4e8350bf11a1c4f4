use Rattle.std.proofs.Common.{sym, subst}
use Rattle.event_times.specs.Marks.{Played}
use Rattle.warp_part.specs.Placing.{place_source, place_given}
use Rattle.warp_process.specs.Played.{played_view}
use Rattle.warp_process.specs.View.{given_by}
use Rattle.warp_process.proofs.Playing.{played_lawful}
use Rattle.warp_block.proofs.Unheard.{quiet_unheard}
use Rattle.warp_block.specs.Inner.Held.{IsAt}
use Rattle.warp_block.proofs.Stepping.{ran, brought_as, least_floor, least_quiet, at_below, at_played, at_unplayed}
use Rattle.warp_block.proofs.play.play_time.Goals as goal

pub bring-requires-clause-floor : goal.bring-requires-clause-floor
bring-requires-clause-floor c = least_floor c.args.heard.now c.args.engine.now c.args.times.now c.requires.at c.args.time c.requires.next

pub bring-requires-clause-quiet : goal.bring-requires-clause-quiet
bring-requires-clause-quiet c = λ t a b.
    let v = c.args.heard.now in
    let run = c.args.engine.now in
    quiet_unheard (played_view v run.book.mark) (played_lawful v run.book.mark c.requires.at.engine.received) t (least_quiet v run c.args.times.now c.requires.at c.args.time c.requires.next t a b)

pub push-requires : goal.push-requires
push-requires c = at_below c.args.heard.now c.args.engine.now c.args.times.now c.requires.at c.args.time c.requires.next.0.0

pub play-requires-clause-may : goal.play-requires-clause-may
play-requires-clause-may c = record {
  of = ran c.args.heard.now c.args.engine.now c.args.times.now c.requires.at;
  ahead = c.requires.next.0.0;
  brought = brought_as c.args.heard.now c.args.engine.now.book.mark c.args.time c.bring.new.words.items c.as_slice.result.now c.as_slice.ensures.value c.in_ok-bring.ensures;
}

pub returns-in-Ok-clause-at : goal.returns-in-Ok-clause-at
returns-in-Ok-clause-at c =
    let v = c.args.heard.now in
    let run = c.args.engine.now in
    let played = c.args.times.now in
    let done = c.in-Ok.ensures.ok in
    subst (λ (p : Played). IsAt v c.play.new.self p) (sym c.in_ok-push.ensures.ok)
    (at_played v run played c.requires.at c.args.time c.requires.next c.play.new.self done.mark done.like
    (done.follows (place_source v.part) (place_given v.part (given_by v)) played.first c.requires.at.engine.run.is
    (brought_as v run.book.mark c.args.time c.bring.new.words.items c.as_slice.result.now c.as_slice.ensures.value c.in_ok-bring.ensures)))

pub returns-in-Err-clause-at : goal.returns-in-Err-clause-at
returns-in-Err-clause-at c =
    let v = c.args.heard.now in
    let run = c.args.engine.now in
    let played = c.args.times.now in
    let kept = c.in-Err.ensures.err in
    at_unplayed v run played c.requires.at c.args.time c.requires.next c.play.new.self kept.mark kept.like
    (kept.follows (place_source v.part) (place_given v.part (given_by v)) played.first c.requires.at.engine.run.is
    (brought_as v run.book.mark c.args.time c.bring.new.words.items c.as_slice.result.now c.as_slice.ensures.value c.in_ok-bring.ensures)) c.cut_from.new.self
    (rw c.in_ok-push.ensures.ok at c.cut_from.ensures)
