use Rattle.std.proofs.Common.{◌≡◌, ◌≤◌, ◌+◌, ℕ, length, arith, ap}
use Rattle.std.specs.List.{between}
use Rattle.warp_stores.specs.declared.place.Place.{Place}
use Rattle.warp_stores.proofs.Seeking.{words_fit}
use Rattle.warp_stores.proofs.Batches.{span_more, span_less, told_start, told_on, told_all}
use Rattle.warp_stores.proofs.place.tell.Goals as goal

pub loop-place-init : goal.loop-place-init
loop-place-init g c = told_start c.args.delay c.args.last c.args.stops.now c.args.words.now c.args.from c.args.batch.now c.requires.span

pub behind-next-requires-clause-words : goal.behind-next-requires-clause-words
behind-next-requires-clause-words g c =
    omega (arith, words_fit c.args.stops.now c.loop-place.place c.index-stops-place.result (c.loop-place.invariant.0).end (omega (arith, c.loop-place-test.true)) c.index-stops-place.is, c.requires.fits)

pub part-requires-clause-within : goal.part-requires-clause-within
part-requires-clause-within g c =
    let words : c.behind-next.result.words ≡ c.loop-place.place.words + c.index-stops-place.result.count = ap (λ (p : Place). p.words) c.behind-next.ensures in
    omega (arith, words_fit c.args.stops.now c.loop-place.place c.index-stops-place.result (c.loop-place.invariant.0).end (omega (arith, c.loop-place-test.true)) c.index-stops-place.is, c.requires.whole, words)

pub loop-place-preserved : goal.loop-place-preserved
loop-place-preserved g c =
    let within : c.loop-place.place.stops ≤ length c.args.stops.now = (c.loop-place.invariant.0).end.within in
    let words : c.behind-next.result.words ≡ c.loop-place.place.words + c.index-stops-place.result.count = ap (λ (p : Place). p.words) c.behind-next.ensures in
    let part : c.part.result.now ≡ between c.loop-place.place.words (c.loop-place.place.words + c.index-stops-place.result.count) c.args.words.now = rw words at c.part.ensures in
    rw c.behind-next.ensures (
      span_more c.args.stops.now c.args.from c.loop-place.place c.index-stops-place.result c.loop-place.invariant.0 (omega (arith, c.loop-place-test.true)) c.index-stops-place.is,
      span_less c.args.stops.now c.loop-place.place _ c.index-stops-place.result c.loop-place.invariant.1 (omega (arith, c.loop-place-test.true)) c.index-stops-place.is,
      told_on c.args.delay c.args.last _ c.args.stops.now c.args.words.now c.part.result.now c.args.from c.loop-place.place c.index-stops-place.result c.args.batch.now c.loop-place.batch c.tell_stop.new.batch
          c.requires.whole c.loop-place.invariant.0 (omega (arith, c.loop-place-test.true)) c.index-stops-place.is part (ap (λ (n : ℕ). n + c.args.delay) c.time.ensures.time) c.loop-place.invariant.2 c.in_ok-tell_stop.ensures.told c.in_ok-tell_stop.ensures.over,
    )

pub returns-clause-ok : goal.returns-clause-ok
returns-clause-ok g c =
    told_all c.args.delay c.args.last c.args.stops.now c.args.words.now c.args.from c.loop-place.place c.args.batch.now c.loop-place.batch c.requires.whole c.loop-place.invariant.0 c.loop-place.invariant.1 (omega (arith, c.loop-place-test.false)) c.loop-place.invariant.2
