use Rattle.std.proofs.Common.{◌≡◌, ◌∙◌, ℕ, ◌++◌, Option, Some, None, IfSome, Ok, ◌∷◌, ap, sym, subst, arith}
use Rattle.std.proofs.lemmas.List.{nil_from_length}
use Rattle.std.specs.Vec.Iter.{into_iter_items}
use Rattle.net_waves.specs.declared.timeline.Stop.{Stop}
use Rattle.net_waves.specs.declared.by_time.ByTime.{ByTime}
use Rattle.net_waves.specs.ByTime.{stops_in}
use Rattle.net_waves.specs.Timeline.{count}
use Rattle.net_waves.proofs.Counting.{count-append}
use Rattle.history_waves.specs.Inner.Begins.{stops_of, AreAllTold, count_told}
use Rattle.history_waves.proofs.parts.joined.Goals as goal

pub loop-part-preserved : goal.loop-part-preserved
loop-part-preserved c =
    let h = c.loop-part.invariant in
    let rest = into_iter_items c.next.new.self in
    let more = c.in-Some-2.more in
    let before = c.loop-part.all in
    let left : into_iter_items c.loop-part.part-iterator ≡ Ok (Some more) ∷ rest = c.in-Some.ensures.steps.0 ∙ ap (λ p. p ∷ rest) (c.in_ok-more.was ∙ ap Ok c.in-Some-2.is) in
    let appended : stops_in c.in-Some-3.both ≡ stops_of before ++ stops_in more = subst (λ (o : Option ByTime). IfSome o (λ all. stops_in all ≡ stops_of before ++ stops_in more)) c.in-Some-3.is c.in_ok-both.ensures in
    record {
      can_next = tt;
      is_finite = tt;
      told = λ are. h.told (subst AreAllTold (sym left) are);
      count = λ s. omega (arith, h.count s, ap (count_told s) left, ap (count s) appended, count-append s (stops_of before) (stops_in more));
    }

pub returns-clause-count : goal.returns-clause-count
returns-clause-count c =
    all_told c.loop-part.all (λ s. count_told s c.args.parts.items)
    (λ s. omega (arith, c.loop-part.invariant.count s, ap (count_told s) (nil_from_length (into_iter_items c.loop-part.part-iterator) (omega (arith, c.in-None.ensures.steps.0, c.loop-part.part-iterator.rest.ok.0)))))
  where
    all_told : (all : Option ByTime) (many : Stop → ℕ) → ((s : Stop) → count s (stops_of all) ≡ many s) → IfSome all (λ by_time. (s : Stop) → count s (stops_in by_time) ≡ many s)
    all_told None many h = tt
    all_told (Some by_time) many h = h
