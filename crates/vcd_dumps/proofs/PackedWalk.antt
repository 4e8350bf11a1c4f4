-- What is written of changes that are packed into words.
use Rattle.std.proofs.Common.{◌≡◌, ℕ, zero, suc, ◌+◌, ◌<◌, ◌≤◌, inl, inr, Bool, true, false, cond, List, [], ◌∷◌, length, map, refl, ap, sym, ◌∙◌, subst, arith}
use Rattle.std.specs.List.{AllByRecursion}
use Rattle.gate_values.specs.declared.logic.Change.{Change}
use Rattle.byte_sinks.specs.Sink.{Held}
use Rattle.net_waves.specs.Waves.{wave_of, wave_value, IsWave, IsUntil}
use Rattle.net_waves.specs.declared.timeline.Stop.{Stop}
use Rattle.byte_sinks.specs.Lots.{Lot, Passes}
use Rattle.net_waves.specs.Timeline.{AtMost, Before, IsRising, is_same, count}
use Rattle.net_waves.specs.Stops.{AreStopsOf}
use Rattle.net_waves.specs.Packed.{Packed, IsPacked, told, words_at, told_below, all_told, times}
use Rattle.vcd_dumps.specs.Walk.{walked, last_stop}
use Rattle.vcd_dumps.specs.Inner.Walk.{GoesOn}
use Rattle.net_waves.proofs.Compared.{cases_below}
use Rattle.net_waves.proofs.Counting.{is_same-is, one-self, All-at}
use Rattle.net_waves.proofs.TimelineLaws.{AtMost-refl}
use Rattle.vcd_dumps.proofs.Walking.{walked-append, last_stop-append, All-parts, goes_then}
use Rattle.net_waves.proofs.MergeLaws.{head_is}
use Rattle.vcd_dumps.proofs.Stops.{all_stops, all_stops-rising, known_below}
use Rattle.vcd_dumps.proofs.WaveStops.{stops_are}

at_most : (x y : Stop) → Before x y → AtMost x y
at_most x y (inl e) = inl e
at_most x y (inr e) = inr (e.0, omega (arith, e.1))

-- two lists that rise and have the same stops are one
pub rising-same : (xs all : List Stop) → IsRising xs → IsRising all → ((s : Stop) → count s xs ≡ count s all) → xs ≡ all
rising-same [] [] rise up same = refl
rising-same [] (y ∷ ys) rise up same = absurd (omega (arith, same y, one-self y))
rising-same (x ∷ xs) all rise up same =
    let head = head_is x all up (omega (arith, same x, one-self x)) least in
    let left : (s : Stop) → count s xs ≡ count s head.0 = λ s. omega (arith, same s, ap (count s) head.1) in
    ap (λ ys. x ∷ ys) (rising-same xs head.0 rise.1 head.2 left) ∙ sym head.1
  where
    least : (y : Stop) → 0 < count y all → AtMost x y
    least y some = go (is_same y x) refl (omega (arith, same y))
      where
        go : (b : Bool) → is_same y x ≡ b → 0 < cond b 1 0 + count y xs → AtMost x y
        go true e h = subst (AtMost x) (sym (is_same-is y x e)) (AtMost-refl x)
        go false e h = at_most x y (All-at (Before x) y xs rise.0 (omega arith))

-- what is told is the changes up to the horizon
pub told-all : (lists : List (List Change)) (p : Packed) (horizon : ℕ) → IsPacked p → AreStopsOf lists (all_told p) → ((n : ℕ) → IsWave (wave_of lists n)) → ((n : ℕ) → IsUntil horizon (wave_of lists n)) → all_told p ≡ all_stops (wave_value lists) (length lists) (suc horizon)
told-all lists p horizon is stops waves until =
    rising-same (all_told p) (all_stops (wave_value lists) (length lists) (suc horizon)) is.rising (all_stops-rising (wave_value lists) (length lists) (suc horizon)) (stops_are lists (all_told p) horizon stops waves until)

known-below : (P : Stop → Type 0) (p : Packed) (n t : ℕ) → AllByRecursion P (told_below p n) → t < n → AllByRecursion P (map (told t) (words_at p t))
known-below P p zero t a h = absurd (omega arith)
known-below P p (suc n) t a h =
    let parts = All-parts P (told_below p n) (map (told n) (words_at p n)) a in
    elim (cases_below t n h) [
      | inl below ↦ known-below P p n t parts.0 below
      | inr here ↦ subst (λ (u : ℕ). AllByRecursion P (map (told u) (words_at p u))) (sym here) parts.1
    ]

-- of the nets that there are
pub told-known : (p : Packed) (t : ℕ) → AllByRecursion (λ (s : Stop). s.net < 1000000) (all_told p) → t < times p → AllByRecursion (λ (s : Stop). s.net < 1000000) (map (told t) (words_at p t))
told-known p t all known = known-below (λ (s : Stop). s.net < 1000000) p (times p) t all known

pub all-known : (lists : List (List Change)) (p : Packed) (horizon : ℕ) → all_told p ≡ all_stops (wave_value lists) (length lists) (suc horizon) → length lists ≤ 1000000 → AllByRecursion (λ (s : Stop). s.net < 1000000) (all_told p)
all-known lists p horizon all few = subst (AllByRecursion (λ (s : Stop). s.net < 1000000)) (sym all) (known_below (wave_value lists) (length lists) 1000000 (suc horizon) few)

-- what is told from one time on, and below another, has been written
pub record AreTold (old new : Held) (from to : Lot) (last : ℕ) (p : Packed) (first t : ℕ) : Type 0 where
  pub text : GoesOn old new from (walked 0 (told_below p first)) (walked 0 (told_below p t)) to
  pub end : last ≡ last_stop 0 (told_below p t)

-- a time more
pub told-more : (old mid new : Held) (from mid_lot to : Lot) (last next : ℕ) (p : Packed) (first t : ℕ) → AreTold old mid from mid_lot last p first t → Passes mid new mid_lot (walked last (map (told t) (words_at p t))) to → next ≡ last_stop last (map (told t) (words_at p t)) → AreTold old new from to next p first (suc t)
told-more old mid new from mid_lot to last next p first t are put end =
    let here = map (told t) (words_at p t) in
    record {
      text = rw (walked-append 0 (told_below p t) here, ← are.end) (goes_then _ _ _ _ _ _ _ _ _ are.text put);
      end = end ∙ ap (λ (u : ℕ). last_stop u here) are.end ∙ sym (last_stop-append 0 (told_below p t) here);
    }
