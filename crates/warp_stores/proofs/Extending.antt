-- Stops of one time that stand behind others, and what they tell.
use Rattle.std.proofs.Common.{◌≡◌, ℕ, ◌+◌, ◌<◌, ◌≤◌, List, [], ◌∷◌, ◌++◌, length, take, drop, refl, ap, sym, ◌∙◌, subst, arith, append_assoc, length-append, length-drop}
use Rattle.std.specs.List.{All, between}
use Rattle.std.proofs.lemmas.List.Elements.{All-nil, All-push, All-head, All-tail, All-append, All-drop}
use Rattle.std.proofs.lemmas.List.{take-append-drop, take-append-le, drop-append-le, map-append, append-nil, nil_from_length}
use Rattle.warp_stores.specs.declared.place.Place.{Place}
use Rattle.warp_stores.specs.Dated.{Dated, at, last_time, standing}
use Rattle.warp_stores.specs.Shown.StopBits.{Tally}
use Rattle.warp_stores.specs.Inner.Stops.{total, Climbs, IsPlace, HaveMore, IsQueue}
use Rattle.warp_stores.specs.Shown.Stops.{dated, end_of, line_of}
use Rattle.warp_stores.proofs.Parts.{between-take, between_end}
use Rattle.warp_stores.proofs.Stops.{total-append}
use Rattle.warp_stores.proofs.Telling.{dated-append, length-span}
use Rattle.warp_stores.proofs.Growing.{Climbs-extend}
use Rattle.warp_stores.proofs.Queues.{ahead_span, live_span, ends, standing-told, Grows}

-- no word needs no stop
pub more_none : (time : ℕ) (ss : List Tally) → HaveMore time 0 ss ss
more_none time ss = record { added = []; after = sym (append-nil ss); words = refl; full = All-nil (λ (s : Tally). 0 < s.count); once = All-nil (λ (s : Tally). s.time ≡ time) }

-- one stop more
pub more_push : (time n k m : ℕ) (ss ss' : List Tally) → HaveMore time n ss ss' → 0 < k → m ≡ n + k → HaveMore time m ss (ss' ++ record { time = time; count = k } ∷ [])
more_push time n k m ss ss' h some e =
    let sum : total (h.added ++ record { time = time; count = k } ∷ []) ≡ total h.added + (k + 0) = total-append h.added (record { time = time; count = k } ∷ []) in
    let was : total h.added ≡ n = h.words in
    record {
      added = h.added ++ record { time = time; count = k } ∷ [];
      after = ap (λ (xs : List Tally). xs ++ record { time = time; count = k } ∷ []) h.after ∙ append_assoc ss h.added (record { time = time; count = k } ∷ []);
      words = omega arith;
      full = All-push (λ (s : Tally). 0 < s.count) h.added (record { time = time; count = k }) h.full some;
      once = All-push (λ (s : Tally). s.time ≡ time) h.added (record { time = time; count = k }) h.once refl;
    }

-- stops of one time tell words of that time
pub dated-once : {T : Type 0} (time : ℕ) (ss : List Tally) (ws : List T) → All (λ s. s.time ≡ time) ss → total ss ≡ length ws → dated ss ws ≡ at time ws
dated-once time [] ws once h = rw (nil_from_length ws (sym h)) refl
dated-once {T} time (s ∷ ss) ws once h =
    let P : Tally → Type 0 = λ x. x.time ≡ time in
    let rest : total ss ≡ length (drop s.count ws) = omega (arith, length-drop s.count ws) in
    rw (All-head P s ss once, dated-once time ss (drop s.count ws) (All-tail P s ss once) rest)
    (sym (map-append {B = Dated T} (λ w. (time, w)) (take s.count ws) (drop s.count ws)) ∙ ap (at time) (take-append-drop s.count ws))

-- a queue has words more
pub queue_extends : {T : Type 0} (time : ℕ) (ss ss' : List Tally) (ws us : List T) (dead read : Place) → IsQueue ss ws dead read → HaveMore time (length us) ss ss' → last_time (standing (line_of ss ws dead read)) ≤ time
    → Grows time ss ss' ws us dead read
queue_extends {T} time ss ss' ws us dead read q more h =
    let whole : total ss ≡ length ws = q.whole in
    let many : total more.added ≡ length us = more.words in
    let order : dead.stops ≤ read.stops = q.span.order in
    let within : read.stops ≤ length ss = q.span.end.within in
    let live : (dead.words ≤ length ws) × (length ws ≤ length ws) × (total (between dead.stops (length ss) ss) ≡ length (between dead.words (length ws) ws)) = length-span ss ws dead (end_of ss ws) (live_span q) whole in
    let ahead : (read.words ≤ length ws) × (length ws ≤ length ws) × (total (between read.stops (length ss) ss) ≡ length (between read.words (length ws) ws)) = length-span ss ws read (end_of ss ws) (ahead_span q) whole in
    let live_whole : total (drop dead.stops ss) ≡ length (drop dead.words ws) = ap total (sym (between_end ss dead.stops)) ∙ live.2 ∙ ap length (between_end ws dead.words) in
    let ahead_whole : total (drop read.stops ss) ≡ length (drop read.words ws) = ap total (sym (between_end ss read.stops)) ∙ ahead.2 ∙ ap length (between_end ws read.words) in
    let first : (k : ℕ) → k ≤ read.stops → take k ss' ≡ take k ss = λ k le. ap (take k) more.after ∙ take-append-le k ss more.added (omega arith) in
    let others : (k : ℕ) → k ≤ read.stops → drop k ss' ≡ drop k ss ++ more.added = λ k le. ap (drop k) more.after ∙ drop-append-le k ss more.added (omega arith) in
    let longer : length ss' ≡ length ss + length more.added = ap length more.after ∙ length-append ss more.added in
    let place : (p : Place) → IsPlace ss p → p.stops ≤ read.stops → IsPlace ss' p = λ p is k. record { within = omega (arith, is.within); words = ap total (first p.stops k) ∙ is.words } in
    let stands : standing (line_of ss ws dead read) ≡ dated (drop dead.stops ss) (drop dead.words ws) = standing-told ss ws dead read q ∙ ends ss ws dead in
    let last : last_time (dated (drop dead.stops ss) (drop dead.words ws)) ≤ time = subst (λ (xs : List (Dated T)). last_time xs ≤ time) stands h in
    let climbs : Climbs 0 (drop dead.stops ss ++ more.added) =
    Climbs-extend 0 (drop dead.stops ss) (drop dead.words ws) time more.added
    (subst (λ (xs : List Tally). Climbs 0 xs) (between_end ss dead.stops) q.climbs) (All-drop (λ (s : Tally). 0 < s.count) dead.stops ss q.full) live_whole last more.once in
    let same_stops : between dead.stops read.stops ss' ≡ between dead.stops read.stops ss =
    sym (between-take ss' dead.stops read.stops read.stops (omega arith)) ∙ ap (between dead.stops read.stops) (first read.stops (omega arith)) ∙ between-take ss dead.stops read.stops read.stops (omega arith) in
    let same_words : between dead.words read.words (ws ++ us) ≡ between dead.words read.words ws =
    sym (between-take (ws ++ us) dead.words read.words read.words (omega arith)) ∙ ap (between dead.words read.words) (take-append-le read.words ws us ahead.0) ∙ between-take ws dead.words read.words read.words (omega arith) in
    let sum : total ss' ≡ total ss + total more.added = ap total more.after ∙ total-append ss more.added in
    record {
      queue = record {
        whole = omega (arith, length-append ws us);
        full = subst (λ (xs : List Tally). All (λ (s : Tally). 0 < s.count) xs) (sym more.after) (All-append (λ (s : Tally). 0 < s.count) ss more.added q.full more.full);
        span = record { begin = place dead q.span.begin order; end = place read q.span.end (omega arith); order = order };
        climbs = subst (λ (xs : List Tally). Climbs 0 xs) (sym (between_end ss' dead.stops ∙ others dead.stops order)) climbs;
      };
      told_read = rw (same_stops, same_words) refl;
      told_ahead =
          ends ss' (ws ++ us) read
          ∙ rw (others read.stops (omega arith), drop-append-le read.words ws us ahead.0)
          (dated-append (drop read.stops ss) more.added (drop read.words ws) us ahead_whole
          ∙ rw (dated-once time more.added us more.once many, ends ss ws read) refl);
    }
