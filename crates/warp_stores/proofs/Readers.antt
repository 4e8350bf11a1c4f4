-- What the calls of a reader leave.
use Rattle.std.proofs.Common.{◌≡◌, ℕ, zero, suc, ◌<◌, ◌==◌, false, true≢false, Some, None, Option, List, length, get_or, refl, ap, sym, ◌∙◌, subst, arith}
use Rattle.std.specs.List.{All, between}
use Rattle.warp_stores.specs.declared.place.Place.{Place}
use Rattle.warp_stores.specs.Dated.{Dated, before, before_end, since, undated, first_time, Rises}
use Rattle.warp_stores.specs.Shown.StopBits.{Tally}
use Rattle.warp_stores.specs.Inner.Stops.{Climbs, IsSpan, IsParted, IsEnd, IsQueue, IsReader}
use Rattle.warp_stores.specs.Shown.Stops.{dated, told, end_of}
use Rattle.warp_stores.proofs.Parts.{between_append, between_end, All-between}
use Rattle.warp_stores.proofs.Stops.{Climbs-append}
use Rattle.warp_stores.proofs.Telling.{before-told, length-span}
use Rattle.warp_stores.proofs.Growing.{RisesFrom-dated}
use Rattle.warp_stores.proofs.Queues.{ahead_span, climbs_ahead_of, ends, queue_read, line_read, first_time-told, ahead_part}

-- the place ahead of all stops
abbrev pub start : Place
start = record { stops = 0; words = 0 }

-- a reader's stops and words are those of a queue of which nothing is read
pub queue_of : {T : Type 0} {ss : List Tally} {ws : List T} → IsReader ss ws → IsQueue ss ws start start
queue_of {T} {ss} r = record {
  whole = r.whole;
  full = r.full;
  span = record { begin = record { within = omega arith; words = refl }; end = record { within = omega arith; words = refl }; order = omega arith };
  climbs = subst (λ (xs : List Tally). Climbs 0 xs) (sym (between_end ss 0)) r.climbs;
}

-- what a reader has is told from the start to the end
pub told_all : {T : Type 0} (ss : List Tally) (ws : List T) → told ss ws start (end_of ss ws) ≡ dated ss ws
told_all ss ws = ends ss ws start

-- what lies between two places can be read
pub IsReader-between : {T : Type 0} {ss : List Tally} {ws : List T} {dead from to : Place} → IsQueue ss ws dead from → IsSpan ss from to → IsReader (between from.stops to.stops ss) (between from.words to.words ws)
IsReader-between {T} {ss} {ws} {dead} {from} {to} q span = record {
  whole = (length-span ss ws from to span q.whole).2;
  full = All-between (λ (s : Tally). 0 < s.count) ss 0 from.stops to.stops (length ss) (omega arith) span.order span.end.within (omega arith) (subst (λ (xs : List Tally). All (λ (s : Tally). 0 < s.count) xs) (sym (between_end ss 0)) q.full);
  climbs = Climbs-append 0 (between from.stops to.stops ss) (between to.stops (length ss) ss)
      (subst (λ (xs : List Tally). Climbs 0 xs) (between_append ss from.stops to.stops (length ss) span.order span.end.within span.end.within) (climbs_ahead_of q));
}

-- up to the end is a span
pub end_span : {T : Type 0} (end : Option ℕ) (ss : List Tally) (ws : List T) (dead from to : Place) → IsQueue ss ws dead from → IsEnd end ss from (end_of ss ws) to → IsSpan ss from to
end_span None ss ws dead from to q e = subst (λ (p : Place). IsSpan ss from p) (sym e) (ahead_span q)
end_span (Some time) ss ws dead from to q e = e.low

-- what is told before the end
pub end_told : {T : Type 0} (end : Option ℕ) (ss : List Tally) (ws : List T) (dead from to : Place) → IsQueue ss ws dead from → IsEnd end ss from (end_of ss ws) to → told ss ws from to ≡ before_end end (told ss ws from (end_of ss ws))
end_told None ss ws dead from to q e = ap (told ss ws from) e
end_told (Some time) ss ws dead from to q e = sym (before-told time ss ws from (end_of ss ws) to e q.whole)

-- the words between two times
pub told_between : {T : Type 0} (t : ℕ) (end : Option ℕ) (ss : List Tally) (ws : List T) (dead read from to : Place) → IsQueue ss ws dead read → IsParted t ss read (end_of ss ws) from → IsEnd end ss from (end_of ss ws) to
    → told ss ws from to ≡ before_end end (since t (told ss ws read (end_of ss ws)))
told_between t end ss ws dead read from to q parted e =
    end_told end ss ws dead from to (queue_read q parted) e ∙ ap (before_end end) ((line_read t ss ws dead read from q parted).1)

pub Rises-reader : {T : Type 0} (ss : List Tally) (ws : List T) → IsReader ss ws → Rises (dated ss ws)
Rises-reader ss ws r = RisesFrom-dated 0 ss ws r.climbs

-- the time of the first word
pub first_time-reader : {T : Type 0} (ss : List Tally) (ws : List T) (s : Tally) → IsReader ss ws → 0 < length ss → s ≡ get_or ss 0 s → first_time (dated ss ws) ≡ Some s.time
first_time-reader ss ws s r l e = sym (ap first_time (told_all ss ws)) ∙ first_time-told ss ws start start s (queue_of r) l e

-- a number that isn't 0
pub some : (n : ℕ) → (n == 0) ≡ false → 0 < n
some zero e = absurd (true≢false e)
some (suc n) e = omega arith

-- the words before a time, and those that are left
pub reader_read : {T : Type 0} (t : ℕ) (ss : List Tally) (ws : List T) (place : Place) → IsReader ss ws → IsParted t ss start (end_of ss ws) place
    → (between 0 place.words ws ≡ undated (before t (dated ss ws))) × (dated (between place.stops (length ss) ss) (between place.words (length ws) ws) ≡ since t (dated ss ws))
reader_read {T} t ss ws place r parted = (
  ahead_part t ss ws start start place (queue_of r) parted ∙ ap (λ (ds : List (Dated T)). undated (before t ds)) (told_all ss ws),
  (line_read t ss ws start start place (queue_of r) parted).1 ∙ ap (since t) (told_all ss ws),
)

pub reader_left : {T : Type 0} {t : ℕ} {ss : List Tally} {ws : List T} {place : Place} → IsReader ss ws → IsParted t ss start (end_of ss ws) place → IsReader (between place.stops (length ss) ss) (between place.words (length ws) ws)
reader_left r parted = IsReader-between (queue_read (queue_of r) parted) parted.high
