-- Seeking the place that parts stops at a time.
use Rattle.std.proofs.Common.{◌≡◌, ℕ, ◌+◌, ◌-◌, ◌<◌, ◌≤◌, List, length, get_or, take, ap, sym, subst, arith}
use Rattle.std.specs.List.{between}
use Rattle.std.proofs.lemmas.List.Elements.{All-nil}
use Rattle.std.proofs.lemmas.List.Edits.{between_none}
use Rattle.warp_stores.specs.declared.place.Place.{Place}
use Rattle.warp_stores.specs.Shown.StopBits.{Tally}
use Rattle.warp_stores.specs.Inner.Stops.{total, AreSince, AreBefore, Climbs, IsPlace, IsSpan, IsParted}
use Rattle.warp_stores.proofs.Stops.{total-take, total-more, IsPlace-more, IsPlace-less, before_more, since_more, since_from, before_upto}

-- forward from the first of two places, each stop passed is before the time
abbrev pub AreSought : ℕ → List Tally → Place → Place → Place → Type 0
AreSought t ss p q r = IsSpan ss p r × IsSpan ss r q × AreBefore t (between p.stops r.stops ss)

-- backward from the second of two places, no stop passed is before the time
abbrev pub AreSoughtBack : ℕ → List Tally → Place → Place → Place → Type 0
AreSoughtBack t ss p q r = IsSpan ss p r × IsSpan ss r q × AreSince t (between r.stops q.stops ss)

pub sought_none : (t : ℕ) (ss : List Tally) (p q : Place) → IsSpan ss p q → AreSought t ss p q p
sought_none t ss p q span =
    (record { begin = span.begin; end = span.begin; order = omega arith }, span, subst (λ (xs : List Tally). AreBefore t xs) (sym (between_none ss p.stops)) (All-nil (λ (s : Tally). s.time < t)))

pub sought_back_none : (t : ℕ) (ss : List Tally) (p q : Place) → IsSpan ss p q → AreSoughtBack t ss p q q
sought_back_none t ss p q span =
    (span, record { begin = span.end; end = span.end; order = omega arith }, subst (λ (xs : List Tally). AreSince t xs) (sym (between_none ss q.stops)) (All-nil (λ (s : Tally). t ≤ s.time)))

-- words up to behind a stop are no more than all
pub words_fit : (ss : List Tally) (p : Place) (s : Tally) → IsPlace ss p → p.stops < length ss → s ≡ get_or ss p.stops s → p.words + s.count ≤ total ss
words_fit ss p s at l e =
    let more : total (take (p.stops + 1) ss) ≡ total (take p.stops ss) + (get_or ss p.stops s).count = total-more ss p.stops s l in
    let n : (get_or ss p.stops s).count ≡ s.count = ap (λ (x : Tally). x.count) (sym e) in
    let w : total (take p.stops ss) ≡ p.words = at.words in
    omega (arith, total-take ss (p.stops + 1))

pub sought_more : (t : ℕ) (ss : List Tally) (p q r : Place) (s : Tally) → AreSought t ss p q r → r.stops < q.stops → s ≡ get_or ss r.stops s → s.time < t → AreSought t ss p q (record { stops = r.stops + 1; words = r.words + s.count })
sought_more t ss p q r s h l e lt =
    let within : q.stops ≤ length ss = (h.1).end.within in
    let order : p.stops ≤ r.stops = (h.0).order in
    let at : IsPlace ss (record { stops = r.stops + 1; words = r.words + s.count }) = IsPlace-more ss r s (h.0).end (omega arith) e in
    (record { begin = (h.0).begin; end = at; order = omega arith }, record { begin = at; end = (h.1).end; order = omega arith }, before_more t ss p.stops r.stops s order (omega arith) e lt h.2)

pub sought_back_more : (t : ℕ) (ss : List Tally) (p q r : Place) (s : Tally) → AreSoughtBack t ss p q r → p.stops < r.stops → s ≡ get_or ss (r.stops - 1) s → t ≤ s.time → AreSoughtBack t ss p q (record { stops = r.stops - 1; words = r.words - s.count })
sought_back_more t ss p q r s h l e le =
    let within : q.stops ≤ length ss = (h.1).end.within in
    let order : r.stops ≤ q.stops = (h.1).order in
    let less : (s.count ≤ r.words) × IsPlace ss (record { stops = r.stops - 1; words = r.words - s.count }) = IsPlace-less ss r s (h.0).end (omega arith) e in
    (record { begin = (h.0).begin; end = less.1; order = omega arith }, record { begin = less.1; end = (h.1).end; order = omega arith }, since_more t ss r.stops q.stops s (omega arith) order within e le h.2)

-- no stop is left
pub parted_end : (t : ℕ) (ss : List Tally) (p q r : Place) → AreSought t ss p q r → q.stops ≤ r.stops → IsParted t ss p q r
parted_end t ss p q r h l =
    let order : r.stops ≤ q.stops = (h.1).order in
    let e : q.stops ≡ r.stops = omega arith in
    record { low = h.0; high = h.1; earlier = h.2; later = subst (λ (k : ℕ). AreSince t (between r.stops k ss)) (sym e) (subst (λ (xs : List Tally). AreSince t xs) (sym (between_none ss r.stops)) (All-nil (λ (s : Tally). t ≤ s.time))) }

pub parted_start : (t : ℕ) (ss : List Tally) (p q r : Place) → AreSoughtBack t ss p q r → r.stops ≤ p.stops → IsParted t ss p q r
parted_start t ss p q r h l =
    let order : p.stops ≤ r.stops = (h.0).order in
    let e : r.stops ≡ p.stops = omega arith in
    record { low = h.0; high = h.1; earlier = subst (λ (k : ℕ). AreBefore t (between p.stops k ss)) (sym e) (subst (λ (xs : List Tally). AreBefore t xs) (sym (between_none ss p.stops)) (All-nil (λ (s : Tally). s.time < t))); later = h.2 }

-- a stop is not before the time
pub parted_at : (t : ℕ) (ss : List Tally) (p q r : Place) (s : Tally) → AreSought t ss p q r → Climbs 0 (between p.stops q.stops ss) → r.stops < q.stops → s ≡ get_or ss r.stops s → t ≤ s.time → IsParted t ss p q r
parted_at t ss p q r s h c l e le = record { low = h.0; high = h.1; earlier = h.2; later = since_from t ss p.stops r.stops q.stops s (h.0).order l (h.1).end.within c e le }

-- a stop is before the time
pub parted_behind : (t : ℕ) (ss : List Tally) (p q r : Place) (s : Tally) → AreSoughtBack t ss p q r → Climbs 0 (between p.stops q.stops ss) → p.stops < r.stops → s ≡ get_or ss (r.stops - 1) s → s.time < t → IsParted t ss p q r
parted_behind t ss p q r s h c l e lt = record { low = h.0; high = h.1; earlier = before_upto t ss p.stops r.stops q.stops s l (h.1).order (h.1).end.within c e lt; later = h.2 }
