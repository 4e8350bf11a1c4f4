-- What batches get.
use Rattle.std.proofs.Common.{◌≡◌, ℕ, ◌+◌, ◌<◌, ◌≤◌, ◌⊎◌, inl, inr, List, [], ◌∷◌, ◌++◌, length, get_or, take, map, refl, ap, sym, ◌∙◌, arith, append_assoc, length-append, nat_le}
use Rattle.std.specs.List.{between, filter}
use Rattle.std.proofs.lemmas.List.Elements.{filter-append}
use Rattle.std.proofs.lemmas.List.Edits.{length-between, between_none}
use Rattle.std.proofs.lemmas.List.{map-append, append-nil, take_all, take_more, length-take-le}
use Rattle.warp_stores.specs.declared.place.Place.{Place}
use Rattle.warp_stores.specs.Dated.{Dated, at, later}
use Rattle.warp_stores.specs.Shown.StopBits.{Tally}
use Rattle.warp_stores.specs.Inner.Stops.{total, IsSpan, HaveMore}
use Rattle.warp_stores.specs.Shown.Stops.{dated, told, end_of}
use Rattle.warp_stores.proofs.Parts.{between_cons, take_between}
use Rattle.warp_stores.proofs.Stops.{total-append, total-take, IsPlace-more}
use Rattle.warp_stores.proofs.Telling.{told-append, told-none, dated-append, le_true, le_false}
use Rattle.warp_stores.proofs.Growing.{one_stop}
use Rattle.warp_stores.proofs.Extending.{dated-once}
use Rattle.warp_stores.proofs.Seeking.{words_fit}

pub later-append : {T : Type 0} (delay last : ℕ) (a b : List (Dated T)) → later delay last (a ++ b) ≡ later delay last a ++ later delay last b
later-append {T} delay last a b =
    let put : Dated T → Dated T = λ d. (d.0 + delay, d.1) in
    ap (filter (λ (d : Dated T). nat_le d.0 last)) (map-append put a b) ∙ filter-append (λ (d : Dated T). nat_le d.0 last) (map put a) (map put b)

later-in : {T : Type 0} (delay last time : ℕ) (us : List T) → time + delay ≤ last → later delay last (at time us) ≡ at (time + delay) us
later-in delay last time [] h = refl
later-in {T} delay last time (u ∷ us) h = rw (le_true (time + delay) last h) (ap (λ (ds : List (Dated T)). (time + delay, u) ∷ ds) (later-in delay last time us h))

later-out : {T : Type 0} (delay last time : ℕ) (us : List T) → last < time + delay → later delay last (at time us) ≡ []
later-out delay last time [] h = refl
later-out delay last time (u ∷ us) h = rw (le_false (time + delay) last h) (later-out delay last time us h)

-- a stop further
pub span_more : (ss : List Tally) (p q : Place) (s : Tally) → IsSpan ss p q → q.stops < length ss → s ≡ get_or ss q.stops s → IsSpan ss p (record { stops = q.stops + 1; words = q.words + s.count })
span_more ss p q s span l e = record { begin = span.begin; end = IsPlace-more ss q s span.end l e; order = omega (arith, span.order) }

pub span_less : (ss : List Tally) (p q : Place) (s : Tally) → IsSpan ss p q → p.stops < q.stops → s ≡ get_or ss p.stops s → IsSpan ss (record { stops = p.stops + 1; words = p.words + s.count }) q
span_less ss p q s span l e = record { begin = IsPlace-more ss p s span.begin (omega (arith, span.end.within)) e; end = span.end; order = omega arith }

pub told_more : {T : Type 0} (ss : List Tally) (ws us : List T) (p q : Place) (s : Tally) → total ss ≡ length ws → IsSpan ss p q → q.stops < length ss → s ≡ get_or ss q.stops s → us ≡ between q.words (q.words + s.count) ws
    → told ss ws p (record { stops = q.stops + 1; words = q.words + s.count }) ≡ told ss ws p q ++ at s.time us
told_more {T} ss ws us p q s whole span l e is =
    let one : IsSpan ss q (record { stops = q.stops + 1; words = q.words + s.count }) = record { begin = span.end; end = IsPlace-more ss q s span.end l e; order = omega arith } in
    let fits : q.words + s.count ≤ length ws = omega (arith, words_fit ss q s span.end l e) in
    let len : length us ≡ s.count = ap length is ∙ (omega (arith, length-between ws q.words (q.words + s.count) fits)) in
    let cons : between q.stops (q.stops + 1) ss ≡ s ∷ [] = between_cons ss q.stops (q.stops + 1) s (omega arith) (omega arith) ∙ rw (between_none ss (q.stops + 1), ← e) refl in
    told-append ss ws p q (record { stops = q.stops + 1; words = q.words + s.count }) span one whole
    ∙ ap (λ (ds : List (Dated T)). told ss ws p q ++ ds) (rw (cons, ← is) (one_stop s.time s.count us len))

pub batch_in : {T : Type 0} (delay last time : ℕ) (old before : List (Dated T)) (us : List T) → time + delay ≤ last → (old ++ later delay last before) ++ at (time + delay) us ≡ old ++ later delay last (before ++ at time us)
batch_in {T} delay last time old before us h =
    append_assoc old (later delay last before) (at (time + delay) us)
    ∙ ap (λ (ds : List (Dated T)). old ++ ds) (ap (λ (ds : List (Dated T)). later delay last before ++ ds) (sym (later-in delay last time us h)) ∙ sym (later-append delay last before (at time us)))

pub batch_out : {T : Type 0} (delay last time : ℕ) (old before : List (Dated T)) (us : List T) → last < time + delay → old ++ later delay last before ≡ old ++ later delay last (before ++ at time us)
batch_out {T} delay last time old before us h =
    ap (λ (ds : List (Dated T)). old ++ ds) (sym (later-append delay last before (at time us) ∙ ap (λ (ds : List (Dated T)). later delay last before ++ ds) (later-out delay last time us h) ∙ append-nil (later delay last before)))

-- a batch that gets words of a time
pub batch_more : {T : Type 0} (time : ℕ) (ss ss' : List Tally) (ws us : List T) → total ss ≡ length ws → HaveMore time (length us) ss ss' → (total ss' ≡ length (ws ++ us)) × (dated ss' (ws ++ us) ≡ dated ss ws ++ at time us)
batch_more {T} time ss ss' ws us whole more =
    let many : total more.added ≡ length us = more.words in
    let sum : total ss' ≡ total ss + total more.added = ap total more.after ∙ total-append ss more.added in (
      omega (arith, length-append ws us),
      ap (λ (xs : List Tally). dated xs (ws ++ us)) more.after ∙ dated-append ss more.added ws us whole ∙ ap (λ (ds : List (Dated T)). dated ss ws ++ ds) (dated-once time more.added us more.once many),
    )

-- what is told up to a stop further
pub told_on : {T : Type 0} (delay last time : ℕ) (ss : List Tally) (ws us : List T) (p q : Place) (s : Tally) (old was new : List (Dated T)) → total ss ≡ length ws → IsSpan ss p q → q.stops < length ss → s ≡ get_or ss q.stops s → us ≡ between q.words (q.words + s.count) ws → time ≡ s.time + delay
    → was ≡ old ++ later delay last (told ss ws p q) → (time ≤ last → new ≡ was ++ at time us) → (last < time → new ≡ was) → new ≡ old ++ later delay last (told ss ws p (record { stops = q.stops + 1; words = q.words + s.count }))
told_on {T} delay last time ss ws us p q s old was new whole span l e is due before in_time over =
    let more : told ss ws p (record { stops = q.stops + 1; words = q.words + s.count }) ≡ told ss ws p q ++ at s.time us = told_more ss ws us p q s whole span l e is in
    rw more (elim (late_cases time last) [
      | inl h ↦ in_time h ∙ rw (before, due) (batch_in delay last s.time old (told ss ws p q) us (omega arith))
      | inr h ↦ over h ∙ before ∙ batch_out delay last s.time old (told ss ws p q) us (omega arith)
    ])
  where
    late_cases : (t k : ℕ) → (t ≤ k) ⊎ (k < t)
    late_cases t k = grind arith

-- all is told
pub told_all : {T : Type 0} (delay last : ℕ) (ss : List Tally) (ws : List T) (p q : Place) (old was : List (Dated T)) → total ss ≡ length ws → IsSpan ss p q → IsSpan ss q (end_of ss ws) → length ss ≤ q.stops → was ≡ old ++ later delay last (told ss ws p q) → was ≡ old ++ later delay last (told ss ws p (end_of ss ws))
told_all {T} delay last ss ws p q old was whole span rest l e =
    let within : q.stops ≤ length ss = rest.order in
    let stops : q.stops ≡ length ss = omega arith in
    let words : q.words ≡ length ws = sym span.end.words ∙ ap total (ap (λ (n : ℕ). take n ss) stops ∙ take_all (length ss) ss (omega arith)) ∙ whole in
    e ∙ rw (stops, words) refl

-- nothing is told yet
pub told_start : {T : Type 0} (delay last : ℕ) (ss : List Tally) (ws : List T) (p : Place) (old : List (Dated T)) → IsSpan ss p (end_of ss ws) → IsSpan ss p p × IsSpan ss p (end_of ss ws) × (old ≡ old ++ later delay last (told ss ws p p))
told_start {T} delay last ss ws p old span =
    let none : told ss ws p p ≡ [] = told-none ss ws p in
    (record { begin = span.begin; end = span.begin; order = omega arith }, span, sym (ap (λ (ds : List (Dated T)). old ++ later delay last ds) none ∙ append-nil old))

-- words of some stops, and then those of the next one
pub listed_on : {T : Type 0} (ss : List Tally) (ws us : List T) (is is' : List (Dated T)) (i n : ℕ) (s : Tally) → i < length ss → s ≡ get_or ss i s → total ss ≡ length ws → total (take i ss) ≡ n → us ≡ between n (n + s.count) ws
    → is ≡ dated (take i ss) (take n ws) → is' ≡ is ++ at s.time us → (total (take (i + 1) ss) ≡ n + s.count) × (is' ≡ dated (take (i + 1) ss) (take (n + s.count) ws))
listed_on {T} ss ws us is is' i n s l same whole many are first more =
    let stops : take (i + 1) ss ≡ take i ss ++ s ∷ [] = take_more ss i s l ∙ ap (λ (x : Tally). take i ss ++ x ∷ []) (sym same) in
    let sum : total (take (i + 1) ss) ≡ n + s.count = (let e : total (take (i + 1) ss) ≡ total (take i ss) + (s.count + 0) = ap total stops ∙ total-append (take i ss) (s ∷ []) in omega arith) in
    let fits : n + s.count ≤ length ws = omega (arith, total-take ss (i + 1)) in
    let len : length us ≡ s.count = ap length are ∙ (omega (arith, length-between ws n (n + s.count) fits)) in
    let parts : take (n + s.count) ws ≡ take n ws ++ us = take_between ws n (n + s.count) (omega arith) ∙ ap (λ (vs : List T). take n ws ++ vs) (sym are) in
    let told : dated (take (i + 1) ss) (take (n + s.count) ws) ≡ dated (take i ss) (take n ws) ++ at s.time us =
    rw (stops, parts) (dated-append (take i ss) (s ∷ []) (take n ws) us (many ∙ sym (length-take-le n ws (omega arith)))
    ∙ ap (λ (ds : List (Dated T)). dated (take i ss) (take n ws) ++ ds) (one_stop s.time s.count us len)) in
    (sum, more ∙ ap (λ (ds : List (Dated T)). ds ++ at s.time us) first ∙ sym told)

-- all stops have all words
pub listed_all : {T : Type 0} (ss : List Tally) (ws : List T) (is : List (Dated T)) (i n : ℕ) → length ss ≤ i → total ss ≡ length ws → total (take i ss) ≡ n → is ≡ dated (take i ss) (take n ws) → is ≡ dated ss ws
listed_all {T} ss ws is i n l whole many first =
    let all : take i ss ≡ ss = take_all i ss l in
    let len : n ≡ length ws = sym many ∙ ap total all ∙ whole in
    first ∙ rw (all, len) (ap (dated ss) (take_all (length ws) ws (omega arith)))
