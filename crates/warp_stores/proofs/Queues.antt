-- What the calls of a queue leave.
use Rattle.std.proofs.Common.{◌≡◌, ℕ, ◌+◌, ◌-◌, ◌<◌, ◌≤◌, Some, Bool, true, false, Result, Ok, Err, List, [], ◌∷◌, ◌++◌, length, get_or, take, drop, map, refl, ap, sym, ◌∙◌, subst, arith, nat_lt, length-drop}
use Rattle.std.specs.List.{between}
use Rattle.std.specs.Result.{OnOk, OnErr}
use Rattle.std.proofs.lemmas.List.Elements.{All-take, All-drop}
use Rattle.std.proofs.lemmas.List.{take-take, take-append-le, drop-append-le, length-take-le, length_push}
use Rattle.std.proofs.lemmas.List.Edits.{between_more}
use Rattle.std.proofs.lemmas.Grind.{common_steps}
use Rattle.warp_stores.specs.declared.place.Place.{Place}
use Rattle.warp_stores.specs.Dated.{Dated, Line, at, before, since, undated, standing, first_time, last_time, Rises}
use Rattle.warp_stores.specs.Shown.StopBits.{Tally}
use Rattle.warp_stores.specs.Inner.Stops.{total, AreSince, AreBefore, Climbs, IsPlace, IsSpan, IsParted, HaveOneMore, IsQueue}
use Rattle.warp_stores.specs.Shown.Stops.{dated, told, end_of, line_of}
use Rattle.warp_stores.proofs.Parts.{between_append, between-take, between_end, between_cons, All-between}
use Rattle.warp_stores.proofs.Stops.{Climbs-append, Climbs-behind}
use Rattle.warp_stores.proofs.Telling.{told-append, before-told, since-told, undated-told, length-told, length-span, total-span, told-none, told-take, told-drop, IsPlace-end, before-all, before-none}
use Rattle.warp_stores.proofs.Growing.{Growth, growth_of, dated-growth, total-growth, take-growth, drop-growth, length-growth, AreFull-growth, Climbs-growth, RisesFrom-dated, last_from-dated}

-- from the head to the end
pub ahead_span : {T : Type 0} {ss : List Tally} {ws : List T} {dead read : Place} → IsQueue ss ws dead read → IsSpan ss read (end_of ss ws)
ahead_span {T} {ss} {ws} q = record { begin = q.span.end; end = IsPlace-end ss ws q.whole; order = q.span.end.within }

-- all that isn't dead
pub live_span : {T : Type 0} {ss : List Tally} {ws : List T} {dead read : Place} → IsQueue ss ws dead read → IsSpan ss dead (end_of ss ws)
live_span {T} {ss} {ws} q = record { begin = q.span.begin; end = IsPlace-end ss ws q.whole; order = q.span.begin.within }

pub climbs_read : {T : Type 0} {ss : List Tally} {ws : List T} {dead read : Place} → IsQueue ss ws dead read → Climbs 0 (between dead.stops read.stops ss)
climbs_read {T} {ss} {ws} {dead} {read} q =
    Climbs-append 0 (between dead.stops read.stops ss) (between read.stops (length ss) ss)
    (subst (λ (xs : List Tally). Climbs 0 xs) (between_append ss dead.stops read.stops (length ss) q.span.order q.span.end.within q.span.end.within) q.climbs)

pub climbs_ahead_of : {T : Type 0} {ss : List Tally} {ws : List T} {dead read : Place} → IsQueue ss ws dead read → Climbs 0 (between read.stops (length ss) ss)
climbs_ahead_of {T} {ss} {ws} {dead} {read} q =
    Climbs-behind 0 (between dead.stops read.stops ss) (between read.stops (length ss) ss)
    (subst (λ (xs : List Tally). Climbs 0 xs) (between_append ss dead.stops read.stops (length ss) q.span.order q.span.end.within q.span.end.within) q.climbs)

-- what is told up to the end
pub ends : {T : Type 0} (ss : List Tally) (ws : List T) (p : Place) → told ss ws p (end_of ss ws) ≡ dated (drop p.stops ss) (drop p.words ws)
ends ss ws p = rw (between_end ss p.stops, between_end ws p.words) refl

-- all that stands
pub standing-told : {T : Type 0} (ss : List Tally) (ws : List T) (dead read : Place) → IsQueue ss ws dead read → standing (line_of ss ws dead read) ≡ told ss ws dead (end_of ss ws)
standing-told ss ws dead read q = sym (told-append ss ws dead read (end_of ss ws) q.span (ahead_span q) q.whole)

pub Rises-standing : {T : Type 0} (ss : List Tally) (ws : List T) (dead read : Place) → IsQueue ss ws dead read → Rises (standing (line_of ss ws dead read))
Rises-standing {T} ss ws dead read q =
    subst (λ (xs : List (Dated T)). Rises xs) (sym (standing-told ss ws dead read q))
    (RisesFrom-dated 0 (between dead.stops (length ss) ss) (between dead.words (length ws) ws) q.climbs)

-- the head moves on
pub queue_read : {T : Type 0} {t : ℕ} {ss : List Tally} {ws : List T} {dead read place : Place} → IsQueue ss ws dead read → IsParted t ss read (end_of ss ws) place → IsQueue ss ws dead place
queue_read q parted =
    record { whole = q.whole; full = q.full; span = record { begin = q.span.begin; end = parted.low.end; order = omega (arith, q.span.order, parted.low.order) }; climbs = q.climbs }

pub line_read : {T : Type 0} (t : ℕ) (ss : List Tally) (ws : List T) (dead read place : Place) → IsQueue ss ws dead read → IsParted t ss read (end_of ss ws) place
    → (told ss ws dead place ≡ told ss ws dead read ++ before t (told ss ws read (end_of ss ws))) × (told ss ws place (end_of ss ws) ≡ since t (told ss ws read (end_of ss ws)))
line_read {T} t ss ws dead read place q parted = (
  told-append ss ws dead read place q.span parted.low q.whole ∙ ap (λ (xs : List (Dated T)). told ss ws dead read ++ xs) (sym (before-told t ss ws read (end_of ss ws) place parted q.whole)),
  sym (since-told t ss ws read (end_of ss ws) place parted q.whole),
)

-- the head moves back
pub queue_back : {T : Type 0} {t : ℕ} {ss : List Tally} {ws : List T} {dead read place : Place} → IsQueue ss ws dead read → IsParted t ss dead read place → IsQueue ss ws dead place
queue_back q parted = record { whole = q.whole; full = q.full; span = parted.low; climbs = q.climbs }

pub line_back : {T : Type 0} (t : ℕ) (ss : List Tally) (ws : List T) (dead read place : Place) → IsQueue ss ws dead read → IsParted t ss dead read place
    → (told ss ws dead place ≡ before t (told ss ws dead read)) × (told ss ws place (end_of ss ws) ≡ since t (told ss ws dead read) ++ told ss ws read (end_of ss ws))
line_back {T} t ss ws dead read place q parted = (
  sym (before-told t ss ws dead read place parted q.whole),
  told-append ss ws place read (end_of ss ws) parted.high (ahead_span q) q.whole ∙ ap (λ (xs : List (Dated T)). xs ++ told ss ws read (end_of ss ws)) (sym (since-told t ss ws dead read place parted q.whole)),
)

-- what was read is forgotten
pub queue_forgot : {T : Type 0} {t : ℕ} {ss : List Tally} {ws : List T} {dead read place : Place} → IsQueue ss ws dead read → IsParted t ss dead read place → IsQueue ss ws place read
queue_forgot {T} {t} {ss} {ws} {dead} {read} {place} q parted = record {
  whole = q.whole;
  full = q.full;
  span = parted.high;
  climbs = Climbs-behind 0 (between dead.stops place.stops ss) (between place.stops (length ss) ss)
      (subst (λ (xs : List Tally). Climbs 0 xs) (between_append ss dead.stops place.stops (length ss) parted.low.order parted.low.end.within parted.low.end.within) q.climbs);
}

-- the words ahead that are before a time
pub ahead_part : {T : Type 0} (t : ℕ) (ss : List Tally) (ws : List T) (dead read place : Place) → IsQueue ss ws dead read → IsParted t ss read (end_of ss ws) place → between read.words place.words ws ≡ undated (before t (told ss ws read (end_of ss ws)))
ahead_part t ss ws dead read place q parted =
    sym (ap undated (before-told t ss ws read (end_of ss ws) place parted q.whole) ∙ undated-told ss ws read place parted.low q.whole)

-- the words that aren't before a time
pub since_part : {T : Type 0} (t : ℕ) (ss : List Tally) (ws : List T) (dead read place : Place) → IsQueue ss ws dead read → IsParted t ss dead (end_of ss ws) place → between place.words (length ws) ws ≡ undated (since t (standing (line_of ss ws dead read)))
since_part {T} t ss ws dead read place q parted =
    sym (ap (λ (xs : List (Dated T)). undated (since t xs)) (standing-told ss ws dead read q) ∙ ap undated (since-told t ss ws dead (end_of ss ws) place parted q.whole) ∙ undated-told ss ws place (end_of ss ws) parted.high q.whole)

-- how much stands
pub length-standing : {T : Type 0} (ss : List Tally) (ws : List T) (dead read : Place) → IsQueue ss ws dead read → length (standing (line_of ss ws dead read)) ≡ length ws - dead.words
length-standing ss ws dead read q = ap length (standing-told ss ws dead read q) ∙ length-told ss ws dead (end_of ss ws) (live_span q) q.whole

-- more dead than live, but for a few
pub many_dead : (live dead most : ℕ) → nat_lt live (dead - most) ≡ nat_lt (live + most) dead
many_dead live dead most = grind (arith, common_steps)

first_time-at_once : {T : Type 0} (time : ℕ) (us : List T) (ds : List (Dated T)) → 0 < length us → first_time (map (λ w. (time, w)) us ++ ds) ≡ Some time
first_time-at_once time [] ds h = absurd (omega arith)
first_time-at_once time (u ∷ us) ds h = refl

-- the time of the first word ahead
pub first_time-told : {T : Type 0} (ss : List Tally) (ws : List T) (dead read : Place) (s : Tally) → IsQueue ss ws dead read → read.stops < length ss → s ≡ get_or ss read.stops s → first_time (told ss ws read (end_of ss ws)) ≡ Some s.time
first_time-told {T} ss ws dead read s q l e =
    let ahead : (read.words ≤ length ws) × (length ws ≤ length ws) × (total (between read.stops (length ss) ss) ≡ length (between read.words (length ws) ws)) = length-span ss ws read (end_of ss ws) (ahead_span q) q.whole in
    let cons : between read.stops (length ss) ss ≡ s ∷ between (read.stops + 1) (length ss) ss = between_cons ss read.stops (length ss) s l (omega arith) ∙ rw (← e) refl in
    let some : 0 < s.count = rw e (q.full read.stops s l) in
    let many : s.count + total (between (read.stops + 1) (length ss) ss) ≡ length (between read.words (length ws) ws) = sym (ap total cons) ∙ ahead.2 in
    ap (λ (xs : List Tally). first_time (dated xs (between read.words (length ws) ws))) cons
    ∙ first_time-at_once s.time (take s.count (between read.words (length ws) ws)) (dated (between (read.stops + 1) (length ss) ss) (drop s.count (between read.words (length ws) ws)))
    (omega (arith, length-take-le s.count (between read.words (length ws) ws) (omega arith)))

-- the time of the last word
pub last_time-told : {T : Type 0} (ss : List Tally) (ws : List T) (dead read : Place) (s : Tally) → IsQueue ss ws dead read → dead.stops < length ss → s ≡ get_or ss (length ss - 1) s → last_time (standing (line_of ss ws dead read)) ≡ s.time
last_time-told {T} ss ws dead read s q l e =
    let live : (dead.words ≤ length ws) × (length ws ≤ length ws) × (total (between dead.stops (length ss) ss) ≡ length (between dead.words (length ws) ws)) = length-span ss ws dead (end_of ss ws) (live_span q) q.whole in
    let back : (length ss - 1) + 1 ≡ length ss = omega arith in
    let push : between dead.stops ((length ss - 1) + 1) ss ≡ between dead.stops (length ss - 1) ss ++ get_or ss (length ss - 1) s ∷ [] = between_more ss dead.stops (length ss - 1) s (omega arith) (omega arith) in
    let last : between dead.stops (length ss) ss ≡ between dead.stops (length ss - 1) ss ++ s ∷ [] = ap (λ (k : ℕ). between dead.stops k ss) (sym back) ∙ push ∙ ap (λ (x : Tally). between dead.stops (length ss - 1) ss ++ x ∷ []) (sym e) in
    let some : 0 < s.count = rw e (q.full (length ss - 1) s (omega arith)) in
    ap last_time (standing-told ss ws dead read q)
    ∙ ap (λ (xs : List Tally). last_time (dated xs (between dead.words (length ws) ws))) last
    ∙ last_from-dated 0 (between dead.stops (length ss - 1) ss) s (between dead.words (length ws) ws) some (sym (ap total last) ∙ live.2)

-- what a queue has is known by its parts
pub line_equal : {T : Type 0} (d : ℕ) (r r' a a' : List (Dated T)) → r ≡ r' → a ≡ a' → ◌≡◌ {A = Line T} (record { dead = d; read = r; ahead = a }) (record { dead = d; read = r'; ahead = a' })
line_equal d r r' a a' e f = rw (e, f) refl

-- what follows from either outcome
pub on_either : {T E A B C D F : Type 0} (r : Result T E) → OnOk r A → OnOk r B → OnErr r C → OnErr r D → (A → B → F) → (C → D → F) → F
on_either (Ok x) a b c d f g = f a b
on_either (Err e) a b c d f g = g c d

pub on_ok_both : {T E A B F : Type 0} (r : Result T E) → OnOk r A → OnOk r B → (A → B → F) → OnOk r F
on_ok_both (Ok x) a b f = f a b
on_ok_both (Err e) a b f = tt

-- what holds of either answer
pub on_answer : {A B C D F : Type 0} (b : Bool) → (b ≡ true → A) → (b ≡ true → B) → (b ≡ false → C) → (b ≡ false → D) → (A → B → F) → (C → D → F) → F
on_answer true a b c d f g = f (a refl) (b refl)
on_answer false a b c d f g = g (c refl) (d refl)

-- the end is cut off behind the head, or ahead of it
pub queue_cut : {T : Type 0} (ss : List Tally) (ws : List T) (dead read kept : Place) → IsQueue ss ws dead read → IsSpan ss dead kept → (read' : Place) → IsSpan ss dead read' → read'.stops ≤ kept.stops → IsQueue (take kept.stops ss) (take kept.words ws) dead read'
queue_cut {T} ss ws dead read kept q span read' span' h =
    let one : (dead.words ≤ kept.words) × (kept.words ≤ length ws) × (total (between dead.stops kept.stops ss) ≡ length (between dead.words kept.words ws)) = length-span ss ws dead kept span q.whole in
    let within : kept.stops ≤ length ss = span.end.within in
    let len : length (take kept.stops ss) ≡ kept.stops = length-take-le kept.stops ss within in
    let lenw : length (take kept.words ws) ≡ kept.words = length-take-le kept.words ws one.1 in
    let at : (p : Place) → IsPlace ss p → p.stops ≤ kept.stops → IsPlace (take kept.stops ss) p = λ p place g. record { within = omega arith; words = ap total (take-take p.stops kept.stops ss g) ∙ place.words } in
    let climbs : Climbs 0 (between dead.stops kept.stops ss) =
    Climbs-append 0 (between dead.stops kept.stops ss) (between kept.stops (length ss) ss)
    (subst (λ (xs : List Tally). Climbs 0 xs) (between_append ss dead.stops kept.stops (length ss) span.order within within) q.climbs) in
    record {
      whole = span.end.words ∙ sym lenw;
      full = All-take (λ (s : Tally). 0 < s.count) kept.stops ss q.full;
      span = record { begin = at dead span.begin span.order; end = at read' span'.end h; order = span'.order };
      climbs = subst (λ (n : ℕ). Climbs 0 (between dead.stops n (take kept.stops ss))) (sym len) (subst (λ (xs : List Tally). Climbs 0 xs) (sym (between-take ss dead.stops kept.stops kept.stops (omega arith))) climbs);
    }

-- a place between two others of a parted list parts what lies ahead of it
part_ahead : (t : ℕ) (ss : List Tally) (p q r kept : Place) → IsSpan ss p q → IsSpan ss q r → IsParted t ss p r kept → kept.stops ≤ q.stops → IsParted t ss p q kept
part_ahead t ss p q r kept first second parted h = record {
  low = parted.low;
  high = record { begin = parted.low.end; end = first.end; order = h };
  earlier = parted.earlier;
  later = All-between (λ (s : Tally). t ≤ s.time) ss kept.stops kept.stops q.stops r.stops (omega arith) h second.order second.end.within parted.later;
}

part_behind : (t : ℕ) (ss : List Tally) (p q r kept : Place) → IsSpan ss p q → IsSpan ss q r → IsParted t ss p r kept → q.stops ≤ kept.stops → IsParted t ss q r kept
part_behind t ss p q r kept first second parted h = record {
  low = record { begin = first.end; end = parted.low.end; order = h };
  high = parted.high;
  earlier = All-between (λ (s : Tally). s.time < t) ss p.stops q.stops kept.stops kept.stops first.order h (omega arith) parted.low.end.within parted.earlier;
  later = parted.later;
}

-- the end is cut off behind the head
pub line_cut_behind : {T : Type 0} (t : ℕ) (ss : List Tally) (ws : List T) (dead read kept : Place) → IsQueue ss ws dead read → IsParted t ss dead (end_of ss ws) kept → read.stops ≤ kept.stops
    → (told (take kept.stops ss) (take kept.words ws) dead read ≡ before t (told ss ws dead read)) × (told (take kept.stops ss) (take kept.words ws) read (end_of (take kept.stops ss) (take kept.words ws)) ≡ before t (told ss ws read (end_of ss ws)))
line_cut_behind {T} t ss ws dead read kept q parted h =
    let behind : IsParted t ss read (end_of ss ws) kept = part_behind t ss dead read (end_of ss ws) kept q.span (ahead_span q) parted h in
    let many : (read.words ≤ kept.words) × (kept.words ≤ length ws) × (total (between read.stops kept.stops ss) ≡ length (between read.words kept.words ws)) = length-span ss ws read kept behind.low q.whole in
    let earlier : AreBefore t (between dead.stops read.stops ss) = All-between (λ (s : Tally). s.time < t) ss dead.stops dead.stops read.stops kept.stops (omega arith) q.span.order h parted.low.end.within parted.earlier in
    let len : length (take kept.stops ss) ≡ kept.stops = length-take-le kept.stops ss parted.low.end.within in
    let lenw : length (take kept.words ws) ≡ kept.words = length-take-le kept.words ws many.1 in (
      told-take ss ws dead read kept h many.0 ∙ sym (before-all t (between dead.stops read.stops ss) (between dead.words read.words ws) earlier),
      rw (len, lenw) (told-take ss ws read kept kept (omega arith) (omega arith)) ∙ sym (before-told t ss ws read (end_of ss ws) kept behind q.whole),
    )

-- the end is cut off ahead of the head
pub line_cut_ahead : {T : Type 0} (t : ℕ) (ss : List Tally) (ws : List T) (dead read kept : Place) → IsQueue ss ws dead read → IsParted t ss dead (end_of ss ws) kept → kept.stops ≤ read.stops
    → (told (take kept.stops ss) (take kept.words ws) dead kept ≡ before t (told ss ws dead read)) × (told (take kept.stops ss) (take kept.words ws) kept (end_of (take kept.stops ss) (take kept.words ws)) ≡ before t (told ss ws read (end_of ss ws)))
line_cut_ahead {T} t ss ws dead read kept q parted h =
    let ahead : IsParted t ss dead read kept = part_ahead t ss dead read (end_of ss ws) kept q.span (ahead_span q) parted h in
    let many : (dead.words ≤ kept.words) × (kept.words ≤ length ws) × (total (between dead.stops kept.stops ss) ≡ length (between dead.words kept.words ws)) = length-span ss ws dead kept parted.low q.whole in
    let within : read.stops ≤ length ss = q.span.end.within in
    let later : AreSince t (between read.stops (length ss) ss) = All-between (λ (s : Tally). t ≤ s.time) ss kept.stops read.stops (length ss) (length ss) h within (omega arith) (omega arith) parted.later in
    let len : length (take kept.stops ss) ≡ kept.stops = length-take-le kept.stops ss parted.low.end.within in
    let lenw : length (take kept.words ws) ≡ kept.words = length-take-le kept.words ws many.1 in (
      told-take ss ws dead kept kept (omega arith) (omega arith) ∙ sym (before-told t ss ws dead read kept ahead q.whole),
      rw (len, lenw) (told-none (take kept.stops ss) (take kept.words ws) kept) ∙ sym (before-none t (between read.stops (length ss) ss) (between read.words (length ws) ws) later),
    )

-- the room of the dead is given up
pub queue_freed : {T : Type 0} (ss : List Tally) (ws : List T) (dead read : Place) → IsQueue ss ws dead read
    → IsQueue (drop dead.stops ss) (drop dead.words ws) (record { stops = 0; words = 0 }) (record { stops = read.stops - dead.stops; words = read.words - dead.words })
queue_freed {T} ss ws dead read q =
    let live : (dead.words ≤ length ws) × (length ws ≤ length ws) × (total (between dead.stops (length ss) ss) ≡ length (between dead.words (length ws) ws)) = length-span ss ws dead (end_of ss ws) (live_span q) q.whole in
    let sum : total (between dead.stops read.stops ss) + dead.words ≡ read.words = (let e : dead.words + total (between dead.stops read.stops ss) ≡ read.words = total-span ss dead read q.span in omega arith) in
    let order : dead.stops ≤ read.stops = q.span.order in
    let within : read.stops ≤ length ss = q.span.end.within in
    record {
      whole = ap total (sym (between_end ss dead.stops)) ∙ live.2 ∙ ap length (between_end ws dead.words);
      full = All-drop (λ (s : Tally). 0 < s.count) dead.stops ss q.full;
      span = record {
        begin = record { within = omega arith; words = refl };
        end = record { within = omega (arith, length-drop dead.stops ss); words = omega arith };
        order = omega arith;
      };
      climbs = subst (λ (xs : List Tally). Climbs 0 xs) (between_end ss dead.stops ∙ sym (between_end (drop dead.stops ss) 0)) q.climbs;
    }

pub line_freed : {T : Type 0} (ss : List Tally) (ws : List T) (dead read : Place) → IsQueue ss ws dead read
    → (told (drop dead.stops ss) (drop dead.words ws) (record { stops = 0; words = 0 }) (record { stops = read.stops - dead.stops; words = read.words - dead.words }) ≡ told ss ws dead read)
    × (told (drop dead.stops ss) (drop dead.words ws) (record { stops = read.stops - dead.stops; words = read.words - dead.words }) (end_of (drop dead.stops ss) (drop dead.words ws)) ≡ told ss ws read (end_of ss ws))
line_freed {T} ss ws dead read q =
    let many : (dead.words ≤ read.words) × (read.words ≤ length ws) × (total (between dead.stops read.stops ss) ≡ length (between dead.words read.words ws)) = length-span ss ws dead read q.span q.whole in
    let order : dead.stops ≤ read.stops = q.span.order in
    let within : read.stops ≤ length ss = q.span.end.within in
    let i : dead.stops + 0 ≡ dead.stops = omega arith in
    let j : dead.words + 0 ≡ dead.words = omega arith in
    let k : dead.stops + (read.stops - dead.stops) ≡ read.stops = omega arith in
    let l : dead.words + (read.words - dead.words) ≡ read.words = omega arith in
    let m : dead.stops + length (drop dead.stops ss) ≡ length ss = omega (arith, length-drop dead.stops ss) in
    let n : dead.words + length (drop dead.words ws) ≡ length ws = omega (arith, length-drop dead.words ws) in (
      told-drop ss ws dead.stops dead.words 0 0 (read.stops - dead.stops) (read.words - dead.words) ∙ cc,
      told-drop ss ws dead.stops dead.words (read.stops - dead.stops) (read.words - dead.words) (length (drop dead.stops ss)) (length (drop dead.words ws)) ∙ cc,
    )

-- words more
pub record Grows {T : Type 0} (time : ℕ) (ss ss' : List Tally) (ws us : List T) (dead read : Place) : Type 0 where
  pub queue : IsQueue ss' (ws ++ us) dead read
  pub told_read : told ss' (ws ++ us) dead read ≡ told ss ws dead read
  pub told_ahead : told ss' (ws ++ us) read (end_of ss' (ws ++ us)) ≡ told ss ws read (end_of ss ws) ++ at time us

pub queue_grows : {T : Type 0} (time : ℕ) (ss ss' : List Tally) (ws : List T) (w : T) (dead read : Place) → IsQueue ss ws dead read → HaveOneMore read.stops time ss ss' → last_time (standing (line_of ss ws dead read)) ≤ time
    → Grows time ss ss' ws (w ∷ []) dead read
queue_grows {T} time ss ss' ws w dead read q more h =
    let g : Growth read.stops time ss ss' = growth_of read.stops time ss ss' q.span.end.within more in
    let order : dead.stops ≤ read.stops = q.span.order in
    let within : read.stops ≤ length ss = q.span.end.within in
    let from_dead : Growth 0 time (drop dead.stops ss) (drop dead.stops ss') = drop-growth read.stops time ss ss' g dead.stops order in
    let from_read : Growth 0 time (drop read.stops ss) (drop read.stops ss') = drop-growth read.stops time ss ss' g read.stops (omega arith) in
    let live : (dead.words ≤ length ws) × (length ws ≤ length ws) × (total (between dead.stops (length ss) ss) ≡ length (between dead.words (length ws) ws)) = length-span ss ws dead (end_of ss ws) (live_span q) q.whole in
    let ahead : (read.words ≤ length ws) × (length ws ≤ length ws) × (total (between read.stops (length ss) ss) ≡ length (between read.words (length ws) ws)) = length-span ss ws read (end_of ss ws) (ahead_span q) q.whole in
    let live_whole : total (drop dead.stops ss) ≡ length (drop dead.words ws) = ap total (sym (between_end ss dead.stops)) ∙ live.2 ∙ ap length (between_end ws dead.words) in
    let ahead_whole : total (drop read.stops ss) ≡ length (drop read.words ws) = ap total (sym (between_end ss read.stops)) ∙ ahead.2 ∙ ap length (between_end ws read.words) in
    let longer : length ss ≤ length ss' = length-growth read.stops time ss ss' g in
    let at : (p : Place) → IsPlace ss p → p.stops ≤ read.stops → IsPlace ss' p = λ p place k. record { within = omega (arith, place.within); words = ap total (take-growth read.stops time ss ss' g p.stops k) ∙ place.words } in
    let stands : standing (line_of ss ws dead read) ≡ dated (drop dead.stops ss) (drop dead.words ws) = standing-told ss ws dead read q ∙ ends ss ws dead in
    let last : last_time (dated (drop dead.stops ss) (drop dead.words ws)) ≤ time = subst (λ (xs : List (Dated T)). last_time xs ≤ time) stands h in
    let climbs : Climbs 0 (drop dead.stops ss') =
    Climbs-growth 0 time (drop dead.stops ss) (drop dead.stops ss') (drop dead.words ws) from_dead
    (subst (λ (xs : List Tally). Climbs 0 xs) (between_end ss dead.stops) q.climbs) (All-drop (λ (s : Tally). 0 < s.count) dead.stops ss q.full) live_whole last in
    let same_stops : between dead.stops read.stops ss' ≡ between dead.stops read.stops ss =
    sym (between-take ss' dead.stops read.stops read.stops (omega arith)) ∙ ap (between dead.stops read.stops) (take-growth read.stops time ss ss' g read.stops (omega arith)) ∙ between-take ss dead.stops read.stops read.stops (omega arith) in
    let same_words : between dead.words read.words (ws ++ w ∷ []) ≡ between dead.words read.words ws =
    sym (between-take (ws ++ w ∷ []) dead.words read.words read.words (omega arith)) ∙ ap (between dead.words read.words) (take-append-le read.words ws (w ∷ []) ahead.0) ∙ between-take ws dead.words read.words read.words (omega arith) in
    record {
      queue = record {
        whole = total-growth read.stops time ss ss' g ∙ (let e : total ss ≡ length ws = q.whole in let n : length (ws ++ w ∷ []) ≡ length ws + 1 = length_push ws w in omega arith);
        full = AreFull-growth read.stops time ss ss' g q.full;
        span = record { begin = at dead q.span.begin order; end = at read q.span.end (omega arith); order = order };
        climbs = subst (λ (xs : List Tally). Climbs 0 xs) (sym (between_end ss' dead.stops)) climbs;
      };
      told_read = rw (same_stops, same_words) refl;
      told_ahead =
          ends ss' (ws ++ w ∷ []) read
          ∙ ap (dated (drop read.stops ss')) (drop-append-le read.words ws (w ∷ []) ahead.0)
          ∙ dated-growth 0 time (drop read.stops ss) (drop read.stops ss') (drop read.words ws) w from_read ahead_whole
          ∙ ap (λ (xs : List (Dated T)). xs ++ (time, w) ∷ []) (sym (ends ss ws read));
    }
