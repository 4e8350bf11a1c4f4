-- What is written between two cuts, and where cuts may be.
use Rattle.std.proofs.Common.{◌≡◌, ℕ, zero, suc, ◌+◌, ◌-◌, ◌<◌, ◌≤◌, inl, inr, List, [], ◌∷◌, ◌++◌, length, get_or, take, drop, map, refl, ap, sym, ◌∙◌, subst, false, arith, length-append, add-one}
use Rattle.std.proofs.lemmas.List.{append_assoc, map-append, take-append-drop, take-take, get_or_append_left, get_or_at}
use Rattle.std.specs.Prelude.{codes}
use Rattle.std.specs.List.{AllByRecursion}
use Rattle.gate_values.specs.declared.logic.Change.{Change}
use Rattle.gate_values.specs.declared.logic.Logic.{Logic}
use Rattle.net_waves.specs.Waves.{wave_value}
use Rattle.gate_stimulus.specs.declared.timescale.Timescale.{Timescale}
use Rattle.vcd_dumps.specs.Dump.{header, first_lines, moments, dump_text}
use Rattle.vcd_dumps.proofs.Stops.{all_stops, moments-walked}
use Rattle.byte_sinks.specs.Sink.{Held}
use Rattle.byte_sinks.specs.Lots.{Lot}
use Rattle.net_waves.specs.declared.timeline.Stop.{Stop}
use Rattle.net_waves.specs.Packed.{Packed, told, words_at, told_below}
use Rattle.net_waves.specs.Keys.{stop_of, stops_of_keys}
use Rattle.net_waves.proofs.Compared.{cases_below}
use Rattle.vcd_dumps.specs.Walk.{walked, last_stop}
use Rattle.vcd_dumps.specs.Inner.Walk.{tail_line, GoesOn}
use Rattle.vcd_dumps.specs.Inner.Pieces.{AreCuts}
use Rattle.vcd_dumps.proofs.Walking.{walked-append, last_stop-append, All-parts}

-- what was put into a new sink
pub goes-new : (start sink : Held) (begin lot : Lot) (first whole : List ℕ) → start ≡ record { bytes = []; failed = false } → begin ≡ record { waiting = []; written = 0 } → GoesOn start sink begin first whole lot → GoesOn (record { bytes = []; failed = false }) sink (record { waiting = []; written = 0 }) first whole lot
goes-new start sink begin lot first whole e f goes = subst (λ (l : Lot). GoesOn (record { bytes = []; failed = false }) sink l first whole lot) f (subst (λ (h : Held). GoesOn h sink begin first whole lot) e goes)

-- ---- the last stop before a time
last-stays : (t : ℕ) (ws : List ℕ) → last_stop t (map (told t) ws) ≡ t
last-stays t [] = refl
last-stays t (w ∷ ws) = last-stays t ws

last-told : (u t : ℕ) (ws : List ℕ) → (length ws ≡ 0 → ⊥) → last_stop u (map (told t) ws) ≡ t
last-told u t [] some = absurd (some refl)
last-told u t (w ∷ ws) some = last-stays t ws

last-quiet : (u t : ℕ) (ws : List ℕ) → length ws ≡ 0 → last_stop u (map (told t) ws) ≡ u
last-quiet u t [] none = refl
last-quiet u t (w ∷ ws) none = absurd (omega (arith, none))

-- words tell a stop at this time
pub last-here : (p : Packed) (t : ℕ) → (length (words_at p t) ≡ 0 → ⊥) → last_stop 0 (told_below p (t + 1)) ≡ t
last-here p t some = rw add-one (last_stop-append 0 (told_below p t) (map (told t) (words_at p t)) ∙ last-told (last_stop 0 (told_below p t)) t (words_at p t) some)

-- they tell none
pub last-earlier : (p : Packed) (t : ℕ) → length (words_at p t) ≡ 0 → last_stop 0 (told_below p (t + 1)) ≡ last_stop 0 (told_below p t)
last-earlier p t none = rw add-one (last_stop-append 0 (told_below p t) (map (told t) (words_at p t)) ∙ last-quiet (last_stop 0 (told_below p t)) t (words_at p t) none)

-- ---- keys
-- what keys before a place and those from there to an end add, one behind the other
pub keys-next : (keys before front here : List ℕ) (from end last : ℕ) → from ≤ end → before ≡ take end keys → front ≡ take from before → here ≡ drop from before → last ≡ last_stop 0 (stops_of_keys front) → walked 0 (stops_of_keys (take from keys)) ++ walked last (stops_of_keys here) ≡ walked 0 (stops_of_keys (take end keys))
keys-next keys before front here from end last rising before_is front_is here_is last_is =
    let early : front ≡ take from keys = front_is ∙ ap (take from) before_is ∙ take-take from end keys rising in
    let both : front ++ here ≡ take end keys = ap (λ ks. ks ++ here) front_is ∙ ap (λ ks. take from before ++ ks) here_is ∙ take-append-drop from before ∙ before_is in
    ap (λ ks. walked 0 (stops_of_keys ks) ++ walked last (stops_of_keys here)) (sym early)
    ∙ ap (λ (u : ℕ). walked 0 (stops_of_keys front) ++ walked u (stops_of_keys here)) last_is
    ∙ sym (walked-append 0 (stops_of_keys front) (stops_of_keys here))
    ∙ ap (walked 0) (sym (map-append stop_of front here))
    ∙ ap (λ ks. walked 0 (stops_of_keys ks)) both

-- what holds of the stops of all keys holds of those of some
pub keys-some : (P : Stop → Type 0) (keys : List ℕ) (from end : ℕ) → AllByRecursion P (stops_of_keys keys) → AllByRecursion P (stops_of_keys (drop from (take end keys)))
keys-some P keys from end all = back (take end keys) from (front keys end all)
  where
    whole : (ks : List ℕ) (n : ℕ) → AllByRecursion P (stops_of_keys ks) → AllByRecursion P (stops_of_keys (take n ks) ++ stops_of_keys (drop n ks))
    whole ks n a = subst (AllByRecursion P) (ap stops_of_keys (sym (take-append-drop n ks)) ∙ map-append stop_of (take n ks) (drop n ks)) a

    front : (ks : List ℕ) (n : ℕ) → AllByRecursion P (stops_of_keys ks) → AllByRecursion P (stops_of_keys (take n ks))
    front ks n a = (All-parts P (stops_of_keys (take n ks)) (stops_of_keys (drop n ks)) (whole ks n a)).0

    back : (ks : List ℕ) (n : ℕ) → AllByRecursion P (stops_of_keys ks) → AllByRecursion P (stops_of_keys (drop n ks))
    back ks n a = (All-parts P (stops_of_keys (take n ks)) (stops_of_keys (drop n ks)) (whole ks n a)).1

-- the last stop is that of the last key
pub keys-last : (last : ℕ) (keys : List ℕ) (d n : ℕ) → length keys ≡ suc n → last_stop last (stops_of_keys keys) ≡ (stop_of (get_or keys n d)).time
keys-last last [] d n many = absurd (omega (arith, many))
keys-last last (k ∷ []) d zero many = refl
keys-last last (k ∷ []) d (suc n) many = absurd (omega (arith, many))
keys-last last (k ∷ l ∷ ks) d zero many = absurd (omega (arith, many))
keys-last last (k ∷ l ∷ ks) d (suc n) many = keys-last (stop_of k).time (l ∷ ks) d n (omega (arith, many))

-- ---- the whole
-- all changes behind a text, and the horizon
pub text-moments : (lists : List (List Change)) (horizon : ℕ) (stops : List Stop) (front text : List ℕ) (last : ℕ) → stops ≡ all_stops (wave_value lists) (length lists) (suc horizon) → text ≡ front ++ walked 0 stops → last ≡ last_stop 0 stops → text ++ tail_line last horizon ≡ front ++ moments (wave_value lists) (length lists) horizon horizon
text-moments lists horizon stops front text last all text_is last_is =
    rw (moments-walked (wave_value lists) (length lists) horizon, ← all, text_is, last_is) (append_assoc front (walked 0 stops) (tail_line (last_stop 0 stops) horizon))

-- the text up to the values at 0, and what follows
pub whole-text : (top : List ℕ) (names : List (List ℕ)) (scale : Timescale) (value : ℕ → ℕ → Logic) (horizon : ℕ) (front : List ℕ) → front ≡ header top names scale ++ (first_lines value (length names) ++ codes "$end\n") → front ++ moments value (length names) horizon horizon ≡ dump_text top names scale value horizon
unfolding dump_text
whole-text top names scale value horizon front front_is =
    let later = moments value (length names) horizon horizon in
    let first = first_lines value (length names) in
    ap (λ l. l ++ later) front_is ∙ append_assoc (header top names scale) (first ++ codes "$end\n") later ∙ ap (λ l. header top names scale ++ l) (append_assoc first (codes "$end\n") later)

-- ---- cuts
-- some cuts, the last one not behind a place
pub record AreOpen (cuts : List ℕ) (at : ℕ) : Type 0 where
  pub some : 1 ≤ length cuts
  pub first : get_or cuts 0 0 ≡ 0
  pub rising : (k : ℕ) → k + 1 < length cuts → get_or cuts k 0 ≤ get_or cuts (k + 1) 0
  pub within : (k : ℕ) → k < length cuts → get_or cuts k 0 ≤ at

pub open-first : (at : ℕ) → AreOpen (0 ∷ []) at
open-first at = record {
  some = omega arith;
  first = refl;
  rising = λ k h. absurd (omega arith);
  within = only;
}
  where
    only : (k : ℕ) → k < 1 → get_or (0 ∷ []) k 0 ≤ at
    only zero h = omega arith
    only (suc k) h = absurd (omega arith)

pub open-later : (cuts : List ℕ) (at later : ℕ) → AreOpen cuts at → at ≤ later → AreOpen cuts later
open-later cuts at later are h = record {
  some = are.some;
  first = are.first;
  rising = are.rising;
  within = λ k l. omega (arith, are.within k l);
}

pub open-push : (cuts : List ℕ) (at place : ℕ) → AreOpen cuts at → at ≤ place → AreOpen (cuts ++ place ∷ []) place
open-push cuts at place are h =
    let long : length (cuts ++ place ∷ []) ≡ length cuts + 1 = length-append cuts (place ∷ []) in
    record {
      some = omega (arith, long);
      first = get_or_append_left cuts (place ∷ []) 0 0 (omega (arith, are.some)) ∙ are.first;
      rising = λ k l. rises k (omega (arith, long));
      within = λ k l. ends k (omega (arith, long));
    }
  where
    old : (k : ℕ) → k < length cuts → get_or (cuts ++ place ∷ []) k 0 ≡ get_or cuts k 0
    old k l = get_or_append_left cuts (place ∷ []) 0 k l

    new : (k : ℕ) → length cuts ≡ k → get_or (cuts ++ place ∷ []) k 0 ≡ place
    new k e = get_or_at cuts place [] 0 k e

    ends : (k : ℕ) → k < suc (length cuts) → get_or (cuts ++ place ∷ []) k 0 ≤ place
    ends k l = elim (cases_below k (length cuts) l) [
      | inl below ↦ omega (arith, old k below, are.within k below)
      | inr here ↦ omega (arith, new k (sym here))
    ]

    rises : (k : ℕ) → k < length cuts → get_or (cuts ++ place ∷ []) k 0 ≤ get_or (cuts ++ place ∷ []) (k + 1) 0
    rises k l = elim (cases_below (k + 1) (length cuts) (omega arith)) [
      | inl below ↦ omega (arith, old k l, old (k + 1) below, are.rising k below)
      | inr here ↦ omega (arith, old k l, new (k + 1) (sym here), are.within k l)
    ]

-- the end is the last cut
pub cuts-end : (cuts : List ℕ) (at end : ℕ) → AreOpen cuts at → at ≤ end → AreCuts (cuts ++ end ∷ []) end
cuts-end cuts at end are h =
    let all = open-push cuts at end are h in
    let long : length (cuts ++ end ∷ []) ≡ length cuts + 1 = length-append cuts (end ∷ []) in
    record {
      some = all.some;
      first = all.first;
      last = get_or_at cuts end [] 0 (length (cuts ++ end ∷ []) - 1) (omega (arith, long));
      rising = all.rising;
      within = all.within;
    }
