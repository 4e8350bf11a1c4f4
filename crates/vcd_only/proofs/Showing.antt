-- The changes of the nets that are told are what a dump of these nets writes.
use Rattle.std.proofs.Common.{◌≡◌, ℕ, suc, ◌+◌, ◌<◌, ◌≤◌, ◌^◌, inl, inr, Bool, true, false, cond, List, [], ◌++◌, length, refl, ap, sym, ◌∙◌, subst, arith, add-one}
use Rattle.std.specs.List.{AllByRecursion}
use Rattle.std.proofs.lemmas.List.{get_or_past}
use Rattle.std.proofs.lemmas.List.FromFn.{length-map-range_with_len, get_or-map-range_with_len}
use Rattle.gate_values.specs.declared.logic.Logic.{Logic}
use Rattle.gate_values.specs.declared.logic.Logic.TheVariants.{X}
use Rattle.gate_values.specs.declared.logic.Change.{Change}
use Rattle.gate_values.specs.Changes.{latest}
use Rattle.vcd_dumps.specs.Dump.{moments}
use Rattle.net_waves.specs.Waves.{wave_of, wave_value, IsWave, IsUntil}
use Rattle.net_waves.specs.declared.timeline.Stop.{Stop}
use Rattle.net_waves.specs.Timeline.{InOrder, count}
use Rattle.net_waves.specs.Inner.Stops.{stops_of, stops_below}
use Rattle.vcd_dumps.specs.Walk.{walked, last_stop}
use Rattle.vcd_dumps.specs.Inner.Walk.{tail_line}
use Rattle.net_waves.proofs.Compared.{cases_lt}
use Rattle.vcd_dumps.proofs.Stops.{moments-walked, known_below, all_stops, all_stops-rising}
use Rattle.vcd_dumps.proofs.WaveStops.{stops_are}
use Rattle.net_waves.proofs.Waving.{in_step-of}
use Rattle.vcd_only.specs.Told.{is_told, hidden}
use Rattle.vcd_only.specs.Inner.Stops.{shown_wave, shown}
use Rattle.vcd_only.proofs.Ordering.{in_order-same}

pub length-shown : (told : List Bool) (lists : List (List Change)) → length (shown told lists) ≡ length lists
unfolding shown
length-shown told lists = length-map-range_with_len (shown_wave told lists) 0 (length lists)

pub shown-at : (told : List Bool) (lists : List (List Change)) (n : ℕ) → n < length lists → wave_of (shown told lists) n ≡ shown_wave told lists n
unfolding shown
shown-at told lists n h = get_or-map-range_with_len (shown_wave told lists) 0 (length lists) n n [] h (omega arith)

-- the changes of one net more
pub stops_below-next : (told : List Bool) (lists : List (List Change)) (n : ℕ) → n < length lists → (old new : List Stop) → old ≡ stops_below (shown told lists) n → new ≡ old ++ stops_of n (shown_wave told lists n) → new ≡ stops_below (shown told lists) (n + 1)
stops_below-next told lists n h old new was more = rw (add-one n, shown-at told lists n h) (more ∙ ap (λ (ss : List Stop). ss ++ stops_of n (shown_wave told lists n)) was)

none-past : (told : List Bool) (lists : List (List Change)) (n : ℕ) → length lists ≤ n → shown_wave told lists n ≡ []
none-past told lists n h = rw (get_or_past lists n [] h) (go (is_told told n))
  where
    go : (b : Bool) → ◌≡◌ {A = List Change} (cond b [] []) []
    go true = refl
    go false = refl

shown-wave : (told : List Bool) (lists : List (List Change)) (n : ℕ) → wave_of (shown told lists) n ≡ shown_wave told lists n
shown-wave told lists n = elim (cases_lt n (length lists)) [
  | inl known ↦ shown-at told lists n known
  | inr past ↦ (get_or_past (shown told lists) n [] (omega (arith, length-shown told lists)) ∙ sym (none-past told lists n past))
]

-- what is true of a net's changes, and of none
module _ (P : List Change → Type 0) (none : P []) (told : List Bool) (lists : List (List Change)) (all : (n : ℕ) → P (wave_of lists n)) where
  shown-all : (n : ℕ) → P (wave_of (shown told lists) n)
  shown-all n = subst P (sym (shown-wave told lists n)) (go (is_told told n))
    where
      go : (b : Bool) → P (cond b (wave_of lists n) [])
      go true = all n
      go false = none

latest-none : (t : ℕ) → latest X [] t ≡ X
unfolding latest
latest-none t = refl

-- their values are the values as if the others never changed
value-shown : (told : List Bool) (lists : List (List Change)) (n t : ℕ) → hidden told (wave_value lists) n t ≡ wave_value (shown told lists) n t
value-shown told lists n t = go (is_told told n) ∙ ap (λ (cs : List Change). latest X cs t) (sym (shown-wave told lists n))
  where
    go : (b : Bool) → cond b (latest X (wave_of lists n) t) X ≡ latest X (cond b (wave_of lists n) []) t
    go true = refl
    go false = sym (latest-none t)

values-shown : (told : List Bool) (lists : List (List Change)) → hidden told (wave_value lists) ≡ wave_value (shown told lists)
values-shown told lists i = λ n t. value-shown told lists n t i

-- changes in order that are those of the nets that are told
module _ (told : List Bool) (lists : List (List Change)) (horizon : ℕ) (stops : List Stop)
    (waves : (n : ℕ) → IsWave (wave_of lists n)) (until : (n : ℕ) → IsUntil horizon (wave_of lists n)) (few : length lists ≤ 1000000)
    (same : (s : Stop) → count s stops ≡ count s (stops_below (shown told lists) (length lists))) (order : InOrder stops) where
  abbrev own : List (List Change)
  own = shown told lists

  abbrev all : List Stop
  all = all_stops (wave_value own) (length own) (suc horizon)

  own-waves : (n : ℕ) → IsWave (wave_of own n)
  own-waves = shown-all IsWave tt told lists waves

  own-until : (n : ℕ) → IsUntil horizon (wave_of own n)
  own-until = shown-all (IsUntil horizon) (omega arith) told lists until

  own-few : length own < 2 ^ 32
  own-few = omega (arith, length-shown told lists)

  own-same : (s : Stop) → count s stops ≡ count s (stops_below own (length own))
  own-same s = same s ∙ ap (λ (n : ℕ). count s (stops_below own n)) (sym (length-shown told lists))

  stops-all : stops ≡ all
  stops-all = in_order-same stops all order (all_stops-rising (wave_value own) (length own) (suc horizon))
      (stops_are own stops horizon (in_step-of own stops own-few own-waves own-same).in_step own-waves own-until)

  pub stops-known : AllByRecursion (λ (s : Stop). s.net < 1000000) stops
  stops-known = subst (AllByRecursion (λ (s : Stop). s.net < 1000000)) (sym stops-all) (known_below (wave_value own) (length own) 1000000 (suc horizon) (omega (arith, length-shown told lists)))

  pub moments-told : walked 0 stops ++ tail_line (last_stop 0 stops) horizon ≡ moments (hidden told (wave_value lists)) (length lists) horizon horizon
  moments-told =
      ap (λ (ss : List Stop). walked 0 ss ++ tail_line (last_stop 0 ss) horizon) stops-all ∙ sym (moments-walked (wave_value own) (length own) horizon)
      ∙ ap (λ (n : ℕ). moments (wave_value own) n horizon horizon) (length-shown told lists) ∙ ap (λ (v : ℕ → ℕ → Logic). moments v (length lists) horizon horizon) (sym (values-shown told lists))
