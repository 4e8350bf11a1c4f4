-- Laws of what is written of runs that are merged.
use Rattle.std.proofs.Common.{◌≡◌, ℕ, ◌<◌, ◌≤◌, List, [], ◌++◌, length, get_or, take, drop, refl, ap, sym, ◌∙◌, subst, arith}
use Rattle.std.proofs.Math.ListN.{set}
use Rattle.std.proofs.lemmas.List.{take-map, length-drop}
use Rattle.std.specs.List.{AllByRecursion}
use Rattle.std.specs.Borrow.{Bor}
use Rattle.byte_sinks.specs.Sink.{Held}
use Rattle.byte_sinks.specs.Lots.{Lot, Passes}
use Rattle.net_waves.specs.declared.timeline.Stop.{Stop}
use Rattle.net_waves.specs.Timeline.{IsRising, count, Timeline, run_of, AreRuns}
use Rattle.vcd_dumps.specs.Walk.{walked, last_stop}
use Rattle.vcd_dumps.specs.Inner.Walk.{IsWalked}
use Rattle.net_waves.specs.Merging.{lefts, IsChunk}
use Rattle.net_waves.specs.Inner.Merging.{flat, AreRunsOf}
use Rattle.vcd_dumps.proofs.Walking.{walked_start, walked_chunk, chunk_known, walked_end}
use Rattle.vcd_dumps.specs.Inner.Merged.{IsMerged}
use Rattle.net_waves.proofs.MergeLaws.{left-at, left-written, length-lefts, all-AreRunsOf, chunk-taken, none-left, length-flat}

pub merged_start : (sink : Held) (lot : Lot) (t : Timeline) (rests : List (Bor (List Stop))) (n : ℕ) (all : List Stop) → AreRuns t → n ≡ length t.starts → length t.starts ≤ length rests → ((i : ℕ) → i < length t.starts → get_or (lefts rests) i [] ≡ run_of t i)
    → IsRising all → ((s : Stop) → count s t.stops ≡ count s all) → AllByRecursion (λ (s : Stop). s.net < 1000000) all → IsMerged sink sink lot lot 0 (lefts (take n rests)) all
merged_start sink lot t rests n all are many room taken rising same known =
    let whole : lefts (take n rests) ≡ take (length t.starts) (lefts rests) = ap (λ (k : ℕ). lefts (take k rests)) many ∙ sym (take-map (λ (rest : Bor (List Stop)). rest.now) (length t.starts) rests) in
    record {
      rest = all;
      walked = walked_start sink lot 0 all all refl known;
      left = subst (λ (runs : List (List Stop)). AreRunsOf runs all) (sym whole) (all-AreRunsOf t are (lefts rests) (omega (arith, length-lefts rests)) taken all rising same);
    }

module _ (old mid : Held) (from mid_lot : Lot) (last : ℕ) (rests : List (Bor (List Stop))) (all : List Stop) (run many : ℕ) (front : List Stop) (merged : IsMerged old mid from mid_lot last (lefts rests) all) (is : IsChunk (lefts rests) run many)
    (cut : front ≡ take many (get_or rests run (record { ref_ptr = (0, 0); now = [] })).now) where
  own_front : front ≡ take many (get_or (lefts rests) run [])
  own_front = cut ∙ ap (take many) (sym (left-at rests run))

  abbrev taken_rest : (rest : List Stop) × (merged.rest ≡ take many (get_or (lefts rests) run []) ++ rest) × AreRunsOf (set (lefts rests) run (drop many (get_or (lefts rests) run []))) rest
  taken_rest = chunk-taken (lefts rests) merged.rest run many merged.left is

  whole_rest : merged.rest ≡ front ++ taken_rest.0
  whole_rest = taken_rest.1 ∙ ap (λ (r : List Stop). r ++ taken_rest.0) (sym own_front)

  pub merged_known : AllByRecursion (λ (s : Stop). s.net < 1000000) front
  merged_known = chunk_known old mid from mid_lot 0 last front merged.rest taken_rest.0 all merged.walked whole_rest

  module _ (back : Bor (List Stop)) (left : back.now ≡ drop many (get_or rests run (record { ref_ptr = (0, 0); now = [] })).now) where
    left_is : lefts (set rests run back) ≡ set (lefts rests) run (drop many (get_or (lefts rests) run []))
    left_is = left-written rests run back ∙ ap (set (lefts rests) run) (left ∙ ap (drop many) (sym (left-at rests run)))

    pub merged_step : (new : Held) (to : Lot) (end : ℕ) → Passes mid new mid_lot (walked last front) to → end ≡ last_stop last front → IsMerged old new from to end (lefts (set rests run back)) all
    merged_step new to end put at = record {
      rest = taken_rest.0;
      walked = subst (λ (t : ℕ). IsWalked old new from to 0 t taken_rest.0 all) (sym at) (walked_chunk old mid new from mid_lot to 0 last front merged.rest taken_rest.0 all merged.walked whole_rest put);
      left = subst (λ (runs : List (List Stop)). AreRunsOf runs taken_rest.0) (sym left_is) taken_rest.2;
    }

    pub merged_smaller : length (flat (lefts (set rests run back))) < length (flat (lefts rests))
    merged_smaller =
        let same : length (flat (lefts (set rests run back))) ≡ length (flat (set (lefts rests) run (drop many (get_or (lefts rests) run [])))) = ap (λ r. length (flat r)) left_is in
        omega (arith, same, length-flat (lefts rests) run (drop many (get_or (lefts rests) run [])) is.known, length-drop many (get_or (lefts rests) run []), is.some, is.within)

pub merged_end : (old new : Held) (from to : Lot) (last : ℕ) (runs : List (List Stop)) (all : List Stop) → IsMerged old new from to last runs all → ((j : ℕ) → get_or runs j [] ≡ []) → Passes old new from (walked 0 all) to × (last ≡ last_stop 0 all)
merged_end old new from to last runs all merged none = walked_end old new from to 0 last merged.rest all merged.walked (none-left runs merged.rest merged.left none)
