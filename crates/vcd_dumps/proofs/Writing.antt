-- What a writer of changes has taken.
use Rattle.std.proofs.Common.{◌≡◌, ◌∙◌, ℕ, zero, suc, ◌+◌, ◌*◌, ◌<◌, ◌≤◌, true, false, inl, inr, List, [], ◌∷◌, ◌++◌, map, take, drop, length, get_or, unwrap_or, ap, sym, subst, refl, arith, append-nil, append_assoc}
use Rattle.std.specs.Prelude.{codes, Vec}
use Rattle.std.specs.declared.alloc.Global.{Global}
use Rattle.std.proofs.lemmas.Bool.{true≢false}
use Rattle.std.proofs.lemmas.List.{drop_more, drop_all, take_more, map-append}
use Rattle.std.specs.List.{AllByRecursion}
use Rattle.gate_values.specs.declared.logic.Logic.{Logic}
use Rattle.gate_values.specs.declared.logic.Logic.TheVariants.{X}
use Rattle.gate_values.specs.declared.logic.Change.{Change}
use Rattle.gate_values.specs.Changes.{latest}
use Rattle.gate_values.proofs.ChangeLists.{change_option-or}
use Rattle.byte_sinks.specs.Lots.{Passes}
use Rattle.byte_sinks.proofs.Passing.{passes_as, passes_then}
use Rattle.net_waves.specs.declared.timeline.NetMove.{NetMove}
use Rattle.net_waves.specs.declared.timeline.Stop.{Stop}
use Rattle.net_waves.specs.First.{first_by, first_from}
use Rattle.net_waves.specs.Timeline.{IsRising, Before, stop_by}
use Rattle.net_waves.specs.Stops.{AreStopsOf}
use Rattle.net_waves.specs.Waves.{wave_of, wave_value, IsWave, IsUntil}
use Rattle.net_waves.proofs.Compared.{cases_lt}
use Rattle.net_waves.proofs.Firsts.{first-append, first-late, first-told}
use Rattle.gate_stimulus.proofs.WaveValues.{pair_at-wave}
use Rattle.vcd_dumps.specs.Dump.{first_lines, moments}
use Rattle.vcd_dumps.specs.Walk.{walked, last_stop}
use Rattle.vcd_dumps.specs.Inner.Walk.{tail_line}
use Rattle.vcd_dumps.specs.Shown.Written.{place_of, Rises, front_of, HasText, HasTaken, Took}
use Rattle.vcd_dumps.specs.declared.writer.Writer.{Writer}
use Rattle.vcd_dumps.proofs.DumpLaws.{same_first}
use Rattle.vcd_dumps.proofs.PackedWalk.{rising-same}
use Rattle.vcd_dumps.proofs.PieceLaws.{text-moments}
use Rattle.vcd_dumps.proofs.Stops.{all_stops, all_stops-rising}
use Rattle.vcd_dumps.proofs.Walking.{walked-append, last_stop-append}
use Rattle.vcd_dumps.proofs.WaveStops.{stops_are}

-- from an earlier place on
rises_from : (p q r : ℕ) (ss : List Stop) → p ≤ q → Rises q ss r → Rises p ss r
unfolding Rises
rises_from p q r [] le end = omega (arith, le, end)
rises_from p q r (s ∷ ss) le rest = (rest.0, (let l = rest.1 in omega (arith, le, l)), rest.2)

-- some, and others behind them
pub rises_then : (p q r : ℕ) (some others : List Stop) → Rises p some q → Rises q others r → Rises p (some ++ others) r
unfolding Rises
rises_then p q r [] others le rest = rises_from p q r others le rest
rises_then p q r (s ∷ some) others up rest = (up.0, up.1, rises_then (place_of s + 1) q r some others up.2 rest)

-- each has a code
pub rises_known : (p q : ℕ) (ss : List Stop) → Rises p ss q → AllByRecursion (λ (s : Stop). s.net < 1000000) ss
unfolding Rises
rises_known p q [] up = tt
rises_known p q (s ∷ ss) up = (up.0, rises_known (place_of s + 1) q ss up.2)

-- a change stands before all others of a later place
before : (x : Stop) (p q : ℕ) (ss : List Stop) → x.net < 1000000 → place_of x < p → Rises p ss q → AllByRecursion (Before x) ss
unfolding Rises
before x p q [] few low up = tt
before x p q (s ∷ ss) few low up =
    let from : p ≤ place_of s = up.1 in
    let known : s.net < 1000000 = up.0 in
    let here : Before x s = elim (cases_lt x.time s.time) [
      | inl earlier ↦ inl earlier
      | inr late ↦ inr ((omega (arith, late, from, low, known)), (omega (arith, late, from, low, known)))
    ] in
    (here, before x (place_of s + 1) q ss few (omega (arith, low, from)) up.2)

pub rising : (p q : ℕ) (ss : List Stop) → Rises p ss q → IsRising ss
unfolding Rises
rising p q [] up = tt
rising p q (s ∷ ss) up = (before s (place_of s + 1) q ss up.0 (omega arith) up.2, rising (place_of s + 1) q ss up.2)

-- changes in order that are those of some lists
pub are_all : (p q : ℕ) (lists : List (List Change)) (stops : List Stop) (horizon : ℕ) → Rises p stops q → AreStopsOf lists stops → ((n : ℕ) → IsWave (wave_of lists n)) → ((n : ℕ) → IsUntil horizon (wave_of lists n))
    → stops ≡ all_stops (wave_value lists) (length lists) (suc horizon)
are_all p q lists stops horizon up are waves until =
    rising-same stops (all_stops (wave_value lists) (length lists) (suc horizon)) (rising p q stops up) (all_stops-rising (wave_value lists) (length lists) (suc horizon)) (stops_are lists stops horizon are waves until)

-- ---- a step of a writer

-- one move more
pub rises_one : (place next time : ℕ) (moves : List NetMove) (i : ℕ) (d : NetMove) → i < length moves → (get_or moves i d).net < 1000000 → next ≤ time * 1000000 + (get_or moves i d).net
    → ((end : ℕ) → Rises next (map (stop_by time) (drop i moves)) end → Rises place (map (stop_by time) moves) end)
    → (end : ℕ) → Rises (time * 1000000 + (get_or moves i d).net + 1) (map (stop_by time) (drop (i + 1) moves)) end → Rises place (map (stop_by time) moves) end
unfolding Rises
rises_one place next time moves i d l known low so_far end rest =
    so_far end (subst (λ (ms : List NetMove). Rises next (map (stop_by time) ms) end) (sym (drop_more moves i d l)) (known, low, rest))

-- no move is left
pub rises_all : (place next time : ℕ) (moves : List NetMove) (i : ℕ) → length moves ≤ i
    → ((end : ℕ) → Rises next (map (stop_by time) (drop i moves)) end → Rises place (map (stop_by time) moves) end)
    → Rises place (map (stop_by time) moves) next
unfolding Rises
rises_all place next time moves i l so_far =
    so_far next (subst (λ (ms : List NetMove). Rises next (map (stop_by time) ms) next) (sym (drop_all i moves l)) (omega arith))

pub firsts_more : (v : Logic) (moves : List NetMove) (i : ℕ) (d : NetMove) (n : ℕ) → i < length moves
    → first_from v (map (stop_by 0) (take (i + 1) moves)) n ≡ first_by (stop_by 0 (get_or moves i d)) (first_from v (map (stop_by 0) (take i moves)) n) n
firsts_more v moves i d n l =
    ap (λ (ms : List NetMove). first_from v (map (stop_by 0) ms) n) (take_more moves i d l)
    ∙ ap (λ (ss : List Stop). first_from v ss n) (map-append (stop_by 0) (take i moves) (get_or moves i d ∷ []))
    ∙ first-append v (map (stop_by 0) (take i moves)) (stop_by 0 (get_or moves i d) ∷ []) n

-- at time 0 nothing is written
walked_now : (last : ℕ) (moves : List NetMove) → walked last (map (stop_by 0) moves) ≡ []
walked_now last [] = refl
walked_now last (m ∷ ms) = walked_now 0 ms

last_now : (moves : List NetMove) → last_stop 0 (map (stop_by 0) moves) ≡ 0
last_now [] = refl
last_now (m ∷ ms) = last_now ms

later_moves : (time : ℕ) (moves : List NetMove) → 0 < time → AllByRecursion (λ (s : Stop). 0 < s.time) (map (stop_by time) moves)
later_moves time [] l = tt
later_moves time (m ∷ ms) l = (l, later_moves time ms l)

-- changes of time 0
pub taken_now : (x y : Writer) (moves : List NetMove) → x.begun ≡ false → y.begun ≡ false → y.sink ≡ x.sink → y.lot ≡ x.lot → y.last ≡ x.last → Rises x.place (map (stop_by 0) moves) y.place
    → length y.firsts.items ≡ length x.firsts.items → ((n : ℕ) → n < length x.firsts.items → get_or y.firsts.items n X ≡ first_from (get_or x.firsts.items n X) (map (stop_by 0) moves) n)
    → Took x y (map (stop_by 0) moves)
taken_now x y moves waits still sink lot last rises many each head nets stops t =
    let more : List Stop = map (stop_by 0) moves in
    let opened = t.opened waits in
    let none : walked 0 (stops ++ more) ≡ [] = walked-append 0 stops more ∙ ap (λ l. l ++ walked (last_stop 0 stops) more) opened.1 ∙ walked_now (last_stop 0 stops) moves in
    let first : last_stop 0 (stops ++ more) ≡ 0 = last_stop-append 0 stops more ∙ ap (λ (l : ℕ). last_stop l more) opened.2 ∙ last_now moves in
    record {
      opened = λ _. (rw (sink, lot) opened.0, none, first);
      text = λ begun. absurd (true≢false (sym begun ∙ still));
      last = last ∙ t.last ∙ opened.2 ∙ sym first;
      rises = rises_then 0 x.place y.place stops more t.rises rises;
      many = many ∙ t.many;
      few = t.few;
      firsts = λ n l.
          each n (let count = t.many in omega (arith, l, count))
          ∙ ap (λ (v : Logic). first_from v more n) (t.firsts n l)
          ∙ sym (first-append X stops more n);
    }

-- the values at time 0 are put
pub taken_begun : (x y : Writer) → x.begun ≡ false → y.begun ≡ true → y.firsts ≡ x.firsts → y.last ≡ x.last → y.place ≡ x.place
    → Passes x.sink y.sink x.lot (first_lines (λ n t. get_or x.firsts.items n X) (length x.firsts.items) ++ codes "$end\n") y.lot
    → (head : List ℕ) (nets : ℕ) (stops : List Stop) → HasTaken head nets stops x → HasTaken head nets stops y
taken_begun x y waits begun firsts last place put head nets stops t =
    let opened = t.opened waits in
    let front = front_of head x.firsts.items in
    let whole : front ≡ front_of head y.firsts.items ++ walked 0 stops =
    sym (append-nil front) ∙ ap (λ l. front ++ l) (sym opened.1) ∙ ap (λ (fs : Vec Logic Global). front_of head fs.items ++ walked 0 stops) (sym firsts) in
    record {
      opened = λ waiting. absurd (true≢false (sym begun ∙ waiting));
      text = λ _. passes_as whole (passes_then opened.0 put);
      last = last ∙ t.last;
      rises = subst (Rises 0 stops) (sym place) t.rises;
      many = ap (λ (fs : Vec Logic Global). length fs.items) firsts ∙ t.many;
      few = t.few;
      firsts = λ n l. ap (λ (fs : Vec Logic Global). get_or fs.items n X) firsts ∙ t.firsts n l;
    }

-- changes of a later time
pub taken_later : (x y : Writer) (time : ℕ) (moves : List NetMove) → 0 < time → x.begun ≡ true → y.begun ≡ true → y.firsts ≡ x.firsts → y.last ≡ last_stop x.last (map (stop_by time) moves)
    → Rises x.place (map (stop_by time) moves) y.place → Passes x.sink y.sink x.lot (walked x.last (map (stop_by time) moves)) y.lot → Took x y (map (stop_by time) moves)
taken_later x y time moves late begun still firsts last rises put head nets stops t =
    let more : List Stop = map (stop_by time) moves in
    let front = front_of head x.firsts.items in
    let here : Passes x.sink y.sink x.lot (walked (last_stop 0 stops) more) y.lot = subst (λ (l : ℕ). Passes x.sink y.sink x.lot (walked l more) y.lot) t.last put in
    let whole : (front ++ walked 0 stops) ++ walked (last_stop 0 stops) more ≡ front_of head y.firsts.items ++ walked 0 (stops ++ more) =
    append_assoc front (walked 0 stops) (walked (last_stop 0 stops) more)
    ∙ ap (λ l. front ++ l) (sym (walked-append 0 stops more))
    ∙ ap (λ (fs : Vec Logic Global). front_of head fs.items ++ walked 0 (stops ++ more)) (sym firsts) in
    record {
      opened = λ waiting. absurd (true≢false (sym still ∙ waiting));
      text = λ _. passes_as whole (passes_then (t.text begun) here);
      last = last ∙ ap (λ (l : ℕ). last_stop l more) t.last ∙ sym (last_stop-append 0 stops more);
      rises = rises_then 0 x.place y.place stops more t.rises rises;
      many = ap (λ (fs : Vec Logic Global). length fs.items) firsts ∙ t.many;
      few = t.few;
      firsts = λ n l.
          ap (λ (fs : Vec Logic Global). get_or fs.items n X) firsts
          ∙ t.firsts n l
          ∙ sym (first-late (first_from X stops n) more n (later_moves time moves late))
          ∙ sym (first-append X stops more n);
    }

-- ---- the whole text

module _ (head : List ℕ) (lists : List (List Change)) (stops : List Stop) (horizon : ℕ) (w : Writer) (waves : (n : ℕ) → IsWave (wave_of lists n)) (until : (n : ℕ) → IsUntil horizon (wave_of lists n))
    (are : AreStopsOf lists stops) (t : HasTaken head (length lists) stops w) where
  value_now : (n : ℕ) → n < length lists → get_or w.firsts.items n X ≡ wave_value lists n 0
  value_now n l =
      t.firsts n l ∙ first-told lists stops n are
      ∙ ap (λ o. unwrap_or o X) (pair_at-wave (wave_of lists n) 0 (waves n)) ∙ change_option-or (latest X (wave_of lists n)) 0

  value_at : (n time : ℕ) → n < length lists → time ≤ 0 → get_or w.firsts.items n X ≡ wave_value lists n time
  value_at n zero l first = value_now n l
  value_at n (suc time) l first = absurd (omega (arith, first))

  first_values : first_lines (λ n t. get_or w.firsts.items n X) (length w.firsts.items) ≡ first_lines (wave_value lists) (length lists)
  first_values =
      ap (λ (nets : ℕ). first_lines (λ n t. get_or w.firsts.items n X) nets) t.many
      ∙ same_first (λ n t. get_or w.firsts.items n X) (wave_value lists) (length lists) 0 value_at (length lists) (omega arith)

  pub whole : (front_of head w.firsts.items ++ walked 0 stops) ++ tail_line w.last horizon ≡ head ++ (first_lines (wave_value lists) (length lists) ++ (codes "$end\n" ++ moments (wave_value lists) (length lists) horizon horizon))
  whole =
      let later = moments (wave_value lists) (length lists) horizon horizon in
      let first = first_lines (wave_value lists) (length lists) in
      text-moments lists horizon stops (front_of head w.firsts.items) (front_of head w.firsts.items ++ walked 0 stops) w.last (are_all 0 w.place lists stops horizon t.rises are waves until) refl t.last
      ∙ ap (λ l. (head ++ (l ++ codes "$end\n")) ++ later) first_values
      ∙ append_assoc head (first ++ codes "$end\n") later
      ∙ ap (λ l. head ++ l) (append_assoc first (codes "$end\n") later)

-- ---- a writer that has taken nothing

pub taken_none : (w : Writer) (head : List ℕ) (nets : ℕ) → w.begun ≡ false → w.last ≡ 0 → w.place ≡ 0 → HasText w head → length w.firsts.items ≡ nets → nets ≤ 1000000
    → ((n : ℕ) → n < nets → get_or w.firsts.items n X ≡ X) → HasTaken head nets [] w
unfolding Rises
taken_none w head nets waits last place text many few blank = record {
  opened = λ _. (text, refl, refl);
  text = λ begun. absurd (true≢false (sym begun ∙ waits));
  last = last;
  rises = omega arith;
  many = many;
  few = few;
  firsts = blank;
}
