-- What a new block shows, and what it tells.
use Rattle.std.proofs.Common.{◌≡◌, ◌≢◌, ℕ, zero, suc, ◌+◌, ◌<◌, ◌≤◌, ◌++◌, Bool, true, false, cond, max, min, pred, List, [], ◌∷◌, map, length, get_or, replicate, refl, ap, sym, ◌∙◌, subst, arith, All}
use Rattle.std.proofs.lemmas.Bool.{true≢false, ne_eqb, eq-eqb}
use Rattle.std.specs.List.{flat_map}
use Rattle.std.proofs.lemmas.List.{get_or-map, length-map, get_or_past, get_or_default, get_or-replicate, length-replicate, same_lists}
use Rattle.std.proofs.lemmas.List.Elements.{All-nil, All-cons, All-append, All-from_recursion}
use Rattle.std.proofs.lemmas.List.Sorted.{IsPermutation-refl}
use Rattle.gate_values.specs.declared.logic.Logic.{Logic}
use Rattle.gate_values.specs.declared.logic.Logic.TheVariants.{X}
use Rattle.gate_values.specs.declared.logic.Change.{Change}
use Rattle.gate_values.specs.Behaviour.{Source, Outside, Gate, Flop, value, source_delay, initial_of, IsWellFormed}
use Rattle.gate_values.specs.Changes.{changes, before_time, same}
use Rattle.gate_values.proofs.ChangeLists.{before_time-changes, changes-agree, changes-quiet}
use Rattle.gate_values.proofs.Beginning.{initial_before}
use Rattle.gate_stimulus.specs.Given.{Given}
use Rattle.event_times.specs.Marks.{Played, AreTimes}
use Rattle.warp_stores.specs.Words.{Move}
use Rattle.warp_stores.specs.Dated.{Dated, at}
use Rattle.warp_stores.specs.Lists.{AreLonger, changes_at}
use Rattle.warp_gates.specs.Cells.{value_at}
use Rattle.place_moves.specs.Moves.{move_of}
use Rattle.place_moves.proofs.Moving.{move_of-same}
use Rattle.place_moves.proofs.Places.{every-within}
use Rattle.warp_engine.specs.Runs.{Run}
use Rattle.warp_part.specs.Portion.{Portion, IsPortion, is_driven, owns, source_of, readers_of}
use Rattle.warp_part.proofs.Slots.{of_net-at}
use Rattle.warp_part.proofs.Placing.{source_at}
use Rattle.warp_process.specs.Heard.{IsReceived}
use Rattle.warp_process.specs.View.{View, effective_at, given_by}
use Rattle.warp_process.specs.Lawful.{lawful_log}
use Rattle.warp_process.specs.Played.{was_busy, played_view}
use Rattle.warp_process.specs.declared.message.Message.{Message}
use Rattle.warp_process.specs.declared.message.Sign.TheVariants.{Plus}
use Rattle.warp_process.specs.Sends.{SendsOnce}
use Rattle.warp_process.specs.Shown.Step.{sent}
use Rattle.warp_process.specs.Opening.{silent_view, opening_view, initial_log, first_messages, opening_messages}
use Rattle.warp_process.proofs.Running.{given, delayed}
use Rattle.warp_process.proofs.Views.{well_formed, timed}
use Rattle.part_engine.specs.Runs.{IsOpeningRun}
use Rattle.part_engine.specs.FirstMoves.{AreFirstMoves}
use Rattle.part_engine.proofs.FirstMoves.{first_place}
use Rattle.warp_sends.specs.Told.{told_of}
use Rattle.warp_sends.proofs.Sending.{tells_longer}
use Rattle.warp_block.specs.Shown.Block.{seen_by}
use Rattle.warp_block.specs.Inner.Held.{IsAt}
use Rattle.warp_block.proofs.Resting.{rest_lawful}

-- ---- what is logged at mark 0

-- what stays as it begins changes at 0 at most
changes-constant : (v : Logic) (t : ℕ) → changes (λ _. v) (suc t) ≡ initial_log v
unfolding changes
changes-constant v zero = refl
changes-constant v (suc t) = changes-quiet (λ _. v) (suc t) refl ∙ changes-constant v t

-- before one delay has passed nothing changes but what begins with a known value
first_changes : (source : ℕ → Source) (g : ℕ → ℕ → Logic) (n end : ℕ) → IsWellFormed (source n) → 0 < source_delay (source n) → 0 < end →
    before_time (0 + source_delay (source n)) (changes (value source g n) end) ≡ initial_log (initial_of (source n))
first_changes source g n end w late some =
    let more : min (0 + source_delay (source n)) end ≡ suc (pred (min (0 + source_delay (source n)) end)) = omega arith in
    before_time-changes (value source g n) (0 + source_delay (source n)) end
    ∙ (changes-agree (value source g n) (λ _. initial_of (source n)) (min (0 + source_delay (source n)) end) (λ t below. initial_before source g n t w (omega arith))
    ∙ (ap (changes (λ _. initial_of (source n))) more ∙ changes-constant (initial_of (source n)) (pred (min (0 + source_delay (source n)) end))))

-- what only a flip-flop has
undriven_initial : (s : Source) → is_driven s ≡ false → initial_of s ≡ X
undriven_initial Outside e = refl
undriven_initial (Gate kind delay inputs) e = refl
undriven_initial (Flop delay d c initial) e = absurd (true≢false e)

-- ---- words for what flip-flops begin with

-- at time 0 a place takes a value
abbrev first_word : ℕ → Logic → Dated Move
first_word i v = (0, record { place = i; before = X; after = v })

abbrev words_for : ℕ → Logic → List (Dated Move)
words_for i v = cond (same v X) [] (first_word i v ∷ [])

-- those of some nets, the first of which stands at a place
abbrev words_from : Portion → ℕ → List ℕ → List (Dated Move)
words_from p i [] = []
words_from p i (n ∷ ns) = words_for i (initial_of (source_of p n)) ++ words_from p (suc i) ns

-- a word of another place
other_word : (j i : ℕ) (v : Logic) (rest : List (Dated Move)) → i ≢ j → changes_at j (words_for i v ++ rest) ≡ changes_at j rest
other_word j i v rest ne = go (same v X)
  where
    go : (b : Bool) → changes_at j (cond b [] (first_word i v ∷ []) ++ rest) ≡ changes_at j rest
    go true = refl
    go false = rw (ne_eqb i j ne) refl

-- the word of the place
own_word : (i : ℕ) (v : Logic) (rest : List (Dated Move)) → changes_at i rest ≡ [] → changes_at i (words_for i v ++ rest) ≡ initial_log v
own_word i v rest none = go (same v X)
  where
    go : (b : Bool) → changes_at i (cond b [] (first_word i v ∷ []) ++ rest) ≡ cond b [] (record { time = 0; value = v } ∷ [])
    go true = none
    go false = rw (eq-eqb i i refl) (ap (λ (cs : List Change). record { time = 0; value = v } ∷ cs) none)

-- none of a place before them
none_below : (p : Portion) (ns : List ℕ) (i j : ℕ) → j < i → changes_at j (words_from p i ns) ≡ []
none_below p [] i j l = refl
none_below p (n ∷ ns) i j l =
    other_word j i (initial_of (source_of p n)) (words_from p (suc i) ns) (λ e. absurd (omega (arith, l, e))) ∙ none_below p ns (suc i) j (omega (arith, l))

-- one place after the other
changes_from : (p : Portion) (ns : List ℕ) (i k j : ℕ) → k < length ns → j ≡ i + k → changes_at j (words_from p i ns) ≡ initial_log (initial_of (source_of p (get_or ns k 0)))
changes_from p [] i k j l e = absurd (omega arith)
changes_from p (n ∷ ns) i zero j l e =
    subst (λ (m : ℕ). changes_at m (words_from p i (n ∷ ns)) ≡ initial_log (initial_of (source_of p n))) (let same : i ≡ j = omega (arith, e) in same)
    (own_word i (initial_of (source_of p n)) (words_from p (suc i) ns) (none_below p ns (suc i) i (omega arith)))
changes_from p (n ∷ ns) i (suc k) j l e =
    other_word j i (initial_of (source_of p n)) (words_from p (suc i) ns) (λ f. absurd (omega (arith, e, f))) ∙ changes_from p ns (suc i) k j (omega (arith, l)) (omega (arith, e))

first_at : (P : ℕ → Type 0) → P 0 → (i : ℕ) (v : Logic) (b : Bool) → All (λ (d : Dated Move). P d.0) (cond b [] (first_word i v ∷ []))
first_at P h i v true = All-nil (λ (d : Dated Move). P d.0)
first_at P h i v false = All-cons (λ (d : Dated Move). P d.0) (first_word i v) [] h (All-nil (λ (d : Dated Move). P d.0))

-- all of them come true at 0
all_first : (P : ℕ → Type 0) → P 0 → (p : Portion) (ns : List ℕ) (i : ℕ) → All (λ (d : Dated Move). P d.0) (words_from p i ns)
all_first P h p [] i = All-nil (λ (d : Dated Move). P d.0)
all_first P h p (n ∷ ns) i =
    let v : Logic = initial_of (source_of p n) in
    All-append (λ (d : Dated Move). P d.0) (words_for i v) (words_from p (suc i) ns) (first_at P h i v (same v X)) (all_first P h p ns (suc i))

-- what is told of a word
word_told : (p : Portion) (is : IsPortion p) (i n : ℕ) (v : Logic) (rest : List (Dated Move)) → i < length p.nets → n ≡ get_or p.nets i 0
    → flat_map (told_of Plus p) (words_for i v ++ rest) ≡ first_messages n v (readers_of p n) ++ flat_map (told_of Plus p) rest
word_told p is i n v rest l e = go (same v X)
  where
    readers : get_or p.readers i [] ≡ readers_of p n
    readers = sym (of_net-at p.nets p.readers [] i is.ascending l) ∙ ap (readers_of p) (sym e)

    go : (b : Bool) → flat_map (told_of Plus p) (cond b [] (first_word i v ∷ []) ++ rest)
        ≡ cond b [] (map (λ r. record { time = 0; block = r; net = n; value = v; sign = Plus }) (readers_of p n)) ++ flat_map (told_of Plus p) rest
    go true = refl
    go false =
        ap (λ (m : ℕ). sent Plus m (get_or p.readers i []) (record { time = 0; value = v }) ++ flat_map (told_of Plus p) rest) (sym e)
        ∙ ap (λ (rs : List ℕ). sent Plus n rs (record { time = 0; value = v }) ++ flat_map (told_of Plus p) rest) readers

-- net by net
words_told : (p : Portion) → IsPortion p → (ns : List ℕ) (i : ℕ) → i + length ns ≤ length p.nets → ((k : ℕ) → k < length ns → get_or ns k 0 ≡ get_or p.nets (i + k) 0)
    → flat_map (told_of Plus p) (words_from p i ns) ≡ flat_map (λ n. first_messages n (initial_of (source_of p n)) (readers_of p n)) ns
words_told p is [] i l at = refl
words_told p is (n ∷ ns) i l at =
    let zero_more : i + 0 ≡ i = omega arith in
    word_told p is i n (initial_of (source_of p n)) (words_from p (suc i) ns) (omega (arith, l)) (at 0 (omega arith) ∙ ap (λ (j : ℕ). get_or p.nets j 0) zero_more)
    ∙ ap (λ (ms : List Message). first_messages n (initial_of (source_of p n)) (readers_of p n) ++ ms)
    (words_told p is ns (suc i) (omega (arith, l))
    (λ k below. at (suc k) (omega (arith, below)) ∙ ap (λ (j : ℕ). get_or p.nets j 0) (let on : i + suc k ≡ suc i + k = omega arith in on)))

-- ---- a new block

abbrev no_log : ℕ → List Change
no_log n = []

module _ (p : Portion) (stimulus : Given) (horizon : ℕ) (received : IsReceived (silent_view p stimulus horizon)) where
  -- at mark 0 there are the initial contents alone
  first_log : (n : ℕ) → lawful_log (silent_view p stimulus horizon) n ≡ initial_log (initial_of (source_of p n))
  first_log n = go (owns p n) refl
    where
      go : (b : Bool) → owns p n ≡ b →
          cond b (before_time (0 + source_delay (source_of p n)) (changes (value (source_of p) (given (effective_at (silent_view p stimulus horizon))) n) (horizon + 1))) []
          ≡ initial_log (initial_of (source_of p n))
      go false e = ap initial_log (sym (undriven_initial (source_of p n) e))
      go true e = first_changes (source_of p) (given (effective_at (silent_view p stimulus horizon))) n (horizon + 1) (well_formed p received.part n e) (delayed (source_of p n) (timed p received.part n) e) (omega arith)

  first_logs : (nets : List ℕ) → map (lawful_log (silent_view p stimulus horizon)) nets ≡ map (λ n. initial_log (initial_of (source_of p n))) nets
  first_logs [] = refl
  first_logs (n ∷ nets) = let here = first_log n in let rest = first_logs nets in cc

  -- words stand behind no logs
  opening_longer : AreLonger (words_from p 0 p.nets) (silent_view p stimulus horizon).logs (opening_view p stimulus horizon).logs
  opening_longer = record {
    same = length-map p.nets (λ n. initial_log (initial_of (source_of p n))) ∙ sym (length-map p.nets no_log);
    each = λ i l.
        (let many : length (map no_log p.nets) ≡ length p.nets = length-map p.nets no_log in
        let here : i < length p.nets = omega (arith, many, l) in
        get_or-map (λ n. initial_log (initial_of (source_of p n))) p.nets i 0 [] here
        ∙ sym (changes_from p p.nets 0 i i here (omega arith))
        ∙ ap (λ (cs : List Change). cs ++ changes_at i (words_from p 0 p.nets)) (sym (get_or-map no_log p.nets i 0 [] here)));
  }

  module _ (engine : Run) (opening : IsOpeningRun p horizon engine) (times : Played) (none : times ≡ record { first = 0; times = [] }) where
    -- nothing is played
    new_at : IsAt (silent_view p stimulus horizon) engine times
    new_at = subst (λ (played : Played). IsAt (silent_view p stimulus horizon) engine played) (sym none) (record {
      engine = record { received = received; run = opening.runs (given_by (silent_view p stimulus horizon)) };
      low = omega arith;
      within = (let mark = opening.mark in omega (arith, mark));
      times = subst (λ (m : ℕ). AreTimes (was_busy (silent_view p stimulus horizon)) 0 m []) (sym opening.mark) (omega arith, λ t a b. absurd (omega (arith, b)));
      quiet = λ t a b. absurd (omega (arith, b));
      sparse = λ l. absurd (omega (arith, l));
    })

    new_logs : (seen_by (silent_view p stimulus horizon) engine).logs ≡ (opening_view p stimulus horizon).logs
    new_logs = ap (λ (m : ℕ). (played_view (silent_view p stimulus horizon) m).logs) opening.mark ∙ first_logs p.nets

    new_seen : seen_by (silent_view p stimulus horizon) engine ≡ opening_view p stimulus horizon
    new_seen =
        ap (λ (m : ℕ). record (silent_view p stimulus horizon) { mark = max m 0; logs = (played_view (silent_view p stimulus horizon) m).logs }) opening.mark
        ∙ ap (λ (logs : List (List Change)). record (silent_view p stimulus horizon) { logs = logs }) (first_logs p.nets)

    -- what is told is what is logged
    new_sends : (before out : List Message) → out ≡ before ++ opening_messages p
        → SendsOnce (silent_view p stimulus horizon) (seen_by (silent_view p stimulus horizon) engine) Plus (λ t. t ≡ 0) before out
    new_sends before out told =
        let each : flat_map (told_of Plus p) (words_from p 0 p.nets) ≡ opening_messages p
        = words_told p received.part p.nets 0 (omega arith) (λ k l. ap (λ (j : ℕ). get_or p.nets j 0) (let on : k ≡ 0 + k = omega arith in on)) in
        tells_longer (silent_view p stimulus horizon) (seen_by (silent_view p stimulus horizon) engine) (λ t. t ≡ 0) (words_from p 0 p.nets) before out
        (rest_lawful (silent_view p stimulus horizon) engine times new_at) refl
        (subst (λ (logs : List (List Change)). AreLonger (words_from p 0 p.nets) (silent_view p stimulus horizon).logs logs) (sym new_logs) opening_longer)
        (all_first (λ t. t ≡ 0) refl p p.nets 0)
        (all_first (λ t. t ≤ horizon) (omega arith) p p.nets 0)
        (record { ordered = words_from p 0 p.nets; same = IsPermutation-refl (words_from p 0 p.nets); told = told ∙ ap (λ (ms : List Message). before ++ ms) (sym each) })

-- the same of what is heard
module _ (p : Portion) (stimulus : Given) (horizon : ℕ) (v : View) (is : v ≡ silent_view p stimulus horizon) (received : IsReceived v)
    (engine : Run) (opening : IsOpeningRun v.part horizon engine) (times : Played) (none : times ≡ record { first = 0; times = [] }) where
  pub opened_at : IsAt v engine times
  opened_at =
      subst (λ (w : View). IsReceived w → IsOpeningRun w.part horizon engine → IsAt w engine times) (sym is)
      (λ r o. new_at p stimulus horizon r engine o times none) received opening

  pub opened_seen : seen_by v engine ≡ opening_view p stimulus horizon
  opened_seen =
      subst (λ (w : View). IsReceived w → IsOpeningRun w.part horizon engine → seen_by w engine ≡ opening_view p stimulus horizon) (sym is)
      (λ r o. new_seen p stimulus horizon r engine o times none) received opening

  pub opened_sends : (before out : List Message) → out ≡ before ++ opening_messages v.part → SendsOnce (silent_view p stimulus horizon) (seen_by v engine) Plus (λ t. t ≡ 0) before out
  opened_sends before out told =
      subst (λ (w : View). IsReceived w → IsOpeningRun w.part horizon engine → out ≡ before ++ opening_messages w.part
      → SendsOnce (silent_view p stimulus horizon) (seen_by w engine) Plus (λ t. t ≡ 0) before out) (sym is)
      (λ r o. new_sends p stimulus horizon r engine o times none before out) received opening told

-- ---- the lists of a new block

-- the word of a value that is known
first_change : (i : ℕ) (v : Logic) → changes_at i (at 0 (move_of i X v)) ≡ initial_log v
first_change i v = go (same v X)
  where
    go : (b : Bool) → changes_at i (at 0 (cond b [] (record { place = i; before = X; after = v } ∷ []))) ≡ cond b [] (record { time = 0; value = v } ∷ [])
    go true = refl
    go false = rw (eq-eqb i i refl) refl

module _ (p : Portion) (portion : IsPortion p) (words : List Move) (first : AreFirstMoves p 0 words) where
  content_at : (i : ℕ) → i < length p.nets → value_at (map initial_of p.sources) i ≡ initial_of (source_of p (get_or p.nets i 0))
  content_at i l = (let many = portion.sources in get_or-map initial_of p.sources i Outside X (omega (arith, l, many))) ∙ ap initial_of (sym (source_at p portion i l))

  -- all are of places that are there
  pub first_within : All (λ (w : Move). w.place < length p.nets) words
  first_within =
      All-from_recursion (λ (w : Move). w.place < length p.nets) words
      (every-within (λ (w : Move). w.place) (length p.nets) words
      (λ place far. first place
      ∙ ap (move_of place X) (get_or_past (map initial_of p.sources) place X (let many = portion.sources in let same_many = length-map p.sources initial_of in omega (arith, far, many, same_many)))
      ∙ move_of-same place X))

  pub first_lists : (lists : List (List Change)) → AreLonger (at 0 words) (replicate {A = List Change} (length p.nets) []) lists → lists ≡ map (λ n. initial_log (initial_of (source_of p n))) p.nets
  first_lists lists longer =
      let empty : length (replicate {A = List Change} (length p.nets) []) ≡ length p.nets = length-replicate (length p.nets) [] in
      let logs : List (List Change) = map (λ n. initial_log (initial_of (source_of p n))) p.nets in
      let many : length logs ≡ length p.nets = length-map p.nets (λ n. initial_log (initial_of (source_of p n))) in
      same_lists lists logs (longer.same ∙ empty ∙ sym many)
      (λ i d l. let here : i < length p.nets = (let e = longer.same in omega (arith, l, e, empty)) in
      get_or_default lists i d [] l
      ∙ longer.each i (omega (arith, here, empty))
      ∙ ap (λ (cs : List Change). cs ++ changes_at i (at 0 words)) (get_or-replicate {A = List Change} (length p.nets) i [] [] here)
      ∙ first_place i words (map initial_of p.sources) first
      ∙ ap (λ (v : Logic). changes_at i (at 0 (move_of i X v))) (content_at i here)
      ∙ first_change i (initial_of (source_of p (get_or p.nets i 0)))
      ∙ sym (get_or_default logs i d [] (omega (arith, here, many)) ∙ get_or-map (λ n. initial_log (initial_of (source_of p n))) p.nets i 0 [] here))
