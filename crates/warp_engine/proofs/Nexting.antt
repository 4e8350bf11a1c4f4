-- When a place that gates read moves next.
use Rattle.std.proofs.Common.{◌≡◌, ◌≢◌, ◌∙◌, ℕ, suc, ◌+◌, ◌-◌, ◌<◌, ◌≤◌, ◌⊎◌, ◌==◌, min, inl, inr, Bool, true, false, cond, List, [], ◌∷◌, ◌++◌, map, length, refl, ap, sym, subst, arith, nat_le}
use Rattle.std.specs.List.{filter, AllByRecursion}
use Rattle.std.proofs.lemmas.Bool.{cases_lt, eq-eqb, ne_eqb, eqb-true, cond-true, cond-false}
use Rattle.std.proofs.lemmas.List.{get_or_append_left}
use Rattle.std.proofs.lemmas.List.Elements.{filter-append}
use Rattle.gate_values.specs.declared.logic.Logic.{Logic}
use Rattle.gate_values.specs.Tables.{table_of, flip_of}
use Rattle.gate_values.specs.Behaviour.{Source, source_delay}
use Rattle.gate_values.proofs.Induction.{strong}
use Rattle.warp_stores.specs.declared.least.TheConstants.{NEVER}
use Rattle.warp_stores.specs.Words.{Move}
use Rattle.warp_stores.specs.Dated.{Dated, at}
use Rattle.warp_stores.specs.Least.{least_of}
use Rattle.warp_stores.specs.Delays.{Delayed, queue_at, empty_after, due_of, least_due, true_since}
use Rattle.warp_stores.proofs.Telling.{le_true}
use Rattle.warp_gates.specs.Cells.{Cell, Outside, Gate, Flop, cell_at}
use Rattle.place_moves.specs.Moves.{move_of, moves, of_place, value_before, made_before}
use Rattle.place_moves.specs.Journals.{IsPlayed, IsSetBy, IsReadTo, queue_of}
use Rattle.place_moves.proofs.Filtering.{filter-absorb, filter-comm, filter-none, every-filter, every-weaker, through}
use Rattle.place_moves.proofs.Moving.{move_of-none, move_of-same, moves-one, moves-none}
use Rattle.place_moves.proofs.Queueing.{none_due}
use Rattle.place_moves.proofs.Due.{ahead_of}
use Rattle.place_moves.proofs.Coming.{value-later, value-first}
use Rattle.place_moves.proofs.Sourcing.{driven_or_not, made-outside, made-gate, made-flop_next, flip-still}
use Rattle.warp_journal.specs.Books.{Book, journal_of, all_of}
use Rattle.warp_engine.specs.Nexts.{IsIn, IsPin, IsUsed, AreParted, IsStill, IsLeftAlone}

at_none : (t : ℕ) (ws : List Move) → at t ws ≡ [] → ws ≡ []
at_none t [] e = refl
at_none t (w ∷ ws) e = cc

map_in : (f g : ℕ → Logic) (is : List ℕ) → ((i : ℕ) → IsIn i is → f i ≡ g i) → map f is ≡ map g is
map_in f g [] h = refl
map_in f g (i ∷ is) h =
    let head : f i ≡ g i = h i (inl refl) in
    let rest : map f is ≡ map g is = map_in f g is (λ j m. h j (inr m)) in
    cc

module _ (source : ℕ → Source) (given : ℕ → ℕ → Logic) where
  -- where what it reads is still, what a place makes is
  made_still : (place t : ℕ) (cell : Cell) → IsSetBy cell (source place) → ((i : ℕ) → IsPin i cell → IsStill source given i t) → made_before source given place (suc t) ≡ made_before source given place t
  made_still place t Outside set h = made-outside source given place (suc t) set ∙ sym (made-outside source given place t set)
  made_still place t (Gate kind inputs) set h =
      made-gate source given place (suc t) set.0 kind inputs set.2
      ∙ ap (table_of kind) (map_in (λ (i : ℕ). value_before source given i (suc t)) (λ (i : ℕ). value_before source given i t) inputs h)
      ∙ sym (made-gate source given place t set.0 kind inputs set.2)
  made_still place t (Flop d clock) set h =
      made-flop_next source given place t set.0 d clock set.1 set.3
      ∙ ap (λ (v : Logic). flip_of (made_before source given place t) (value_before source given clock t) v (value_before source given d t)) (h clock (inr refl))
      ∙ flip-still (made_before source given place t) (value_before source given clock t) (value_before source given d t)

  later_is : (place u : ℕ) → 0 < source_delay (source place) → value_before source given place (suc (u + source_delay (source place))) ≡ made_before source given place (suc u)
  later_is place u driven =
      let e : suc (u + source_delay (source place)) ≡ suc u + source_delay (source place) = omega arith in
      ap (value_before source given place) e ∙ value-later source given place (suc u) driven

  -- a place moves where what it makes moved a delay before
  still_by : (place u : ℕ) → 0 < source_delay (source place) → made_before source given place (suc u) ≡ made_before source given place u → IsStill source given place (u + source_delay (source place))
  still_by place u driven h = later_is place u driven ∙ h ∙ sym (value-later source given place u driven)

  made_by : (place u : ℕ) → 0 < source_delay (source place) → IsStill source given place (u + source_delay (source place)) → made_before source given place (suc u) ≡ made_before source given place u
  made_by place u driven h = sym (later_is place u driven) ∙ h ∙ value-later source given place u driven

-- the queues that stand first are among all
first_queue : (first others : List Delayed) (number : ℕ) → number < length first → queue_at (first ++ others) number ≡ queue_at first number
first_queue first others number l = get_or_append_left first others (empty_after 0) number l

module _ (source : ℕ → Source) (given : ℕ → ℕ → Logic) (floor : ℕ) (book : Book) (played : IsPlayed source given floor (journal_of book)) where
  abbrev queue : ℕ → Delayed
  queue number = queue_at (all_of book.queues) number

  abbrev just : ℕ → Dated Move → Bool
  just u d = d.0 == u

  -- what is ahead of a queue of a place's step
  step_words : (place number u : ℕ) → filter (just u) (of_place place (queue number).line.ahead)
      ≡ cond (number == queue_of book.gates place) (filter (just u) (true_since (queue number).delay book.mark (moves place (made_before source given place) book.mark))) []
  step_words place number u =
      ap (filter (just u)) (ahead_of source given floor (journal_of book) played number place)
      ∙ through (filter (just u)) (number == queue_of book.gates place) (true_since (queue number).delay book.mark (moves place (made_before source given place) book.mark)) []

  late_words : (place delay u : ℕ) → book.mark ≤ u + delay → filter (just u) (true_since delay book.mark (moves place (made_before source given place) book.mark)) ≡ filter (just u) (moves place (made_before source given place) book.mark)
  late_words place delay u l =
      filter-absorb (just u) (λ (d : Dated Move). nat_le book.mark (d.0 + delay)) (moves place (made_before source given place) book.mark)
      (λ d e. let is : d.0 ≡ u = eqb-true d.0 u e in le_true book.mark (d.0 + delay) (omega arith))

  one_step : (place u : ℕ) → u < book.mark → filter (just u) (moves place (made_before source given place) book.mark) ≡ at u (move_of place (made_before source given place u) (made_before source given place (suc u)))
  one_step place u l = moves-one place (made_before source given place) (λ s. s == u) u book.mark l (λ s n. ne_eqb s u n) (eq-eqb u u refl)

  -- where nothing is ahead of its queue at a step, a place made nothing then
  made_none : (place u : ℕ) → 0 < source_delay (source place) → u < book.mark → book.mark ≤ u + source_delay (source place)
      → AllByRecursion (λ (d : Dated Move). u + source_delay (source place) < d.0 + (queue (queue_of book.gates place)).delay) (queue (queue_of book.gates place)).line.ahead
      → made_before source given place (suc u) ≡ made_before source given place u
  made_none place u driven l late none =
      let k : ℕ = queue_of book.gates place in
      let delay : (queue k).delay ≡ source_delay (source place) = played.gates.delays place driven in
      let nothing : filter (just u) (of_place place (queue k).line.ahead) ≡ [] =
      filter-none (just u) (of_place place (queue k).line.ahead)
      (every-filter (λ (d : Dated Move). d.1.place == place) (λ (d : Dated Move). just u d ≡ false) (queue k).line.ahead
      (every-weaker (λ (d : Dated Move). u + source_delay (source place) < d.0 + (queue k).delay) (λ (d : Dated Move). just u d ≡ false) (queue k).line.ahead (λ d h. ne_eqb d.0 u (λ e. omega arith)) none)) in
      let words : filter (just u) (of_place place (queue k).line.ahead) ≡ at u (move_of place (made_before source given place u) (made_before source given place (suc u))) =
      step_words place k u
      ∙ cond-true (k == k) (filter (just u) (true_since (queue k).delay book.mark (moves place (made_before source given place) book.mark))) [] (eq-eqb k k refl)
      ∙ late_words place (queue k).delay u (omega arith) ∙ one_step place u l in
      move_of-none place (made_before source given place u) (made_before source given place (suc u))
      (at_none u (move_of place (made_before source given place u) (made_before source given place (suc u))) (sym words ∙ nothing))

  -- ---- nothing moves before something comes true

  module _ (parted : AreParted source book) (time : ℕ) (alone : IsLeftAlone source given book.gates.cells book.mark time) (due : time ≤ least_due book.queues.read) where
    abbrev Claim : ℕ → Type 0
    Claim t = (place : ℕ) → IsUsed book.gates.cells place → book.mark ≤ t → t < time → IsStill source given place t

    -- a place that gates read has nothing ahead that comes true before
    ahead_late : (place : ℕ) → IsUsed book.gates.cells place → 0 < source_delay (source place)
        → AllByRecursion (λ (d : Dated Move). time ≤ d.0 + (queue (queue_of book.gates place)).delay) (queue (queue_of book.gates place)).line.ahead
    ahead_late place used driven =
        let k : ℕ = queue_of book.gates place in
        let is : queue k ≡ queue_at book.queues.read k = first_queue book.queues.read book.queues.unread k (parted.used place used driven) in
        subst (λ (q : Delayed). AllByRecursion (λ (d : Dated Move). time ≤ d.0 + q.delay) q.line.ahead) (sym is) (none_due time book.queues.read due k)

    driven_still : (t place : ℕ) → ((u : ℕ) → u < t → Claim u) → IsUsed book.gates.cells place → 0 < source_delay (source place) → book.mark ≤ t → t < time → IsStill source given place t
    driven_still t place before used driven low high =
        let delay : ℕ = source_delay (source place) in
        elim (cases_lt t delay) [
          | inl early ↦ elim (zero_or t) [
            | inl none ↦ subst (IsStill source given place) (sym none) (alone.beginning place used (omega arith) (omega arith))
            | inr some ↦ value-first source given place (suc t) (omega arith) (omega arith) ∙ sym (value-first source given place t some (omega arith))
          ]
          | inr late ↦
              let u : ℕ = t - delay in
              let is : (t - delay) + delay ≡ t = omega arith in
              subst (IsStill source given place) is (still_by source given place (t - delay) driven (elim (cases_lt (t - delay) book.mark) [
                | inl past ↦
                    made_none place (t - delay) driven past (omega arith)
                    (every-weaker (λ (d : Dated Move). time ≤ d.0 + (queue (queue_of book.gates place)).delay) (λ (d : Dated Move). (t - delay) + delay < d.0 + (queue (queue_of book.gates place)).delay)
                    (queue (queue_of book.gates place)).line.ahead (λ d h. omega arith) (ahead_late place used driven))
                | inr ahead ↦
                    made_still source given place (t - delay) (cell_at book.gates.cells place) (played.gates.sources place)
                    (λ i pin. before (t - delay) (omega arith) i (place, pin) ahead (omega arith))
              ]))
        ]
      where
        zero_or : (n : ℕ) → (n ≡ 0) ⊎ (0 < n)
        zero_or n = grind arith

    claim_step : (t : ℕ) → ((u : ℕ) → u < t → Claim u) → Claim t
    claim_step t before place used low high = elim (driven_or_not (cell_at book.gates.cells place) (source place) (played.gates.sources place)) [
      | inl out ↦ alone.outside place t used out low high
      | inr driven ↦ driven_still t place before used driven low high
    ]

    pub still_until : (place t : ℕ) → IsUsed book.gates.cells place → book.mark ≤ t → t < time → IsStill source given place t
    still_until place t used low high = strong Claim claim_step t place used low high

  -- ---- something moves when it comes true

  -- a word that comes true at the least time
  record IsLeast (queues : List Delayed) : Type 0 where
    number : ℕ
    within : number < length queues
    word : Dated Move
    front : List (Dated Move)
    behind : List (Dated Move)
    is : (queue_at queues number).line.ahead ≡ front ++ word ∷ behind
    due : word.0 + (queue_at queues number).delay ≡ least_due queues

  record IsFirst (delay : ℕ) (words : List (Dated Move)) : Type 0 where
    word : Dated Move
    front : List (Dated Move)
    behind : List (Dated Move)
    is : words ≡ front ++ word ∷ behind
    due : word.0 + delay ≡ least_of (map (λ (d : Dated Move). d.0 + delay) words)

  min_cases : (a b : ℕ) → (min a b ≡ a) ⊎ ((min a b ≡ b) × (b < a))
  min_cases a b = elim (cases_lt b a) [ inl l ↦ inr (omega arith, l) | inr g ↦ inl (omega arith) ]

  first_of : (delay : ℕ) (words : List (Dated Move)) → least_of (map (λ (d : Dated Move). d.0 + delay) words) < NEVER → IsFirst delay words
  first_of delay [] l = absurd (omega arith)
  first_of delay (d ∷ ds) l = elim (min_cases (d.0 + delay) (least_of (map (λ (e : Dated Move). e.0 + delay) ds))) [
    | inl here ↦ record { word = d; front = []; behind = ds; is = refl; due = sym here }
    | inr there ↦
        let rest : IsFirst delay ds = first_of delay ds (omega (arith, there.0)) in
        record { word = rest.word; front = d ∷ rest.front; behind = rest.behind; is = ap (λ (es : List (Dated Move)). d ∷ es) rest.is; due = rest.due ∙ sym there.0 }
  ]

  least_in : (queues : List Delayed) → least_due queues < NEVER → IsLeast queues
  least_in [] l = absurd (omega arith)
  least_in (q ∷ qs) l = elim (min_cases (due_of q) (least_due qs)) [
    | inl here ↦
        let first : IsFirst q.delay q.line.ahead = first_of q.delay q.line.ahead (omega (arith, here)) in
        record { number = 0; within = omega arith; word = first.word; front = first.front; behind = first.behind; is = first.is; due = first.due ∙ sym here }
    | inr there ↦
        let rest : IsLeast qs = least_in qs (omega (arith, there.0)) in
        record { number = suc rest.number; within = (let w : rest.number < length qs = rest.within in omega arith); word = rest.word; front = rest.front; behind = rest.behind; is = rest.is; due = rest.due ∙ sym there.0 }
  ]

  -- a word that stands in a list stays in it where it passes
  passes : (p : Dated Move → Bool) (front behind : List (Dated Move)) (d : Dated Move) → p d ≡ true → filter p (front ++ d ∷ behind) ≡ [] → ⊥
  passes p [] behind d pass e = absurd (kept (p d) pass e)
    where
      kept : (b : Bool) → b ≡ true → cond b (d ∷ filter p behind) (filter p behind) ≡ [] → ⊥
      kept true pass e = cc
      kept false pass e = cc
  passes p (f ∷ front) behind d pass e = passes p front behind d pass (rest (p f) e)
    where
      rest : (b : Bool) → cond b (f ∷ filter p (front ++ d ∷ behind)) (filter p (front ++ d ∷ behind)) ≡ [] → filter p (front ++ d ∷ behind) ≡ []
      rest true e = cc
      rest false e = e

  kept_in : (p : Dated Move → Bool) (front behind : List (Dated Move)) (d : Dated Move) → p d ≡ true → filter p (front ++ d ∷ behind) ≡ filter p front ++ d ∷ filter p behind
  kept_in p front behind d pass = filter-append p front (d ∷ behind) ∙ ap (λ (es : List (Dated Move)). filter p front ++ es) (cond-true (p d) (d ∷ filter p behind) (filter p behind) pass)

  -- a word that stands ahead of a queue tells a move of its place
  stays : (place number u : ℕ) (front behind : List (Dated Move)) (d : Dated Move) → d.0 ≡ u → d.1.place ≡ place → (queue number).line.ahead ≡ front ++ d ∷ behind → filter (just u) (of_place place (queue number).line.ahead) ≡ [] → ⊥
  stays place number u front behind d at_u at_place is none =
      let P : Dated Move → Bool = λ e. e.1.place == place in
      let left : of_place place (queue number).line.ahead ≡ filter P front ++ d ∷ filter P behind = ap (filter P) is ∙ kept_in P front behind d (eq-eqb d.1.place place at_place) in
      passes (just u) (filter P front) (filter P behind) d (eq-eqb d.0 u at_u) (sym (ap (filter (just u)) left) ∙ none)

  -- where a place makes nothing at a step, no word of that step is ahead
  nothing_made : (place number u : ℕ) → (u < book.mark → made_before source given place (suc u) ≡ made_before source given place u) → filter (just u) (of_place place (queue number).line.ahead) ≡ []
  nothing_made place number u still =
      let all : List (Dated Move) = moves place (made_before source given place) book.mark in
      let F : Dated Move → Bool = λ d. nat_le book.mark (d.0 + (queue number).delay) in
      let none : filter (just u) all ≡ [] = elim (cases_lt u book.mark) [
        | inl l ↦
            one_step place u l ∙ ap (λ (v : Logic). at u (move_of place (made_before source given place u) v)) (still l)
            ∙ ap (at u) (move_of-same place (made_before source given place u))
        | inr g ↦ moves-none place (made_before source given place) (λ s. s == u) book.mark (λ s k. ne_eqb s u (λ e. omega arith))
      ] in
      step_words place number u
      ∙ ap (λ (ws : List (Dated Move)). cond (number == queue_of book.gates place) ws []) (filter-comm (just u) F all ∙ ap (filter F) none)
      ∙ neither (number == queue_of book.gates place)
    where
      neither : (b : Bool) → ◌≡◌ {A = List (Dated Move)} (cond b [] []) []
      neither true = refl
      neither false = refl

  -- what is ahead was made before the mark
  made_soon : (place number u : ℕ) → (filter (just u) (of_place place (queue number).line.ahead) ≡ [] → ⊥) → u < book.mark
  made_soon place number u there = elim (cases_lt u book.mark) [ inl l ↦ l | inr g ↦ absurd (there (nothing_made place number u (λ l. absurd (omega arith)))) ]

  eq_cases : (i j : ℕ) → (i ≡ j) ⊎ (i ≢ j)
  eq_cases i j = grind arith

  pub record NextMove : Type 0 where
    pub place : ℕ
    pub used : IsUsed book.gates.cells place
    pub driven : 0 < source_delay (source place)
    pub soon : least_due book.queues.read < book.mark + source_delay (source place)
    pub moves : IsStill source given place (least_due book.queues.read) → ⊥

  pub next_move : AreParted source book → least_due book.queues.read < NEVER → NextMove
  next_move parted l =
      let least : IsLeast book.queues.read = least_in book.queues.read l in
      let k : ℕ = least.number in
      let d : Dated Move = least.word in
      let place : ℕ = d.1.place in
      let same : queue k ≡ queue_at book.queues.read k = first_queue book.queues.read book.queues.unread k least.within in
      let is : (queue k).line.ahead ≡ least.front ++ d ∷ least.behind = ap (λ (q : Delayed). q.line.ahead) same ∙ least.is in
      let due : d.0 + (queue k).delay ≡ least_due book.queues.read = ap (λ (q : Delayed). d.0 + q.delay) same ∙ least.due in
      let there : filter (just d.0) (of_place place (queue k).line.ahead) ≡ [] → ⊥ = stays place k d.0 least.front least.behind d refl refl is in
      elim (eq_cases k (queue_of book.gates place)) [
        | inr other ↦
            absurd (there (step_words place k d.0
            ∙ cond-false (k == queue_of book.gates place) (filter (just d.0) (true_since (queue k).delay book.mark (moves place (made_before source given place) book.mark))) [] (ne_eqb k (queue_of book.gates place) other)))
        | inl own ↦ elim (driven_or_not (cell_at book.gates.cells place) (source place) (played.gates.sources place)) [
          | inl out ↦ absurd (there (nothing_made place k d.0 (λ l. made-outside source given place (suc d.0) out ∙ sym (made-outside source given place d.0 out))))
          | inr driven ↦
              let delay : (queue k).delay ≡ source_delay (source place) = ap (λ (n : ℕ). (queue n).delay) own ∙ played.gates.delays place driven in
              let when : d.0 + source_delay (source place) ≡ least_due book.queues.read = ap (λ (n : ℕ). d.0 + n) (sym delay) ∙ due in
              record {
                place = place;
                used = parted.first place driven (subst (λ (n : ℕ). n < length book.queues.read) own least.within);
                driven = driven;
                soon = (let l : d.0 < book.mark = made_soon place k d.0 there in omega (arith, when));
                moves = λ still. there (nothing_made place k d.0 (λ l. made_by source given place d.0 driven (subst (IsStill source given place) (sym when) still)));
              }
        ]
      ]

  -- ---- nothing that is ahead comes true before the mark

  least_from : (m delay : ℕ) (ds : List (Dated Move)) → m ≤ NEVER → AllByRecursion (λ (d : Dated Move). m ≤ d.0 + delay) ds → m ≤ least_of (map (λ (d : Dated Move). d.0 + delay) ds)
  least_from m delay [] l h = l
  least_from m delay (d ∷ ds) l h = omega (arith, h.0, least_from m delay ds l h.1)

  due_from : (m : ℕ) (queues : List Delayed) → m ≤ NEVER → ((number : ℕ) → number < length queues → AllByRecursion (λ (d : Dated Move). m ≤ d.0 + (queue_at queues number).delay) (queue_at queues number).line.ahead) → m ≤ least_due queues
  due_from m [] l h = l
  due_from m (q ∷ qs) l h = omega (arith, least_from m q.delay q.line.ahead l (h 0 (omega arith)), due_from m qs l (λ number w. h (suc number) (omega arith)))

  pub due_ahead : book.mark ≤ NEVER → book.mark ≤ least_due book.queues.read
  due_ahead l =
      due_from book.mark book.queues.read l
      (λ number w. subst (λ (q : Delayed). AllByRecursion (λ (d : Dated Move). book.mark ≤ d.0 + q.delay) q.line.ahead) (first_queue book.queues.read book.queues.unread number w)
      (let r : IsReadTo book.mark (queue number) = played.queues number in r.ahead))
