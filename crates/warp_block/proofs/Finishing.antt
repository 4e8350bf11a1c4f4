-- What a turn that is told has made of a block.
use Rattle.std.proofs.Common.{◌≡◌, ℕ, zero, suc, Bool, true, false, cond, max, ◌+◌, ◌-◌, ◌<◌, ◌≤◌, ◌⊎◌, ◌++◌, ◌==◌, nat_lt, Some, List, [], ◌∷◌, map, length, get_or, inl, inr, refl, ap, sym, ◌∙◌, subst, arith, All}
use Rattle.std.specs.List.{filter}
use Rattle.std.proofs.lemmas.Bool.{cases_lt, cases_Bool, true≢false, cond-true}
use Rattle.std.proofs.lemmas.List.{get_or-map, length-append, length-map}
use Rattle.std.proofs.lemmas.List.Elements.{filter-append}
use Rattle.std.proofs.lemmas.Grind.{common_steps}
use Rattle.gate_values.specs.declared.logic.Logic.TheVariants.{X}
use Rattle.gate_values.specs.declared.logic.Change.{Change}
use Rattle.gate_values.specs.Behaviour.{Source, Outside, Gate, Flop, source_delay}
use Rattle.gate_values.specs.Changes.{changes, before_time}
use Rattle.event_times.specs.Marks.{Played}
use Rattle.warp_stores.specs.Words.{Move}
use Rattle.warp_stores.specs.Dated.{Dated}
use Rattle.warp_stores.specs.Lists.{AreLonger, changes_at}
use Rattle.warp_engine.specs.Runs.{Run, AreLater, AreMadeBy, makings}
use Rattle.warp_engine.proofs.Making.{makings_later, makings_made}
use Rattle.warp_part.specs.Portion.{source_of, owns, is_driven}
use Rattle.warp_part.specs.Placing.{place_source}
use Rattle.warp_process.specs.Heard.{IsReceived}
use Rattle.warp_process.specs.View.{View, is_busy, busy_times, block_value, IsLeast, IsEventTime}
use Rattle.warp_process.specs.Lawful.{lawful_log}
use Rattle.warp_process.specs.Advance.{IsAdvanced, IsAfterEvent}
use Rattle.warp_process.specs.Played.{played_view, was_busy}
use Rattle.warp_process.specs.Inner.Advance.{IsQuiet}
use Rattle.warp_process.proofs.Playing.{played_lawful}
use Rattle.warp_process.proofs.Quiet.{quiet_log_to}
use Rattle.warp_process.proofs.Going.{no_times}
use Rattle.warp_part.proofs.Placing.{source_at}
use Rattle.part_engine.proofs.Sources.{delay_placed}
use Rattle.warp_block.proofs.Stepping.{ran}
use Rattle.warp_process.proofs.SavingTimes.{times-split, times-none, times-agree}
use Rattle.part_engine.proofs.RunLogs.{logs_longer, cells_are}
use Rattle.warp_block.specs.Shown.Block.{mark_by, seen_by}
use Rattle.warp_block.specs.Inner.Held.{IsAt, GoesOn}
use Rattle.warp_block.proofs.Resting.{busy_was, quiet_from, least_from, rest_quiet, seen_was, event_up}

-- the first of some times that passes a test, or none does
find_first : (f : ℕ → Bool) (from k : ℕ) → ((u : ℕ) × (from ≤ u) × (u < from + k) × (f u ≡ true) × ((t : ℕ) → from ≤ t → t < u → f t ≡ false)) ⊎ ((t : ℕ) → from ≤ t → t < from + k → f t ≡ false)
find_first f from zero = inr (λ t a b. absurd (omega (arith, a, b)))
find_first f from (suc k) = elim (cases_Bool (f from)) [
  | inl yes_ ↦ inl (from, omega arith, omega arith, yes_, λ t a b. absurd (omega (arith, a, b)))
  | inr not_now ↦ (elim (find_first f (suc from) k) [
    | inl u ↦ (let low = u.1 in let high = u.2 in
        inl (
          u.0,
          omega (arith, low),
          omega (arith, high),
          u.3,
          λ t a b. elim (cases_lt from t) [
            | inl later ↦ u.4 t later b
            | inr first ↦ (let e : t ≡ from = omega (arith, a, first) in ap f e ∙ not_now)
          ],
        ))
    | inr none ↦ inr (λ t a b. elim (cases_lt from t) [
      | inl later ↦ none t later (omega (arith, b))
      | inr first ↦ (let e : t ≡ from = omega (arith, a, first) in ap f e ∙ not_now)
    ])
  ])
]

yes_lt : (x y : ℕ) → x < y → nat_lt x y ≡ true
yes_lt x y h = grind (arith, common_steps)

no_lt : (x y : ℕ) → y ≤ x → nat_lt x y ≡ false
no_lt x y h = grind (arith, common_steps)

-- what stands below an end stands below it
twice_below : (end : ℕ) (cs : List Change) → before_time end (before_time end cs) ≡ before_time end cs
twice_below end [] = refl
twice_below end (c ∷ cs) = go (twice_below end cs) (nat_lt c.time end) refl
  where
    go : before_time end (before_time end cs) ≡ before_time end cs → (b : Bool) → nat_lt c.time end ≡ b → before_time end (cond b (c ∷ before_time end cs) (before_time end cs)) ≡ cond b (c ∷ before_time end cs) (before_time end cs)
    go rest true l = rw l (ap (λ (ds : List Change). c ∷ ds) rest)
    go rest false l = rest

none_behind : (xs ys : List Change) → xs ≡ xs ++ ys → ys ≡ []
none_behind xs [] h = refl
none_behind xs (y ∷ ys) h = absurd (let len : length xs ≡ length xs + length (y ∷ ys) = ap length h ∙ length-append xs (y ∷ ys) in omega (arith, len))

-- of a list that is what stands below an end in a longer one, nothing else of the longer one stands below the end
none_below : (end : ℕ) (old added : List Change) → old ≡ before_time end (old ++ added) → before_time end added ≡ []
none_below end old added e =
    let both : before_time end (old ++ added) ≡ before_time end old ++ before_time end added = filter-append (λ (c : Change). nat_lt c.time end) old added in
    let idle : before_time end old ≡ old = ap (before_time end) e ∙ twice_below end (old ++ added) ∙ sym e in
    let all : old ≡ old ++ before_time end added = e ∙ both ∙ ap (λ (cs : List Change). cs ++ before_time end added) idle in
    none_behind old (before_time end added) all

-- a change that stands below an end isn't left out
some_below : (end : ℕ) (cs : List Change) (k : ℕ) (d : Change) → k < length cs → (get_or cs k d).time < end → before_time end cs ≡ [] → ⊥
some_below end [] k d l below e = absurd (omega (arith, l))
some_below end (c ∷ cs) zero d l below e = absurd (let len : suc (length (before_time end cs)) ≡ 0 = ap length (rw (yes_lt c.time end below) at e) in omega (arith, len))
some_below end (c ∷ cs) (suc k) d l below e = go (λ rest. some_below end cs k d (omega (arith, l)) below rest) (nat_lt c.time end) e
  where
    go : (before_time end cs ≡ [] → ⊥) → (b : Bool) → cond b (c ∷ before_time end cs) (before_time end cs) ≡ [] → ⊥
    go rest true f = absurd (let len : suc (length (before_time end cs)) ≡ 0 = ap length f in omega (arith, len))
    go rest false f = rest f

-- a change of the time of a word, in its place
abbrev pub Says : List (Dated Move) → ℕ → ℕ → Change → Type 0
Says words place time c = (j : ℕ) × (j < length (changes_at place words)) × ((get_or (changes_at place words) j c).time ≡ time)

same_place : (a b : ℕ) → a ≡ b → (a == b) ≡ true
same_place a b h = grind (arith, common_steps)

says_at : (ws : List (Dated Move)) (k : ℕ) (d : Dated Move) (c : Change) → k < length ws → (place : ℕ) → (get_or ws k d).1.place ≡ place → Says ws place (get_or ws k d).0 c
says_at [] k d c l place e = absurd (omega (arith, l))
says_at (w ∷ ws) zero d c l place e = rw (same_place w.1.place place e) (0, omega arith, refl)
says_at (w ∷ ws) (suc k) d c l place e = go (says_at ws k d c (omega (arith, l)) place e) (w.1.place == place)
  where
    go : Says ws place (get_or ws k d).0 c → (b : Bool) →
        (j : ℕ) × (j < length {A = Change} (map (λ (v : Dated Move). record { time = v.0; value = v.1.after }) (cond b (w ∷ filter (λ v. v.1.place == place) ws) (filter (λ v. v.1.place == place) ws))))
        × ((get_or {A = Change} (map (λ (v : Dated Move). record { time = v.0; value = v.1.after }) (cond b (w ∷ filter (λ v. v.1.place == place) ws) (filter (λ v. v.1.place == place) ws))) j c).time ≡ (get_or ws k d).0)
    go rest true = (suc rest.0, (let l = rest.1 in omega (arith, l)), rest.2)
    go rest false = rest

-- a word of a place says a change of it
says_change : (words : List (Dated Move)) (k : ℕ) (d : Dated Move) → k < length words → (c : Change) → Says words (get_or words k d).1.place (get_or words k d).0 c
says_change words k d l c = says_at words k d c l (get_or words k d).1.place refl

before_inner : (a b : ℕ) (cs : List Change) → a ≤ b → before_time a (before_time b cs) ≡ before_time a cs
before_inner a b [] l = refl
before_inner a b (c ∷ cs) l = elim (cases_lt c.time b) [
  | inl low ↦ rw (yes_lt c.time b low) (ap (λ (ds : List Change). cond (nat_lt c.time a) (c ∷ ds) ds) (before_inner a b cs l))
  | inr high ↦ rw (no_lt c.time b high, no_lt c.time a (omega (arith, high, l))) (before_inner a b cs l)
]

-- a turn: an engine has played on
module _ (v : View) (start : Run) (begun : Played) (was : IsAt v start begun) (run : Run) (played : Played) (at : IsAt v run played) (on : GoesOn start run begun played) where
  abbrev words : List (Dated Move)
  words = makings start.book.mark run

  received : IsReceived v
  received = at.engine.received

  later : AreLater start.book.mark run (makings start.book.mark run)
  later = makings_later run start.book.mark (ran v run played at)

  made : AreMadeBy (place_source v.part) start.book.mark run (makings start.book.mark run)
  made = makings_made run start.book.mark (ran v run played at)

  abbrev log : ℕ → ℕ → List Change
  log i k = lawful_log (record v { mark = k }) (get_or v.part.nets i 0)

  log_is : (m i : ℕ) → i < length v.part.nets → get_or (played_view v m).logs i [] ≡ log i m
  log_is m i l = get_or-map (lawful_log (record v { mark = m })) v.part.nets i 0 [] l

  many : (m : ℕ) → length (played_view v m).logs ≡ length v.part.nets
  many m = length-map v.part.nets (lawful_log (record v { mark = m }))

  -- what is made stands behind the logs
  pub turn_longer : AreLonger (makings start.book.mark run) (seen_by v start).logs (seen_by v run).logs
  turn_longer =
      logs_longer v run played.first at.engine start.book.mark
      (let first = on.first in let low = was.engine.run.is.low in omega (arith, first, low)) on.on

  -- where nothing happens up to a step, it makes nothing
  module _ (k : ℕ) (d : Dated Move) (l : k < length (makings start.book.mark run)) where
    abbrev word : Dated Move
    word = get_or (makings start.book.mark run) k d

    abbrev i : ℕ
    i = (get_or (makings start.book.mark run) k d).1.place

    abbrev n : ℕ
    n = get_or v.part.nets (get_or (makings start.book.mark run) k d).1.place 0

    abbrev delay : ℕ
    delay = source_delay (source_of v.part (get_or v.part.nets (get_or (makings start.book.mark run) k d).1.place 0))

    there : i < length v.part.nets
    there = (let h = (later k d l).0 in let e = cells_are v played.first run at.engine in omega (arith, h, e))

    same_delay : source_delay (place_source v.part i) ≡ source_delay (source_of v.part n)
    same_delay = delay_placed v.part.nets (get_or v.part.sources i Outside) ∙ ap source_delay (sym (source_at v.part received.part i there))

    driven : owns v.part n ≡ true
    driven = go (source_of v.part n) (let h = (made k d l).0 in omega (arith, h, same_delay))
      where
        go : (s : Source) → 0 < source_delay s → is_driven s ≡ true
        go Outside h = absurd (omega (arith, h))
        go (Gate kind delay inputs) h = refl
        go (Flop delay d clock initial) h = refl

    abbrev step : ℕ
    step = (get_or (makings start.book.mark run) k d).0 - source_delay (source_of v.part (get_or v.part.nets (get_or (makings start.book.mark run) k d).1.place 0))

    low : start.book.mark ≤ step
    low = (let h = (made k d l).1 in omega (arith, h, same_delay))

    high : step < run.book.mark
    high = (let h = (made k d l).2 in let g = (made k d l).1 in omega (arith, h, g, same_delay))

    time_is : word.0 ≡ step + delay
    time_is = (let h = (made k d l).1 in omega (arith, h, same_delay))

    within : word.0 ≤ v.horizon
    within = (let h = (later k d l).2 in let e = at.engine.run.horizon in omega (arith, h, e))

    some_delay : 0 < delay
    some_delay = (let h = (made k d l).0 in omega (arith, h, same_delay))

    abbrev all : List Change
    all = changes (block_value v n) (v.horizon + 1)

    log_at : (m : ℕ) → log i m ≡ before_time (m + delay) all
    log_at m = cond-true (owns v.part n) (before_time (m + delay) all) [] driven

    -- where nothing happens up to the step, it makes nothing
    not_quiet : ((t : ℕ) → start.book.mark ≤ t → t < suc step → was_busy v t ≡ false) → ⊥
    not_quiet none =
        let quiet : IsQuiet (played_view v start.book.mark) (suc step) = λ t a b busy. true≢false (sym busy ∙ quiet_from v received start.book.mark (suc step) none t a b) in
        let same : log i (suc step) ≡ log i start.book.mark =
        quiet_log_to (played_view v start.book.mark) (played_lawful v start.book.mark received) (suc step) n (omega (arith, low)) (omega (arith, time_is, within)) quiet in
        let added : List Change = changes_at i (makings start.book.mark run) in
        let old : List Change = get_or (played_view v start.book.mark).logs i [] in
        let new : List Change = get_or (played_view v run.book.mark).logs i [] in
        let whole : new ≡ old ++ changes_at i (makings start.book.mark run) = turn_longer.each i (let long = many start.book.mark in omega (arith, there, long)) in
        let below : before_time (suc step + delay) new ≡ old =
        ap (before_time (suc step + delay)) (log_is run.book.mark i there ∙ log_at run.book.mark) ∙ before_inner (suc step + delay) (run.book.mark + delay) all (omega (arith, high))
        ∙ sym (log_at (suc step)) ∙ same ∙ sym (log_is start.book.mark i there) in
        let none_added : before_time (suc step + delay) (changes_at i (makings start.book.mark run)) ≡ [] =
        none_below (suc step + delay) old (changes_at i (makings start.book.mark run)) (sym below ∙ ap (before_time (suc step + delay)) whole) in
        let c : Change = record { time = 0; value = X } in
        let said = says_change (makings start.book.mark run) k d l c in
        some_below (suc step + delay) (changes_at i (makings start.book.mark run)) said.0 c said.1 (let e = said.2 in omega (arith, e, time_is)) none_added

    after_event : IsAfterEvent (seen_by v start) word.0
    after_event = elim (find_first (was_busy v) start.book.mark (suc step - start.book.mark)) [
      | inl u ↦ (let from = u.1 in let until = u.2 in
          let least : IsLeast (IsEventTime (played_view v start.book.mark)) (Some u.0) = least_from v received start.book.mark u.0 from (omega (arith, until, time_is, within, low)) u.4 u.3 in
          (u.0, event_up v start begun was u.0 least.0, omega (arith, until, time_is, some_delay, low)))
      | inr none ↦ absurd (not_quiet (λ t a b. none t a (omega (arith, b, low))))
    ]

  -- each word comes true after an event time
  pub words_later : All (λ (d : Dated Move). IsAfterEvent (seen_by v start) d.0) (makings start.book.mark run)
  words_later k d l = after_event k d l

  pub words_until : All (λ (d : Dated Move). d.0 ≤ v.horizon) (makings start.book.mark run)
  words_until k d l = within k d l

  -- so many event times are finished
  module _ (count : ℕ) (advanced : IsAdvanced (played_view v start.book.mark) (played_view v run.book.mark) count) where
    same_mark : count ≡ 0 → run.book.mark ≡ start.book.mark
    same_mark none = advanced.stays none

    busy_new : (t : ℕ) → t < run.book.mark → is_busy (played_view v run.book.mark) t ≡ is_busy (seen_by v run) t
    busy_new t l =
        busy_was v (played_view v run.book.mark) received (played_lawful v run.book.mark received) refl refl refl t (omega (arith, l))
        ∙ sym (seen_was v run played at t (omega (arith, l)))

    -- the last is past the floor
    past_floor : 0 < count → v.floor < run.book.mark
    past_floor some =
        let on = advanced.moves some in
        let up = on.0 in
        let last : was_busy v (run.book.mark - 1) ≡ true =
        sym (busy_was v (played_view v run.book.mark) received (played_lawful v run.book.mark received) refl refl refl (run.book.mark - 1) (omega (arith, up))) ∙ on.2 in
        elim (cases_lt v.floor run.book.mark) [
          | inl below ↦ below
          | inr above ↦ absurd (true≢false (sym last ∙ rest_quiet v start begun was (run.book.mark - 1) (omega (arith, up)) (omega (arith, above, up))))
        ]

    counted : 0 < count → count ≡ busy_times (seen_by v run) (mark_by v start) (mark_by v run)
    counted some =
        let up = (advanced.moves some).0 in
        let past : v.floor < run.book.mark = past_floor some in
        let top : mark_by v run ≡ run.book.mark = omega (arith, past) in
        let first : mark_by v start ≤ run.book.mark = omega (arith, up, past) in
        let split : busy_times (seen_by v run) start.book.mark run.book.mark ≡ busy_times (seen_by v run) start.book.mark (mark_by v start) + busy_times (seen_by v run) (mark_by v start) run.book.mark =
        times-split (is_busy (seen_by v run)) start.book.mark (mark_by v start) run.book.mark (omega arith) first in
        let none : busy_times (seen_by v run) start.book.mark (mark_by v start) ≡ 0 =
        times-none (is_busy (seen_by v run)) start.book.mark (mark_by v start)
        (λ t a b busy. true≢false (sym busy ∙ seen_was v run played at t (omega (arith, b, first, top)) ∙ rest_quiet v start begun was t a (omega (arith, a, b)))) in
        let same : busy_times (played_view v run.book.mark) start.book.mark run.book.mark ≡ busy_times (seen_by v run) start.book.mark run.book.mark =
        times-agree (is_busy (played_view v run.book.mark)) (is_busy (seen_by v run)) start.book.mark run.book.mark (λ t a b. busy_new t (omega (arith, b))) in
        let all : count ≡ busy_times (played_view v run.book.mark) start.book.mark run.book.mark = advanced.finished in
        subst (λ k. count ≡ busy_times (seen_by v run) (mark_by v start) k) (sym top) (omega (arith, all, same, split, none))

    none_counted : count ≡ 0 → count ≡ busy_times (seen_by v run) (mark_by v start) (mark_by v run)
    none_counted none =
        let same : mark_by v run ≡ mark_by v start = ap (λ m. max m v.floor) (same_mark none) in
        subst (λ k. count ≡ busy_times (seen_by v run) (mark_by v start) k) (sym same) (none ∙ sym (no_times (seen_by v run) (mark_by v start)))

    pub turn_advanced : IsAdvanced (seen_by v start) (seen_by v run) count
    turn_advanced = record {
      part = refl;
      horizon = refl;
      floor = refl;
      queues = refl;
      finished = elim (cases_lt 0 count) [ inl some ↦ counted some | inr none ↦ none_counted (omega (arith, none)) ];
      stays = λ none. ap (λ m. max m v.floor) (same_mark none);
      moves = λ some.
          (let on = advanced.moves some in
          let up = on.0 in
          let until = on.1 in
          let past : v.floor < run.book.mark = past_floor some in
          let top : mark_by v run ≡ run.book.mark = omega (arith, past) in (
            omega (arith, up, past, top),
            omega (arith, until, top),
            ap (λ k. is_busy (seen_by v run) (k - 1)) top ∙ sym (busy_new (run.book.mark - 1) (omega (arith, up))) ∙ on.2,
          ));
    }
