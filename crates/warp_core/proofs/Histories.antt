-- The changes that blocks' histories tell beside those that are given are the changes of the lists that have their logs.
use Rattle.std.proofs.Common.{◌≡◌, ◌≢◌, ◌∙◌, ℕ, ◌+◌, ◌<◌, inl, inr, Bool, true, false, cond, ◌&&◌, nat_eq, Option, Some, None, IfSome, IfOk, Result, Ok, Err, List, [], ◌∷◌, ◌++◌, length, get_or, refl, ap, sym, subst, arith}
use Rattle.std.proofs.lemmas.Bool.{cases_Bool, cases_lt, cond-true, cond-false, true≢false}
use Rattle.std.specs.List.{All}
use Rattle.std.proofs.lemmas.List.{get_or_past}
use Rattle.std.proofs.lemmas.List.FromFn.{get_or-map-range_with_len, length-map-range_with_len}
use Rattle.gate_values.specs.declared.logic.Change.{Change}
use Rattle.gate_values.specs.declared.logic.Logic.TheVariants.{X}
use Rattle.gate_values.specs.Behaviour.{Outside}
use Rattle.gate_values.specs.Changes.{pair_at, changes}
use Rattle.gate_netlist.specs.Circuit.{Design, nets_of}
use Rattle.gate_netlist.specs.Cut.{Ownership}
use Rattle.gate_stimulus.specs.Given.{Given}
use Rattle.std.specs.declared.alloc.AllocError.{AllocError}
use Rattle.net_waves.specs.declared.timeline.Stop.{Stop}
use Rattle.net_waves.specs.declared.by_time.ByTime.{ByTime}
use Rattle.net_waves.specs.ByTime.{stops_in}
use Rattle.net_waves.specs.Timeline.{one, count}
use Rattle.net_waves.specs.Stops.{marked, AreStopsOf}
use Rattle.net_waves.specs.Inner.Stops.{stops_of}
use Rattle.net_waves.specs.Waves.{wave_of, IsWave}
use Rattle.net_waves.proofs.Compared.{eq_true, eq_false, cases_eq}
use Rattle.net_waves.proofs.Waving.{count-here}
use Rattle.warp_stores.specs.Words.{Move}
use Rattle.warp_stores.specs.Dated.{Dated}
use Rattle.warp_stores.specs.Lists.{changes_at}
use Rattle.history_waves.specs.Histories.{own_stops}
use Rattle.history_waves.specs.Stories.{Telling, AreAll, count_in}
use Rattle.history_waves.proofs.Pending.{count_in-append}
use Rattle.warp_part.specs.Portion.{IsPortion, slot_of, at_slot, is_driven, owns}
use Rattle.warp_part.proofs.Slots.{slot_is, slot_at}
use Rattle.warp_process.specs.View.{View, Process, log_of}
use Rattle.part_engine.specs.Histories.{TellLogs}
use Rattle.warp_core.specs.OwnNets.{AreOwn}
use Rattle.warp_core.specs.Matched.{told_of}
use Rattle.warp_core.specs.Values.{value_under, circuit_waves}
use Rattle.warp_core.specs.Inner.Gather.{after_block, after_blocks, AreApart, IsStory, AreStories, has, AreTelling}
use Rattle.warp_core.proofs.Finished.{log_wave}
use Rattle.warp_core.proofs.GivenLogs.{none_rest}

one_other : (s x : Stop) → s.net ≢ x.net → one s x ≡ 0
one_other s x h = rw (eq_false s.net x.net h) (go (nat_eq s.time x.time))
  where
    go : (b : Bool) → ◌≡◌ {A = ℕ} (cond (b && false) 1 0) 0
    go true = refl
    go false = refl

some_is : {A : Type 0} (a b : A) → Some a ≡ Some b → a ≡ b
some_is a b e = cc

none_some : {A : Type 0} (x : A) → ◌≡◌ {A = Option A} None (Some x) → ⊥
none_some x e = cc

module _ (own : List (Option ℕ)) (s : Stop) where
  -- of a net that stands at no own place nothing is told
  told_none : ((place : ℕ) → get_or own place None ≡ Some s.net → ⊥) → (words : List (Dated Move)) → count s (own_stops own words) ≡ 0
  told_none nowhere [] = refl
  told_none nowhere (d ∷ words) = go (get_or own d.1.place None) refl (told_none nowhere words)
    where
      go : (o : Option ℕ) → get_or own d.1.place None ≡ o → count s (own_stops own words) ≡ 0 → count s (own_stops own (d ∷ words)) ≡ 0
      go None e rest = rw e rest
      go (Some m) e rest =
          let apart : s.net ≢ m = λ same. nowhere d.1.place (e ∙ ap (λ (k : ℕ). Some k) (sym same)) in
          rw e (omega (arith, rest, one_other s (record { time = d.0; net = m; value = d.1.after }) apart))

  -- of a net that stands at one own place what the words say of that place
  told_at : (i n : ℕ) → s.net ≡ n → get_or own i None ≡ Some n → ((j : ℕ) → get_or own j None ≡ Some n → j ≡ i) → (words : List (Dated Move))
      → count s (own_stops own words) ≡ count s (stops_of n (changes_at i words))
  told_at i n same is alone [] = refl
  told_at i n same is alone (d ∷ words) = elim (cases_eq d.1.place i) [
    | inl here ↦ (
        let e : get_or own d.1.place None ≡ Some n = ap (λ (k : ℕ). get_or own k None) here ∙ is in
        let rest = told_at i n same is alone words in
        rw (e, eq_true d.1.place i here) (omega (arith, rest)))
    | inr apart ↦ rw (eq_false d.1.place i apart) (go (get_or own d.1.place None) refl apart (told_at i n same is alone words))
  ]
    where
      go : (o : Option ℕ) → get_or own d.1.place None ≡ o → d.1.place ≢ i → count s (own_stops own words) ≡ count s (stops_of n (changes_at i words))
          → count s (own_stops own (d ∷ words)) ≡ count s (stops_of n (changes_at i words))
      go None e apart rest = rw e rest
      go (Some m) e apart rest =
          let other : s.net ≢ m = λ here. apart (alone d.1.place (e ∙ ap (λ (k : ℕ). Some k) (sym here ∙ same))) in
          rw e (omega (arith, rest, one_other s (record { time = d.0; net = m; value = d.1.after }) other))

module _ (v : View) (portion : IsPortion v.part) (own : List (Option ℕ)) (are : AreOwn v.part own) where
  -- where a net stands at an own place, it is driven there, and nowhere else
  own_place : (j n : ℕ) → get_or own j None ≡ Some n → (is_driven (get_or v.part.sources j Outside) ≡ true) × (slot_of v.part.nets n ≡ Some j)
  own_place j n e = go (is_driven (get_or v.part.sources j Outside)) refl (sym (are j) ∙ e)
    where
      within : is_driven (get_or v.part.sources j Outside) ≡ true → j < length v.part.nets
      within driven = elim (cases_lt j (length v.part.nets)) [
        | inl l ↦ l
        | inr past ↦ absurd (true≢false (sym driven ∙ ap is_driven (get_or_past v.part.sources j Outside (let same = portion.sources in omega (arith, past, same)))))
      ]

      go : (b : Bool) → is_driven (get_or v.part.sources j Outside) ≡ b → cond b (Some (get_or v.part.nets j 0)) None ≡ Some n
          → (is_driven (get_or v.part.sources j Outside) ≡ true) × (slot_of v.part.nets n ≡ Some j)
      go true driven net = (driven, subst (λ (m : ℕ). slot_of v.part.nets m ≡ Some j) (some_is (get_or v.part.nets j 0) n net) (slot_at v.part.nets j portion.ascending (within driven)))
      go false driven net = absurd (none_some n net)

  module _ (words : List (Dated Move)) (tell : TellLogs v words) (waves : (n : ℕ) → IsWave (log_of v n)) (s : Stop) where
    -- of an own net its log
    own_told : owns v.part s.net ≡ true → count s (own_stops own words) ≡ marked s.value (pair_at (log_of v s.net) s.time)
    own_told driven = go (slot_of v.part.nets s.net) refl
      where
        go : (o : Option ℕ) → slot_of v.part.nets s.net ≡ o → count s (own_stops own words) ≡ marked s.value (pair_at (log_of v s.net) s.time)
        go None e = absurd (true≢false (sym driven ∙ ap (λ o. is_driven (at_slot v.part.sources Outside o)) e))
        go (Some i) e =
            let is = slot_is v.part.nets s.net i e in
            let here : is_driven (get_or v.part.sources i Outside) ≡ true = sym (ap (λ o. is_driven (at_slot v.part.sources Outside o)) e) ∙ driven in
            let mine : get_or own i None ≡ Some s.net = are i ∙ (ap (λ (b : Bool). cond b (Some (get_or v.part.nets i 0)) None) here ∙ ap (λ (k : ℕ). Some k) is.1) in
            let alone : (j : ℕ) → get_or own j None ≡ Some s.net → j ≡ i = λ j there. some_is j i (sym (own_place j s.net there).1 ∙ e) in
            let log : changes_at i words ≡ log_of v s.net = tell i here ∙ sym (ap (at_slot v.logs []) e) in
            told_at own s i s.net refl mine alone words
            ∙ ap (λ (cs : List Change). count s (stops_of s.net cs)) log
            ∙ count-here s.net 0 X (log_of v s.net) s (waves s.net) refl

    -- of another one nothing
    other_told : owns v.part s.net ≡ false → count s (own_stops own words) ≡ 0
    other_told other =
        told_none own s
        (λ j there. let found = own_place j s.net there in true≢false (sym found.0 ∙ (sym (ap (λ o. is_driven (at_slot v.part.sources Outside o)) found.1) ∙ other)))
        words

  -- what the words tell comes to the lists that get the logs
  pub told_more : (words : List (Dated Move)) → TellLogs v words → ((n : ℕ) → IsWave (log_of v n)) → (before after : List (List Change))
      → ((n : ℕ) → owns v.part n ≡ true → wave_of before n ≡ []) → ((n : ℕ) → owns v.part n ≡ true → wave_of after n ≡ log_of v n) → ((n : ℕ) → owns v.part n ≡ false → wave_of after n ≡ wave_of before n)
      → (tellings : List Telling) (first : List (List Change)) → AreTelling tellings first before → AreTelling (tellings ++ record { own = own; words = words } ∷ []) first after
  told_more words tell waves before after none logs others tellings first told s = elim (cases_Bool (owns v.part s.net)) [
    | inl driven ↦ (
        let empty : has s before ≡ 0 = ap (λ (cs : List Change). marked s.value (pair_at cs s.time)) (none s.net driven) in
        let more = own_told words tell waves s driven in
        let is : has s after ≡ marked s.value (pair_at (log_of v s.net) s.time) = ap (λ (cs : List Change). marked s.value (pair_at cs s.time)) (logs s.net driven) in
        omega (arith, told s, empty, more, is, count_in-append s tellings (record { own = own; words = words } ∷ [])))
    | inr other ↦ (
        let more = other_told words tell waves s other in
        let is : has s after ≡ has s before = ap (λ (cs : List Change). marked s.value (pair_at cs s.time)) (others s.net other) in
        omega (arith, told s, more, is, count_in-append s tellings (record { own = own; words = words } ∷ [])))
  ]

-- how often a list for each net has a change
abbrev has_in : Stop → (ℕ → List Change) → ℕ
has_in s lists = marked s.value (pair_at (lists s.net) s.time)

-- the story of a block tells what comes to the lists that get its logs
story_more : (p : Process) (t : Telling) → IsStory p.seen t → (before : ℕ → List Change) → ((n : ℕ) → owns p.seen.part n ≡ true → before n ≡ []) → (s : Stop)
    → has_in s (after_block p.seen before) ≡ has_in s before + count s (own_stops t.own t.words)
story_more p t is before none s = elim (cases_Bool (owns p.seen.part s.net)) [
  | inl driven ↦ (
      let empty : has_in s before ≡ 0 = ap (λ (cs : List Change). marked s.value (pair_at cs s.time)) (none s.net driven) in
      let more = own_told p.seen is.lawful.part t.own is.own t.words is.words (λ n. (log_wave p.seen is.lawful n).0) s driven in
      let after : has_in s (after_block p.seen before) ≡ marked s.value (pair_at (log_of p.seen s.net) s.time) = ap (λ (cs : List Change). marked s.value (pair_at cs s.time)) (cond-true (owns p.seen.part s.net) (log_of p.seen s.net) (before s.net) driven) in
      omega (arith, empty, more, after))
  | inr other ↦ (
      let more = other_told p.seen is.lawful.part t.own is.own t.words is.words (λ n. (log_wave p.seen is.lawful n).0) s other in
      let after : has_in s (after_block p.seen before) ≡ has_in s before = ap (λ (cs : List Change). marked s.value (pair_at cs s.time)) (cond-false (owns p.seen.part s.net) (log_of p.seen s.net) (before s.net) other) in
      omega (arith, more, after))
]

-- so do the stories of all, of whom no two own a net
pub stories_more : (ps : List Process) (ts : List Telling) → AreStories ps ts → AreApart ps → (before : ℕ → List Change) → All (λ (q : Process). (n : ℕ) → owns q.seen.part n ≡ true → before n ≡ []) ps → (s : Stop)
    → has_in s (after_blocks ps before) ≡ has_in s before + count_in s ts
stories_more [] [] are apart before none s = omega arith
stories_more [] (t ∷ ts) are apart before none s = absurd are
stories_more (p ∷ ps) [] are apart before none s = absurd are
stories_more (p ∷ ps) (t ∷ ts) are apart before none s =
    let first = story_more p t are.0 before (λ n own. none 0 p (omega arith) n own) s in
    let rest = stories_more ps ts are.1 apart.1 (after_block p.seen before)
    (none_rest p ps before (after_block p.seen before) apart none (λ n other. cond-false (owns p.seen.part n) (log_of p.seen n) (before n) other)) s in
    omega (arith, first, rest)

-- what is given, and what histories tell, are the changes of the lists that they tell of
pub told_in_step : (before after : List (List Change)) (given all : List Stop) (tellings : List Telling) → AreStopsOf before given → AreTelling tellings before after → AreAll given tellings all → AreStopsOf after all
told_in_step before after given all tellings step told both s = omega (arith, step s, told s, both s)

-- so are those by time, where they are had
pub told_when : (given : List Stop) (tellings : List Telling) (old new : List (List Change)) → AreStopsOf old given → AreTelling tellings old new
    → (all : Option ByTime) → IfSome all (λ by_time. AreAll given tellings (stops_in by_time)) → IfSome all (λ by_time. AreStopsOf new (stops_in by_time))
told_when given tellings old new step told None both = tt
told_when given tellings old new step told (Some by_time) both = told_in_step old new given (stops_in by_time) tellings step told both

-- unless memory is wanted
pub told_ok : (given : List Stop) (tellings : List Telling) (old new : List (List Change)) → AreStopsOf old given → AreTelling tellings old new
    → (all : Result (Option ByTime) AllocError) → IfOk all (λ all. IfSome all (λ by_time. AreAll given tellings (stops_in by_time))) → IfOk all (λ all. IfSome all (λ by_time. AreStopsOf new (stops_in by_time)))
told_ok given tellings old new step told (Ok all) both = told_when given tellings old new step told all both
told_ok given tellings old new step told (Err error) both = tt

-- where what is told of each net are the changes of its value, what is told by time are the circuit's changes
pub told_circuit : (d : Design) (cut : Ownership) (g : Given) (horizon : ℕ) (blocks : List Process) (all : Option ByTime)
    → IfSome all (λ by_time. (waves : List (List Change)) → length waves ≡ nets_of d → ((n : ℕ) → n < nets_of d → wave_of waves n ≡ told_of cut g horizon blocks n) → AreStopsOf waves (stops_in by_time))
    → ((n : ℕ) → n < nets_of d → changes (value_under d g n) (horizon + 1) ≡ told_of cut g horizon blocks n) → IfSome all (λ by_time. AreStopsOf (circuit_waves d g horizon) (stops_in by_time))
told_circuit d cut g horizon blocks None told are = tt
told_circuit d cut g horizon blocks (Some by_time) told are =
    told (circuit_waves d g horizon) (length-map-range_with_len (λ n. changes (value_under d g n) (horizon + 1)) 0 (nets_of d))
    (λ n l. get_or-map-range_with_len (λ m. changes (value_under d g m) (horizon + 1)) 0 (nets_of d) n n [] l (omega arith) ∙ are n l)
