-- What is kept of the changes, a change at a time.
use Rattle.std.proofs.Common.{◌≡◌, ℕ, ◌+◌, ◌<◌, Bool, true, false, cond, ◌&&◌, List, [], ◌∷◌, ◌++◌, length, set, get_or, slice_get, replicate, Some, None, Bor, refl, ap, sym, ◌∙◌, arith, add-one}
use Rattle.std.specs.Str.{bytes_eq}
use Rattle.std.proofs.lemmas.List.{get_or-map, length-map, map-append, map-set}
use Rattle.gate_values.specs.declared.logic.Logic.TheVariants.{X}
use Rattle.gate_values.specs.declared.logic.Change.{Change}
use Rattle.gate_values.specs.Changes.{changes, latest}
use Rattle.gate_values.proofs.ChangeLists.{changes-agree}
use Rattle.gate_vcd.specs.Changes.{Event, Source, changes_with, value_at_place, value_with}
use Rattle.gate_stimulus.specs.Given.{last_stamp}
use Rattle.gate_vcd.specs.Inner.Items.{AreHeld, AreKept, AreSettled, Taken, given_after, last_of, makes, reaches}
use Rattle.gate_vcd.specs.Inner.Settled.{settled}
use Rattle.gate_vcd.specs.Shown.Words.{texts}
use Rattle.gate_vcd.proofs.Keeping.{append-nil, events-none, kept-none, more_changes, one_more, past-more, same_bytes, up_to_with}
use Rattle.gate_vcd.proofs.Links.{last_below-last, last_below-stands, slice_get-within}
use Rattle.gate_vcd.proofs.Reaching.{given-digits, given-more, given-none, latest-still, makes-same, value-given-all}
use Rattle.gate_vcd.proofs.Settling.{settled-changes}
use Rattle.gate_vcd.specs.Shown.Known.{is_of}

abbrev event_to : ℕ → List ℕ → List ℕ → Event
event_to now code digits = record { time = now; code = code; digits = digits }

abbrev change_to : ℕ → List ℕ → Source → Change
change_to now digits source = record { time = now; value = value_at_place source.place digits }

-- the lists with a change of digits more
kept_at : (sources : List Source) (now : ℕ) (code had digits : List ℕ) (es : List Event) (old new : List (List Change)) → had ≡ given_after code [] es → AreKept sources now es old → AreSettled sources now code had digits old new
    → (k : ℕ) (source : Source) → slice_get sources k ≡ Some source → get_or new k [] ≡ changes (value_with source (es ++ record { time = now; code = code; digits = digits } ∷ [])) (last_stamp + 1)
kept_at sources now code had digits es old new had_is kept settle k source at = go (bytes_eq source.code code) refl
  where
    by : (b : Bool) → (reaches had digits source.place && makes had digits source.place) ≡ b → bytes_eq source.code code ≡ true → changes_with source (es ++ (event_to now code digits) ∷ []) ≡ changes_with source es ++ (change_to now digits source) ∷ [] → get_or new k [] ≡ changes (value_with source (es ++ (event_to now code digits) ∷ [])) (last_stamp + 1)
    by true r t listed =
        let now_is : get_or new k [] ≡ settled (get_or old k []) (change_to now digits source) = settle.changes k source at ∙ rw (t, r) refl in
        rw (now_is, kept.changes k source at)
        (settled-changes (changes_with source es) (change_to now digits source) (last_stamp + 1) (up_to_with now source es kept.past) (omega (arith, kept.within)) ∙ ap (λ cs. changes (λ t. latest X cs t) (last_stamp + 1)) (sym listed))
    by false r t listed =
        let now_is : get_or new k [] ≡ get_or old k [] = settle.changes k source at ∙ rw (t, r) refl in
        let same_value : (change_to now digits source).value ≡ value_at_place source.place had = makes-same had digits source.place r in
        let before : had ≡ given_after source.code [] es = had_is ∙ ap (λ x. given_after x [] es) (sym (same_bytes source.code code t)) in
        let still = same_value ∙ ap (value_at_place source.place) before ∙ sym (value-given-all source es) in
        now_is ∙ kept.changes k source at
        ∙ sym (changes-agree (value_with source (es ++ (event_to now code digits) ∷ [])) (value_with source es) (last_stamp + 1) (λ t l. ap (λ cs. latest X cs t) listed ∙ latest-still (changes_with source es) (change_to now digits source) t (up_to_with now source es kept.past) still))

    go : (b : Bool) → bytes_eq source.code code ≡ b → get_or new k [] ≡ changes (value_with source (es ++ (event_to now code digits) ∷ [])) (last_stamp + 1)
    go true t = by (reaches had digits source.place && makes had digits source.place) refl t (more_changes source es (event_to now code digits) ∙ rw t refl)
    go false t =
        let listed : changes_with source (es ++ (event_to now code digits) ∷ []) ≡ changes_with source es = more_changes source es (event_to now code digits) ∙ rw t (append-nil (changes_with source es)) in
        let now_is : get_or new k [] ≡ get_or old k [] = settle.changes k source at ∙ rw t refl in
        now_is ∙ kept.changes k source at ∙ ap (λ cs. changes (λ t. latest X cs t) (last_stamp + 1)) (sym listed)

-- digits of a code are taken in
kept-digits : (sources : List Source) (now : ℕ) (code had digits : List ℕ) (es : List Event) (old new : List (List Change)) → had ≡ given_after code [] es → AreKept sources now es old → AreSettled sources now code had digits old new
    → AreKept sources now (es ++ record { time = now; code = code; digits = digits } ∷ []) new
kept-digits sources now code had digits es old new is kept settle =
    record {
      count = settle.count ∙ kept.count;
      past = past-more now es (record { time = now; code = code; digits = digits }) (omega arith) kept.past;
      within = kept.within;
      changes = kept_at sources now code had digits es old new is kept settle;
    }

-- what is kept at the last source of a code, before and after
pub held-digits : (sources : List Source) (now : ℕ) (code : List ℕ) (had digits : Bor (List ℕ)) (es : List Event) (old new : List (List Change)) (given : List (Bor (List ℕ))) (last : ℕ) → last_of sources code ≡ Some last → had ≡ get_or given last had
    → AreHeld sources now es (record { lists = old; given = texts given }) → AreSettled sources now code had.now digits.now old new
    → AreHeld sources now (es ++ record { time = now; code = code; digits = digits.now } ∷ []) (record { lists = new; given = texts (set given last digits) })
held-digits sources now code had digits es old new given last is at held settle =
    let stands : last < length sources = last_below-stands (is_of code) sources (length sources) last is in
    let within : last < length given = omega (arith, stands, held.given.count, length-map given (λ (t : Bor (List ℕ)). t.now)) in
    let read : had.now ≡ get_or (texts given) last [] = ap (λ (t : Bor (List ℕ)). t.now) at ∙ sym (get_or-map (λ (t : Bor (List ℕ)). t.now) given last had [] within) in
    let had_is : had.now ≡ given_after code [] es = read ∙ held.given.digits code last is in
    let laid : texts (set given last digits) ≡ set (texts given) last digits.now = map-set (λ (t : Bor (List ℕ)). t.now) given last digits in
    record {
      lists = kept-digits sources now code had.now digits.now es old new had_is held.lists settle;
      given = rw laid (given-digits sources now code digits.now es (texts given) last is held.given);
    }

-- digits of a code that no source has
pub held-unused : (sources : List Source) (now : ℕ) (code digits : List ℕ) (es : List Event) (taken : Taken) → last_of sources code ≡ None → AreHeld sources now es taken
    → AreHeld sources now (es ++ record { time = now; code = code; digits = digits } ∷ []) taken
held-unused sources now code digits es taken none held =
    record {
      lists = kept-digits sources now code (given_after code [] es) digits es taken.lists taken.lists refl held.lists (record {
        count = refl;
        changes = λ k source at. (let no : is_of code source ≡ false = last_below-last (is_of code) sources (length sources) None k source none (omega arith) (slice_get-within sources k source at) at in rw no refl);
      });
      given = record { count = held.given.count; digits = by };
    }
  where
    by : (other : List ℕ) (k : ℕ) → last_of sources other ≡ Some k → get_or taken.given k [] ≡ given_after other [] (es ++ record { time = now; code = code; digits = digits } ∷ [])
    by other k at = go (bytes_eq other code) refl ∙ sym (given-more other [] es (record { time = now; code = code; digits = digits }))
      where
        go : (b : Bool) → bytes_eq other code ≡ b → get_or taken.given k [] ≡ cond b digits (given_after other [] es)
        go true t =
            let bad : Some k ≡ None = sym at ∙ ap (last_of sources) (same_bytes other code t) ∙ none in
            cc
        go false t = held.given.digits other k at

-- a change that is read over
pub held-over : (sources : List Source) (now : ℕ) (es : List Event) (taken : Taken) → AreHeld sources now es taken → AreHeld sources now (es ++ []) taken
held-over sources now es taken held = rw (events-none es) held

-- before the first change
pub held-none : (sources : List Source) (n : ℕ) (taken : Taken) → n ≡ length sources → taken.lists ≡ replicate {A = List Change} n [] → taken.given ≡ replicate {A = List ℕ} n [] → AreHeld sources 0 [] taken
held-none sources n taken e el eg = record { lists = rw el (kept-none sources n e); given = rw eg (given-none sources n e) }

-- the last source of a code stands among those that are kept
pub held-within : (sources : List Source) (now : ℕ) (code : List ℕ) (es : List Event) (lists : List (List Change)) (given : List (Bor (List ℕ))) (last : ℕ) → last_of sources code ≡ Some last
    → AreHeld sources now es (record { lists = lists; given = texts given }) → last < length given
held-within sources now code es lists given last is held =
    let stands : last < length sources = last_below-stands (is_of code) sources (length sources) last is in
    omega (arith, stands, held.given.count, length-map given (λ (t : Bor (List ℕ)). t.now))

pub one_text_more : (given new : List (Bor (List ℕ))) (t : Bor (List ℕ)) (n : ℕ) → t.now ≡ [] → new ≡ given ++ t ∷ [] → texts given ≡ replicate {A = List ℕ} n [] → texts new ≡ replicate {A = List ℕ} (n + 1) []
one_text_more given new t n e en h = rw en (map-append (λ (w : Bor (List ℕ)). w.now) given (t ∷ []) ∙ rw (h, e, add-one n) (one_more n []))

pub all_texts : (given : List (Bor (List ℕ))) (n m : ℕ) → n ≡ m → texts given ≡ replicate {A = List ℕ} n [] → texts given ≡ replicate {A = List ℕ} m []
all_texts given n m e h = rw (← e) h
