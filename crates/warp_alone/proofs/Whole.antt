-- One block that has the whole circuit does what the circuit does.
use Rattle.std.proofs.Common.{◌≡◌, ◌≢◌, ℕ, ◌+◌, ◌<◌, ◌≤◌, true, false, Option, Some, None, IfSome, List, [], ◌∷◌, length, inl, inr, refl, ap, sym, subst, ◌∙◌, arith}
use Rattle.std.proofs.lemmas.Bool.{cases_Bool, cases_lt, true≢false, eqb-true}
use Rattle.std.proofs.lemmas.List.{get_or_past}
use Rattle.std.proofs.lemmas.List.Elements.{All-nil}
use Rattle.std.proofs.lemmas.List.FromFn.{get_or-map-range_with_len, length-map-range_with_len}
use Rattle.gate_values.specs.declared.logic.Change.{Change}
use Rattle.gate_values.specs.Changes.{changes, before_time}
use Rattle.gate_netlist.specs.Circuit.{Design, CutFits, nets_of}
use Rattle.gate_netlist.specs.Cut.{Ownership, IsOwnership, is_owner, owner_of}
use Rattle.gate_stimulus.specs.Given.{Given, Fits, AreItsChanges, changes_of}
use Rattle.net_waves.specs.declared.timeline.Stop.{Stop}
use Rattle.net_waves.specs.Stops.{AreStopsOf}
use Rattle.net_waves.specs.Waves.{wave_of}
use Rattle.warp_stores.specs.Words.{Move}
use Rattle.warp_stores.specs.Dated.{Dated}
use Rattle.history_waves.specs.Histories.{AreBoth}
use Rattle.history_waves.specs.Stories.{Telling}
use Rattle.warp_part.specs.Portion.{owns}
use Rattle.warp_part.specs.PartOf.{is_own, part_of}
use Rattle.warp_process.specs.declared.message.Message.{Message}
use Rattle.warp_process.specs.Limits.{most_horizon}
use Rattle.warp_process.specs.Heard.{IsReceived}
use Rattle.warp_process.specs.Lawful.{IsLawful}
use Rattle.warp_process.specs.Opening.{silent_view, opening_view}
use Rattle.warp_process.specs.Played.{played_view}
use Rattle.warp_process.specs.View.{View, Process, IsEventTime, entry_of, log_of}
use Rattle.warp_process.proofs.Playing.{played_lawful}
use Rattle.part_engine.specs.Histories.{TellLogs}
use Rattle.warp_core.specs.OwnNets.{AreOwn}
use Rattle.warp_core.specs.Matched.{seen_at, IsBlockOf, EachBlock, AreMatched, told_by, told_of}
use Rattle.warp_core.specs.Values.{value_under, circuit_waves}
use Rattle.warp_core.specs.World.{Scene, IsBefore, IsLawfulWorld, IsFlying}
use Rattle.warp_core.proofs.Finished.{log_wave}
use Rattle.warp_core.proofs.Finishing.{world_matched}
use Rattle.warp_core.proofs.Hearing.{heard_from}
use Rattle.warp_core.proofs.Histories.{told_more, told_in_step}
use Rattle.warp_core.proofs.Matching.{matched_changes}
use Rattle.warp_core.proofs.Parts.{owner_owns, other_owns}

owner_is : (b : ℕ) (o : Option ℕ) → is_owner b o ≡ true → o ≡ Some b
owner_is b None e = absurd cc
owner_is b (Some o) e = ap (λ (k : ℕ). Some k) (eqb-true o b e)

some_none : (o : ℕ) (e : Option ℕ) → e ≡ Some o → e ≡ None → ⊥
some_none o e some none = cc

module _ (d : Design) (cut : Ownership) (g : Given) (horizon : ℕ) (fits : CutFits d cut) (owners : IsOwnership cut) (one : cut.blocks ≡ 1)
    (given : Fits g d) (its : (n : ℕ) → AreItsChanges (changes_of g n)) (short : horizon ≤ most_horizon) (received : IsReceived (silent_view (part_of d cut 0) g horizon)) where
  -- what the block shows in the end
  abbrev view : View
  view = played_view (silent_view (part_of d cut 0) g horizon) (horizon + 1)

  abbrev blocks : List Process
  blocks = record { seen = view; saved = [] } ∷ []

  abbrev world : Scene
  world = record { circuit = d; cut = cut; stimulus = g; horizon = horizon; blocks = blocks; flight = [] }

  -- it is the first one
  first : (b : ℕ) → b < cut.blocks → 0 ≡ b
  first b l = omega (arith, l, one)

  each : (P : ℕ → View → Type 0) → P 0 view → EachBlock cut blocks P
  each P h b l = subst (λ (c : ℕ). P c (seen_at blocks c)) (first b l) h

  lawful : IsLawful view
  lawful = played_lawful (silent_view (part_of d cut 0) g horizon) (horizon + 1) received

  owner_within : (n o : ℕ) → owner_of cut n ≡ Some o → o < cut.blocks
  owner_within n o e = subst (λ (k : Option ℕ). IfSome k (λ block. block < cut.blocks)) e (owners.owned n)

  law : IsLawfulWorld world
  law = record {
    fits = fits;
    given = given;
    horizon = short;
    count = sym one;
    parts = each (IsBlockOf d cut horizon) (record { part = refl; horizon_is = refl });
    lawful = each (λ _ v. IsLawful v) lawful;
    account = λ p heard.
        (let from = heard_from d cut fits p.block p.net heard.net in
        let here = first p.block heard.block in
        let there = first from.owner (owner_within p.net from.owner from.owned) in
        absurd (from.other (sym there ∙ here)));
    inputs = λ b n t l input.
        subst (λ (c : ℕ). entry_of (seen_at blocks c) n t ≡ entry_of (opening_view (part_of d cut c) g horizon) n t) (first b l) refl;
    flight = All-nil (IsFlying d cut horizon);
    floors = each (λ _ v. IsBefore world v.floor) (record {
      events = λ c u m event. omega arith;
      flight = All-nil (λ (m : Message). 0 ≤ m.time);
      end = omega arith;
    });
  }

  past : IsBefore world (horizon + 1)
  past = record {
    events = λ c u l event.
        (let here : IsEventTime view u = subst (λ (b : ℕ). IsEventTime (seen_at blocks b) u) (sym (first c l)) event in here.0);
    flight = All-nil (λ (m : Message). horizon + 1 ≤ m.time);
    end = omega arith;
  }

  matched : AreMatched d cut g horizon blocks
  matched = world_matched world law owners its past

  told : (n : ℕ) → n < nets_of d → told_of cut g horizon blocks n ≡ changes (value_under d g n) (horizon + 1)
  told n l = matched_changes d cut g horizon blocks fits owners its short (each (λ _ v. IsLawful v) lawful) matched n l

  many : length (circuit_waves d g horizon) ≡ nets_of d
  many = length-map-range_with_len (λ n. changes (value_under d g n) (horizon + 1)) 0 (nets_of d)

  wave_at : (n : ℕ) → n < nets_of d → wave_of (circuit_waves d g horizon) n ≡ changes (value_under d g n) (horizon + 1)
  wave_at n l = get_or-map-range_with_len (λ m. changes (value_under d g m) (horizon + 1)) 0 (nets_of d) n n [] l (omega arith)

  -- a net that it owns
  owned : (n : ℕ) → owns view.part n ≡ true → owner_of cut n ≡ Some 0
  owned n own = elim (cases_Bool (is_own cut 0 n)) [
    | inl is ↦ owner_is 0 (owner_of cut n) is
    | inr other ↦ absurd (true≢false (sym own ∙ other_owns d cut fits 0 n other))
  ]

  within : (n : ℕ) → owner_of cut n ≡ Some 0 → n < nets_of d
  within n e = elim (cases_lt n (nets_of d)) [
    | inl l ↦ l
    | inr past_all ↦ absurd (let none : owner_of cut n ≡ None = get_or_past cut.owners n None (let same = fits.nets in omega (arith, same, past_all)) in some_none 0 (owner_of cut n) e none)
  ]

  own_wave : (n : ℕ) → owns view.part n ≡ true → wave_of (circuit_waves d g horizon) n ≡ log_of view n
  own_wave n own =
      let e = owned n own in
      let l = within n e in
      wave_at n l ∙ sym (told n l) ∙ ap (told_by g horizon blocks n) e

  module _ (before : List (List Change)) (nets : length before ≡ nets_of d) (inputs : (n : ℕ) → n < nets_of d → owner_of cut n ≡ None → wave_of before n ≡ before_time (horizon + 1) (changes_of g n))
      (none : (n : ℕ) → n < nets_of d → owner_of cut n ≢ None → wave_of before n ≡ []) where
    other_wave : (n : ℕ) → owns view.part n ≡ false → wave_of (circuit_waves d g horizon) n ≡ wave_of before n
    other_wave n other = elim (cases_lt n (nets_of d)) [
      | inr far ↦ get_or_past (circuit_waves d g horizon) n [] (omega (arith, far, many)) ∙ sym (get_or_past before n [] (omega (arith, far, nets)))
      | inl l ↦ wave_at n l ∙ sym (told n l) ∙ go l (owner_of cut n) refl
    ]
      where
        go : n < nets_of d → (o : Option ℕ) → owner_of cut n ≡ o → told_of cut g horizon blocks n ≡ wave_of before n
        go l None e = ap (told_by g horizon blocks n) e ∙ sym (inputs n l e)
        go l (Some o) e =
            let here = first o (owner_within n o e) in
            absurd (true≢false (sym (owner_owns d cut fits 0 n (e ∙ ap (λ (k : ℕ). Some k) (sym here))) ∙ other))

    own_none : (n : ℕ) → owns view.part n ≡ true → wave_of before n ≡ []
    own_none n own = let e = owned n own in none n (within n e) (λ free. some_none 0 (owner_of cut n) e free)

    -- what is given, and what is told of its own nets, are the circuit's changes
    pub whole : (own : List (Option ℕ)) → AreOwn (part_of d cut 0) own → (words : List (Dated Move)) → TellLogs view words → (stops : List Stop) → AreStopsOf before stops
        → (all : List Stop) → AreBoth own stops words all → AreStopsOf (circuit_waves d g horizon) all
    whole own are words tell stops step all both =
        let telling : Telling = record { own = own; words = words } in
        let told = told_more view received.part own are words tell (λ n. (log_wave view lawful n).0) before (circuit_waves d g horizon) own_none own_wave other_wave [] before (λ s. omega arith) in
        told_in_step before (circuit_waves d g horizon) stops all (telling ∷ []) step told (λ s. omega (arith, both s))
