-- Who hears of a net: the other blocks whose gates use it, and these are whom its owner tells.
use Rattle.std.proofs.Common.{◌≡◌, ◌≢◌, ℕ, ◌<◌, ◌&&◌, ◌||◌, ◌==◌, Bool, true, false, not, cond, Option, Some, None, is_some, List, [], length, inl, inr, refl, ap, sym, ◌∙◌, arith}
use Rattle.std.specs.List.{list_any, filter, range_with_len}
use Rattle.std.proofs.lemmas.Bool.{cases_Bool, cases_lt, eqb-true, eq-eqb, ne_eqb, and_parts, and_from, true≢false}
use Rattle.std.proofs.lemmas.List.{get_or_past}
use Rattle.std.proofs.lemmas.List.Folds.{Any-from_list_any}
use Rattle.gate_netlist.specs.Circuit.{Design, CutFits, nets_of, driver_of, is_input as is_input_driver, source_of as circuit_source}
use Rattle.gate_netlist.specs.Cut.{Ownership, is_owner, owner_of}
use Rattle.gate_values.specs.Behaviour.{Outside}
use Rattle.warp_part.specs.Inner.Building.{has}
use Rattle.warp_part.specs.Portion.{Portion, is_driven, source_of, owns, reads, hears, is_input, readers_of, slot_of}
use Rattle.warp_part.specs.PartOf.{is_own, is_used_by, part_nets, part_source, part_readers, part_of}
use Rattle.warp_part.proofs.Slots.{of_net-map, slot_is}
use Rattle.warp_core.proofs.Mapped.{in_map}
use Rattle.warp_part.proofs.PartLists.{has_kept, has_at, kept_below}
use Rattle.warp_part.proofs.PartBuilding.{nets_rise, slot_some}
use Rattle.warp_core.proofs.Parts.{owner_owns, net_within}

owner_of_own : (b : ℕ) (o : Option ℕ) → is_owner b o ≡ true → o ≡ Some b
owner_of_own b None e = absurd cc
owner_of_own b (Some o) e = ap (λ k. Some k) (eqb-true o b e)

owned_within : (cut : Ownership) (n o : ℕ) → owner_of cut n ≡ Some o → n < length cut.owners
owned_within cut n o e = elim (cases_lt n (length cut.owners)) [
  | inl within ↦ within
  | inr past ↦ absurd (let none = get_or_past cut.owners n None past in cc)
]

-- a block owns a net just where it is its owner
own_by : (cut : Ownership) (n o b : ℕ) → owner_of cut n ≡ Some o → is_own cut b n ≡ (o == b)
own_by cut n o b e = ap (is_owner b) e

has_slot : (nets : List ℕ) (n : ℕ) → is_some (slot_of nets n) ≡ true → has nets n ≡ true
has_slot nets n h = go (slot_of nets n) refl h
  where
    go : (o : Option ℕ) → slot_of nets n ≡ o → is_some o ≡ true → has nets n ≡ true
    go None e h = absurd cc
    go (Some i) e h = let is = slot_is nets n i e in has_at nets i n is.0 is.1

-- what an own net is driven by has a place
owns_slot : (p : Portion) (n : ℕ) → owns p n ≡ true → is_some (slot_of p.nets n) ≡ true
owns_slot p n h = go (slot_of p.nets n) refl
  where
    go : (o : Option ℕ) → slot_of p.nets n ≡ o → is_some (slot_of p.nets n) ≡ true
    go None e = absurd (let none : source_of p n ≡ Outside = rw e refl in true≢false (sym h ∙ ap is_driven none))
    go (Some i) e = ap is_some e

has_within : (p : ℕ → Bool) (m n : ℕ) → has (filter p (range_with_len 0 m)) n ≡ true → n < m
has_within p m n h =
    let (k, x, l, at, e) = Any-from_list_any (λ y. y == n) (filter p (range_with_len 0 m)) h in
    let below = kept_below p m k x l in
    let same = eqb-true x n e in
    omega (arith, below, same, at)

not_true : (b : Bool) → not b ≡ true → b ≡ false
not_true true h = absurd cc
not_true false h = refl

module _ (d : Design) (cut : Ownership) (fits : CutFits d cut) where
  -- the readers of a net, by its owner
  readers_is : (o n : ℕ) → readers_of (part_of d cut o) n ≡ part_readers d cut o n
  readers_is o n = of_net-map (part_nets d cut o) (part_readers d cut o) [] n (λ none. elim (cases_Bool (is_own cut o n)) [
    | inl own ↦ absurd (let there = owns_slot (part_of d cut o) n (owner_owns d cut fits o n (owner_of_own o (owner_of cut n) own)) in true≢false (sym there ∙ ap is_some none))
    | inr other ↦ ap (λ b. cond b (filter (λ c. not (c == o) && is_used_by d cut c n) (range_with_len 0 cut.blocks)) []) other
  ])

  -- a net that a block hears of has another owner, and a gate of the block uses it
  pub record IsHeardFrom (b n : ℕ) : Type 0 where
    pub owner : ℕ
    pub owned : owner_of cut n ≡ Some owner
    pub other : owner ≢ b
    pub used : is_used_by d cut b n ≡ true

  own_list : (o n : ℕ) → owner_of cut n ≡ Some o → part_readers d cut o n ≡ filter (λ c. not (c == o) && is_used_by d cut c n) (range_with_len 0 cut.blocks)
  own_list o n owned = ap (λ own. cond own (filter (λ c. not (c == o) && is_used_by d cut c n) (range_with_len 0 cut.blocks)) []) (own_by cut n o o owned ∙ eq-eqb o o refl)

  -- a net among those of a block is an input just where the circuit has it so
  input_is : (b n : ℕ) → is_some (slot_of (part_nets d cut b) n) ≡ true → is_input (part_of d cut b) n ≡ is_input_driver (driver_of d n)
  input_is b n there = in_map (part_nets d cut b) (λ m. is_input_driver (driver_of d m)) false n there

  -- among the nets of a block are those that it owns, and those that its gates use
  used_is : (b o n : ℕ) → n < nets_of d → owner_of cut n ≡ Some o → o ≢ b → has (part_nets d cut b) n ≡ is_used_by d cut b n
  used_is b o n within owned other =
      has_kept (λ m. is_own cut b m || is_used_by d cut b m) (nets_of d) n within ∙ ap (λ own. own || is_used_by d cut b n) (own_by cut n o b owned ∙ ne_eqb o b other)

  -- a block whose gate uses another's net hears of it
  told_one : (c o n : ℕ) → owner_of cut n ≡ Some o → o ≢ c → is_used_by d cut c n ≡ true → hears (part_of d cut c) n ≡ true
  told_one c o n owned other used =
      let below = owned_within cut n o owned in
      let within : n < nets_of d = omega (arith, below, fits.nets) in
      let there : is_some (slot_of (part_nets d cut c) n) ≡ true = slot_some (part_nets d cut c) n (nets_rise d cut c) (used_is c o n within owned other ∙ used) in
      let outside : source_of (part_of d cut c) n ≡ Outside = in_map (part_nets d cut c) (part_source d cut c) Outside n there ∙ ap (λ own. cond own (circuit_source d n) Outside) (own_by cut n o c owned ∙ ne_eqb o c other) in
      let inner : is_input (part_of d cut c) n ≡ false = input_is c n there ∙ not_true (is_input_driver (driver_of d n)) (sym (fits.owned n within) ∙ ap is_some owned) in
      and_from (reads (part_of d cut c) n) (not (is_input (part_of d cut c) n))
      (and_from (is_some (slot_of (part_nets d cut c) n)) (not (owns (part_of d cut c) n)) there (ap not (ap is_driven outside))) (ap not inner)

  pub heard_from : (b n : ℕ) → hears (part_of d cut b) n ≡ true → IsHeardFrom b n
  heard_from b n h = go (owner_of cut n) refl
    where
      read : reads (part_of d cut b) n ≡ true
      read = (and_parts (reads (part_of d cut b) n) (not (is_input (part_of d cut b) n)) h).0

      outer : is_input (part_of d cut b) n ≡ false
      outer = not_true (is_input (part_of d cut b) n) (and_parts (reads (part_of d cut b) n) (not (is_input (part_of d cut b) n)) h).1

      there : is_some (slot_of (part_nets d cut b) n) ≡ true
      there = (and_parts (is_some (slot_of (part_nets d cut b) n)) (not (owns (part_of d cut b) n)) read).0

      unowned : owns (part_of d cut b) n ≡ false
      unowned = not_true (owns (part_of d cut b) n) (and_parts (is_some (slot_of (part_nets d cut b) n)) (not (owns (part_of d cut b) n)) read).1

      within : n < nets_of d
      within = net_within d cut fits b n there

      apart : (o : ℕ) → owner_of cut n ≡ Some o → o ≢ b
      apart o e same = true≢false (sym (owner_owns d cut fits b n (e ∙ ap (λ k. Some k) same)) ∙ unowned)

      go : (o : Option ℕ) → owner_of cut n ≡ o → IsHeardFrom b n
      go None e = absurd (true≢false (sym (fits.owned n within ∙ ap not (sym (input_is b n there) ∙ outer)) ∙ ap is_some e))
      go (Some o) e = record { owner = o; owned = e; other = apart o e; used = sym (used_is b o n within e (apart o e)) ∙ has_slot (part_nets d cut b) n there }

  -- whom the owner of a net tells
  pub heard_told : (b o n : ℕ) → b < cut.blocks → hears (part_of d cut b) n ≡ true → owner_of cut n ≡ Some o → list_any (λ r. r == b) (readers_of (part_of d cut o) n) ≡ true
  heard_told b o n below h owned =
      let from = heard_from b n h in
      let same : from.owner ≡ o = some_same from.owner o (sym from.owned ∙ owned) in
      let apart : b ≢ o = λ e. from.other (same ∙ sym e) in
      ap (λ (rs : List ℕ). has rs b) (readers_is o n ∙ own_list o n owned)
      ∙ (has_kept (λ c. not (c == o) && is_used_by d cut c n) cut.blocks b below
      ∙ and_from (not (b == o)) (is_used_by d cut b n) (ap not (ne_eqb b o apart)) from.used)
    where
      some_same : (x y : ℕ) → ◌≡◌ {A = Option ℕ} (Some x) (Some y) → x ≡ y
      some_same x y e = cc

  -- where a block reads a net of another one, the owner tells somebody
  pub read_told : (b o n : ℕ) → b < cut.blocks → reads (part_of d cut b) n ≡ true → owner_of cut n ≡ Some o → readers_of (part_of d cut o) n ≡ [] → ⊥
  read_told b o n below read owned none =
      let there : is_some (slot_of (part_nets d cut b) n) ≡ true = (and_parts (is_some (slot_of (part_nets d cut b) n)) (not (owns (part_of d cut b) n)) read).0 in
      let within : n < nets_of d = net_within d cut fits b n there in
      let inner : is_input (part_of d cut b) n ≡ false = input_is b n there ∙ not_true (is_input_driver (driver_of d n)) (sym (fits.owned n within) ∙ ap is_some owned) in
      let hear : hears (part_of d cut b) n ≡ true = and_from (reads (part_of d cut b) n) (not (is_input (part_of d cut b) n)) read (ap not inner) in
      true≢false (sym (heard_told b o n below hear owned) ∙ ap (λ (rs : List ℕ). list_any (λ r. r == b) rs) none)

  pub told_heard : (c o n : ℕ) → list_any (λ r. r == c) (readers_of (part_of d cut o) n) ≡ true → (owner_of cut n ≡ Some o) × (c < cut.blocks) × (hears (part_of d cut c) n ≡ true)
  told_heard c o n h = elim (cases_Bool (is_own cut o n)) [
    | inl own ↦ (let owned = owner_of_own o (owner_of cut n) own in
        let told : has (filter (λ c. not (c == o) && is_used_by d cut c n) (range_with_len 0 cut.blocks)) c ≡ true = sym (ap (λ (rs : List ℕ). has rs c) (readers_is o n ∙ own_list o n owned)) ∙ h in
        let below = has_within (λ c. not (c == o) && is_used_by d cut c n) cut.blocks c told in
        let both = and_parts (not (c == o)) (is_used_by d cut c n) (sym (has_kept (λ c. not (c == o) && is_used_by d cut c n) cut.blocks c below) ∙ told) in
        (owned, below, told_one c o n owned (λ e. true≢false (sym both.0 ∙ ap not (eq-eqb c o (sym e)))) both.1))
    | inr other ↦ absurd (true≢false (sym h ∙ ap (λ (rs : List ℕ). has rs c) (readers_is o n ∙ ap (λ b. cond b (filter (λ c. not (c == o) && is_used_by d cut c n) (range_with_len 0 cut.blocks)) []) other)))
  ]

  -- who isn't the owner of a net tells nobody
  pub untold_other : (b o n c : ℕ) → owner_of cut n ≡ Some o → o ≢ b → list_any (λ r. r == c) (readers_of (part_of d cut b) n) ≡ false
  untold_other b o n c owned other =
      ap (λ (rs : List ℕ). has rs c) (readers_is b n ∙ ap (λ own. cond own (filter (λ k. not (k == b) && is_used_by d cut k n) (range_with_len 0 cut.blocks)) []) (own_by cut n o b owned ∙ ne_eqb o b other))
