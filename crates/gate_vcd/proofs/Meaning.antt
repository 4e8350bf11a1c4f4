-- What is kept of a stimulus text means what the text does.
use Rattle.std.proofs.Common.{◌≡◌, inl, inr, ℕ, zero, suc, ◌+◌, ◌<◌, ◌≤◌, Bool, true, false, cond, ◌||◌, nat_le, nat_lt, List, [], ◌∷◌, ◌++◌, length, get_or, Option, Some, None, IfSome, option_map, option_and_then, unwrap_or, is_some, Result, Ok, Err, Vec, Global, refl, ap, sym, ◌∙◌, subst, arith, length-append, add-one}
use Rattle.std.specs.List.{find}
use Rattle.std.specs.Option.{option_map_or}
use Rattle.std.specs.Str.{bytes_eq}
use Rattle.std.proofs.lemmas.Bool.{cases_eq}
use Rattle.std.proofs.lemmas.Bool.Decides.{nat_tests}
use Rattle.std.proofs.lemmas.List.{length-map, get_or_default}
use Rattle.std.proofs.lemmas.Option.{same_Some}
use Rattle.gate_values.specs.declared.logic.Logic.{Logic}
use Rattle.gate_values.specs.declared.logic.Logic.TheVariants.{X}
use Rattle.gate_values.specs.declared.logic.Change.{Change}
use Rattle.gate_values.specs.Changes.{changes, change_at, just_before, latest, same}
use Rattle.gate_values.proofs.ChangeLists.{changes-agree, same_is}
use Rattle.gate_netlist.specs.Circuit.{Design, nets_of, driver_of, name_of, is_input}
use Rattle.gate_vcd.specs.declared.fault.StimFault.{StimFault}
use Rattle.gate_vcd.specs.declared.fault.StimCause.{StimCause}
use Rattle.std.proofs.lemmas.Slice.Eq.{bytes_eq-Decides}
use Rattle.gate_vcd.specs.Tokens.{Token, tokens_of}
use Rattle.gate_stimulus.specs.declared.timescale.Timescale.{Timescale}
use Rattle.gate_netlist.specs.Bench.{◌>>=◌}
use Rattle.gate_vcd.specs.Reading.{Fails}
use Rattle.gate_vcd.specs.Declarations.{Header, Variable, no_header, declaring}
use Rattle.gate_vcd.specs.Changes.{Item, stamp, change, wrong, Event, Source, items, nothing, events_from, stamped, changes_with, value_with}
use Rattle.gate_stimulus.specs.Given.{last_stamp, Given, AreItsChanges, Fits, changes_of, value_at}
use Rattle.gate_vcd.specs.Inner.Items.{AreKept}
use Rattle.gate_vcd.specs.Inner.Known.{AreNumbers, IsNumber, knows}
use Rattle.gate_vcd.specs.Shown.Known.{is_of, is_used}
use Rattle.gate_vcd.specs.Vectors.{Bit, bit_of, place_in, vector_of}
use Rattle.gate_vcd.specs.declared.known.KnownCodes.{KnownCodes}
use Rattle.std.specs.Option.{option_or}
use Rattle.gate_vcd.specs.Inputs.{bit_source, first_given, is_scalar_of, scalar_code, source_in, source_of, source_of_net, source_or_fault, sources_below}
use Rattle.net_waves.specs.Waves.{lists_in}
use Rattle.gate_stimulus.specs.Shown.Held.{AreLaidOut, given_by}
use Rattle.gate_vcd.specs.Sources.{AreDeclared}
use Rattle.gate_vcd.specs.Stimulus.{reading_of, has_code, value_of_source, Means}
use Rattle.gate_vcd.proofs.DeclarationLaws.{fails_then}
use Rattle.gate_stimulus.proofs.ChangesOf.{changes-none, latest-none}
use Rattle.gate_vcd.proofs.Settling.{latest-flat}
use Rattle.gate_vcd.proofs.InputLaws.{any-more}
use Rattle.gate_vcd.proofs.Keeping.{same_bytes, up_to_with, past-later}
use Rattle.gate_vcd.proofs.Links.{slice_get-within}
use Rattle.gate_stimulus.proofs.Latest.{latest-split, fits-all, some-mapped}
use Rattle.std.proofs.Math.Seq.{get_or-append_seam}
use Rattle.std.proofs.Math.ListN.{get_or-append, get_or-map as map-at}

-- the known codes alone matter to the changes
bind-same : (r : Result ℕ StimFault) (f g : ℕ → Result (List Event) StimFault) → ((n : ℕ) → f n ≡ g n) → (r >>= f) ≡ (r >>= g)
bind-same (Ok n) f g h = h n
bind-same (Err e) f g h = refl

pub events-same : (p q : List ℕ → Bool) → ((code : List ℕ) → p code ≡ q code) → (now : ℕ) (is : List Item) → events_from p now is ≡ events_from q now is
unfolding events_from
events-same p q h now [] = refl
events-same p q h now (stamp t ∷ is) = bind-same (stamped t now) (λ next. events_from p next is) (λ next. events_from q next is) (λ next. events-same p q h next is)
events-same p q h now (change t code digits ∷ is) = rw (h code, events-same p q h now is) refl
events-same p q h now (wrong t cause ∷ is) = refl

-- the steps of a reading
module _ (text : List ℕ) (d : Design) where
  pub declared-fails : (e : StimFault) → Fails e (declaring d.scope no_header None (tokens_of text)) → Fails e (reading_of text d)
  unfolding reading_of
  declared-fails e f = fails_then e (declaring d.scope no_header None (tokens_of text)) _ f

  pub changes-fail : (e : StimFault) (h : Header) (rest : List Token) → declaring d.scope no_header None (tokens_of text) ≡ Ok (h, rest)
      → Fails e (events_from (has_code h.variables) 0 (items nothing rest)) → Fails e (reading_of text d)
  unfolding reading_of
  changes-fail e h rest r f = rw r (fails_then e (events_from (has_code h.variables) 0 (items nothing rest)) _ f)

  pub inputs-fail : (e : StimFault) (h : Header) (rest : List Token) (es : List Event) → declaring d.scope no_header None (tokens_of text) ≡ Ok (h, rest)
      → events_from (has_code h.variables) 0 (items nothing rest) ≡ Ok es → Fails e (sources_below d h.variables (nets_of d)) → Fails e (reading_of text d)
  unfolding reading_of
  inputs-fail e h rest es r s f = rw (r, s) (fails_then e (sources_below d h.variables (nets_of d)) _ f)

  pub reads : (h : Header) (rest : List Token) (es : List Event) (found : List (Option Source)) → declaring d.scope no_header None (tokens_of text) ≡ Ok (h, rest)
      → events_from (has_code h.variables) 0 (items nothing rest) ≡ Ok es → sources_below d h.variables (nets_of d) ≡ Ok found → reading_of text d ≡ Ok (record { timescale = h.timescale; events = es; sources = found })
  unfolding reading_of
  reads h rest es found r s f = rw (r, s, f) refl

-- the changes of a function leave its values
module _ (f : ℕ → Logic) where
  one-change : (v : Logic) (b t : ℕ) → v ≡ just_before f b → latest v (change_at f b) t ≡ cond (nat_le b t) (f b) v
  unfolding latest
  one-change v b t e = go (same (f b) (just_before f b)) refl
    where
      go : (s : Bool) → same (f b) (just_before f b) ≡ s → latest v (cond s [] (record { time = b; value = f b } ∷ [])) t ≡ cond (nat_le b t) (f b) v
      go false h = refl
      go true h = rw (same_is (f b) (just_before f b) h, e) (elim (nat_le b t) as (λ c. just_before f b ≡ cond c (just_before f b) (just_before f b)) [ true ↦ refl | false ↦ refl ])

  -- a change that is later does nothing
  later-change : (v : Logic) (b t : ℕ) → t < b → latest v (change_at f b) t ≡ v
  unfolding latest
  later-change v b t h = elim (same (f b) (just_before f b)) as (λ s. latest v (cond s [] (record { time = b; value = f b } ∷ [])) t ≡ v) [ true ↦ refl | false ↦ (let late : nat_le b t ≡ false = grind (arith, nat_tests) in rw late refl) ]

  past-changes : (b t : ℕ) → b ≤ t → latest X (changes f b) t ≡ just_before f b
  unfolding changes
  past-changes zero t h = latest-none t
  past-changes (suc b) t h =
      let now : nat_le b t ≡ true = grind (arith, nat_tests) in
      latest-split X (changes f b) (change_at f b) t ∙ one-change (latest X (changes f b) t) b t (past-changes b t (omega arith)) ∙ rw now refl

  pub latest-changes : (b t : ℕ) → t < b → latest X (changes f b) t ≡ f t
  unfolding changes
  latest-changes zero t h = absurd (omega arith)
  latest-changes (suc b) t h = elim (cases_eq t b) [
    | inl e ↦ (let own : nat_le b b ≡ true = grind (arith, nat_tests) in
        rw e (latest-split X (changes f b) (change_at f b) b ∙ one-change (latest X (changes f b) b) b b (past-changes b b (omega arith)) ∙ rw own refl))
    | inr n ↦ (let l : t < b = omega arith in
        latest-split X (changes f b) (change_at f b) t ∙ later-change (latest X (changes f b) t) b t l ∙ latest-changes b t l)
  ]

  -- also past the end, where the function stays from the last time before it on
  pub latest-all : (b t : ℕ) → ((u : ℕ) → b ≤ u → f u ≡ f b) → latest X (changes f (b + 1)) t ≡ f t
  latest-all b t flat = go (nat_lt t (b + 1)) refl
    where
      go : (s : Bool) → nat_lt t (b + 1) ≡ s → latest X (changes f (b + 1)) t ≡ f t
      go true e = latest-changes (b + 1) t (grind (arith, nat_tests, e))
      go false e =
          let past : b + 1 ≤ t = grind (arith, nat_tests, e) in
          past-changes (b + 1) t past ∙ rw (add-one b) (sym (flat t (omega arith)))

-- the changes of a function are those of the values that they leave
its-changes : (f : ℕ → Logic) (b : ℕ) → changes f b ≡ changes (latest X (changes f b)) b
its-changes f b = sym (changes-agree (latest X (changes f b)) f b (latest-changes f b))

-- the sources of the nets
opened_up : (r : Result (List (Option Source)) StimFault) (c : Result (Option Source) StimFault) (found : List (Option Source)) → (r >>= λ before. (c >>= λ source. Ok (before ++ source ∷ []))) ≡ Ok found
    → (before : List (Option Source)) × (source : Option Source) × (r ≡ Ok before) × (c ≡ Ok source) × (before ++ source ∷ [] ≡ found)
opened_up (Ok before) (Ok source) found e = (before, source, refl, refl, cc)
opened_up (Ok before) (Err f) found e = cc
opened_up (Err f) c found e = cc

last-source : (before : List (Option Source)) (source : Option Source) (found : List (Option Source)) (n : ℕ) → before ++ source ∷ [] ≡ found → n ≡ length before → get_or found n None ≡ source
last-source before source found n is e = rw (← is, e) (get_or-append_seam before source [] None)

front-source : (before : List (Option Source)) (source : Option Source) (found : List (Option Source)) (n : ℕ) → before ++ source ∷ [] ≡ found → n < length before → get_or found n None ≡ get_or before n None
front-source before source found n is h = rw (← is) (get_or-append before (source ∷ []) None n h)

module _ (d : Design) (vs : List Variable) where
  found-length : (m : ℕ) (found : List (Option Source)) → sources_below d vs m ≡ Ok found → length found ≡ m
  unfolding sources_below
  found-length zero found e = let is : [] ≡ found = cc in ap length (sym is)
  found-length (suc m) found e =
      let (before, source, r, c, is) = opened_up (sources_below d vs m) (source_of_net d vs m) found e in
      ap length (sym is) ∙ omega (arith, length-append before (source ∷ []), found-length m before r)

  found-at : (m n : ℕ) (found : List (Option Source)) → sources_below d vs m ≡ Ok found → n < m → source_of_net d vs n ≡ Ok (get_or found n None)
  unfolding sources_below
  found-at zero n found e h = absurd (omega arith)
  found-at (suc m) n found e h =
      let (before, source, r, c, is) = opened_up (sources_below d vs m) (source_of_net d vs m) found e in
      elim (cases_eq n m) [
        | inl same_net ↦ ap (source_of_net d vs) same_net ∙ c ∙ ap (λ o. Ok o) (sym (last-source before source found n is (same_net ∙ sym (found-length m before r))))
        | inr other ↦ (let l : n < m = omega arith in
            found-at m n before r l ∙ ap (λ o. Ok o) (sym (front-source before source found n is (omega (arith, found-length m before r)))))
      ]

found-known : (vs : List Variable) (name code : List ℕ) → scalar_code vs name ≡ Some code → has_code vs code ≡ true
found-known [] name code e = cc
found-known (v ∷ vs) name code e = go (is_scalar_of name v) e (found-known vs name code)
  where
    go : (s : Bool) → option_map (λ (x : Variable). x.code) (cond s (Some v) (find (is_scalar_of name) vs)) ≡ Some code → (scalar_code vs name ≡ Some code → has_code vs code ≡ true) → (bytes_eq code v.code || has_code vs code) ≡ true
    go true h ih = rw (← same_Some v.code code h, (bytes_eq-Decides v.code v.code).1 refl) refl
    go false h ih = rw (ih h) (elim (bytes_eq code v.code) as (λ b. (b || true) ≡ true) [ true ↦ refl | false ↦ refl ])

-- the same of what the first vector gives of which a net is a bit
given-known : (bit : Bit) (vs : List Variable) (s : Source) → first_given (source_in bit) vs ≡ Some s → has_code vs s.code ≡ true
given-known bit [] s e = cc
given-known bit (v ∷ vs) s e = go (option_and_then (place_in bit) (vector_of v)) e (given-known bit vs s)
  where
    go : (o : Option ℕ) → option_or (option_map (λ p. record { code = v.code; place = p }) o) (first_given (source_in bit) vs) ≡ Some s → (first_given (source_in bit) vs ≡ Some s → has_code vs s.code ≡ true)
        → (bytes_eq s.code v.code || has_code vs s.code) ≡ true
    go (Some p) h ih = let own : v.code ≡ s.code = ap (λ (x : Source). x.code) (same_Some _ s h) in rw (← own, (bytes_eq-Decides v.code v.code).1 refl) refl
    go None h ih = rw (ih h) (elim (bytes_eq s.code v.code) as (λ b. (b || true) ≡ true) [ true ↦ refl | false ↦ refl ])

-- so the code of a source is that of a variable
sourced-known : (vs : List Variable) (name : List ℕ) (s : Source) → source_of vs name ≡ Some s → has_code vs s.code ≡ true
sourced-known vs name s e = go (scalar_code vs name) refl e
  where
    by : (bit : Option Bit) → option_and_then (λ b. first_given (source_in b) vs) bit ≡ Some s → has_code vs s.code ≡ true
    by None h = cc
    by (Some bit) h = given-known bit vs s h

    go : (o : Option (List ℕ)) → scalar_code vs name ≡ o → option_or (option_map (λ code. record { code = code; place = 0 }) o) (bit_source vs name) ≡ Some s → has_code vs s.code ≡ true
    go (Some code) x h = let own : code ≡ s.code = ap (λ (y : Source). y.code) (same_Some _ s h) in rw (← own) (found-known vs name code x)
    go None x h = by (bit_of name) h

-- a net has a source where it is an input, and then a variable has its code
sourced-by : (input : Bool) (vs : List Variable) (name : List ℕ) (net : ℕ) (cause : StimCause) (o : Option Source)
    → cond input (source_or_fault (source_of vs name) net cause >>= λ source. Ok (Some source)) (Ok None) ≡ Ok o → (is_some o ≡ input) × ((s : Source) → o ≡ Some s → has_code vs s.code ≡ true)
sourced-by false vs name net cause o e = let is : None ≡ o = cc in (rw (← is) refl, λ s h. cc)
sourced-by true vs name net cause o e = go (source_of vs name) refl e
  where
    go : (x : Option Source) → source_of vs name ≡ x → (source_or_fault x net cause >>= λ source. Ok (Some source)) ≡ Ok o → (is_some o ≡ true) × ((s : Source) → o ≡ Some s → has_code vs s.code ≡ true)
    go None h x = cc
    go (Some c) h x = let is : Some c ≡ o = cc in (rw (← is) refl, λ s k. sourced-known vs name s (h ∙ is ∙ k))

none_some : {A : Type 0} {x : A} → None ≡ Some x → ⊥
none_some e = cc

-- What is kept of the changes of these sources.
module _ (timescale : Timescale) (sources : List Source) (lists : List (Vec Change Global)) (list_of : List (Option ℕ)) (es : List Event) (now : ℕ) (found : List (Option Source))
    (kept : AreKept sources now es (lists_in lists)) (numbers : AreNumbers sources found list_of) where
  abbrev given : Given
  given = given_by timescale lists list_of

  wave_of : (o : Option Source) (number : Option ℕ) → IsNumber sources o number → unwrap_or (option_map (λ k. get_or (lists_in lists) k []) number) [] ≡ changes (value_of_source es o) (last_stamp + 1)
  wave_of None number e = rw e (sym (changes-none (value_of_source es None) (last_stamp + 1) (λ t. refl)))
  wave_of (Some s) (Some k) e = kept.changes k s e
  wave_of (Some s) None e = absurd (none_some e)

  wave-at : (n : ℕ) → changes_of given n ≡ changes (value_of_source es (get_or found n None)) (last_stamp + 1)
  wave-at n = ap (λ o. unwrap_or o []) (map-at (option_map (λ k. get_or (lists_in lists) k [])) list_of n None) ∙ wave_of (get_or found n None) (get_or list_of n None) (numbers.each n)

  flat-source : (o : Option Source) (u : ℕ) → last_stamp ≤ u → value_of_source es o u ≡ value_of_source es o last_stamp
  flat-source None u l = refl
  flat-source (Some s) u l = latest-flat X (changes_with s es) last_stamp u (up_to_with last_stamp s es (past-later now last_stamp es kept.within kept.past)) l

  pub value-is : (n t : ℕ) → value_at given n t ≡ value_of_source es (get_or found n None) t
  value-is n t = ap (λ cs. latest X cs t) (wave-at n) ∙ latest-all (value_of_source es (get_or found n None)) last_stamp t (flat-source (get_or found n None))

  some-number : (o : Option Source) (number : Option ℕ) → IsNumber sources o number → is_some number ≡ is_some o
  some-number None number e = ap is_some e
  some-number (Some s) (Some k) e = refl
  some-number (Some s) None e = absurd (none_some e)

  laid-by : (s : Option Source) (number : Option ℕ) → IsNumber sources s number → IfSome number (λ k. (k < length lists) × AreItsChanges (get_or (lists_in lists) k []))
  laid-by s None e = tt
  laid-by None (Some k) e = absurd (none_some (sym e))
  laid-by (Some s) (Some k) e = (
    omega (arith, slice_get-within sources k s e, kept.count, length-map lists (λ (v : Vec Change Global). v.items)),
    rw (kept.changes k s e) (its-changes (value_with s es) (last_stamp + 1)),
  )

  pub laid : AreLaidOut lists list_of
  laid n o l = rw (get_or_default list_of n o None l) (laid-by (get_or found n None) (get_or list_of n None) (numbers.each n))

-- What is kept of a text whose reading is this one.
module _ (d : Design) (h : Header) (sources : List Source) (lists : List (Vec Change Global)) (list_of : List (Option ℕ)) (es : List Event) (now : ℕ) (found : List (Option Source))
    (kept : AreKept sources now es (lists_in lists)) (numbers : AreNumbers sources found list_of)
    (read : sources_below d h.variables (nets_of d) ≡ Ok found) (drivers : length d.drivers ≡ nets_of d) where
  sourced : (n : ℕ) → n < nets_of d → (is_some (get_or found n None) ≡ is_input (driver_of d n)) × ((s : Source) → get_or found n None ≡ Some s → has_code h.variables s.code ≡ true)
  sourced n l = sourced-by (is_input (driver_of d n)) h.variables (name_of d n) n _ (get_or found n None) (found-at d h.variables (nets_of d) n found read l)

  abbrev held : Given
  held = given_by h.timescale lists list_of

  lengths : length list_of ≡ nets_of d
  lengths = numbers.count ∙ found-length d h.variables (nets_of d) found read

  fits-circuit : Fits held d
  fits-circuit = some-mapped (λ k. get_or (lists_in lists) k []) list_of ∙ fits-all list_of d.drivers (lengths ∙ sym drivers)
      (λ n l. (let below : n < nets_of d = omega (arith, lengths) in some-number h.timescale sources lists list_of es now found kept numbers (get_or found n None) (get_or list_of n None) (numbers.each n) ∙ (sourced n below).0))

  pub means : Means d (record { timescale = h.timescale; events = es; sources = found }) held
  means = record { timescale = refl; fits = fits-circuit; values = value-is h.timescale sources lists list_of es now found kept numbers; changes = wave-at h.timescale sources lists list_of es now found kept numbers }

-- from what the readers of the parts answered
pub declared-read : (d : Design) (text : List ℕ) (asked : Option (List ℕ)) (ts : List Token) (P : Result (Header × List Token) StimFault → Type 0) → asked ≡ d.scope → ts ≡ tokens_of text
    → P (declaring asked no_header None ts) → P (declaring d.scope no_header None (tokens_of text))
declared-read d text asked ts P ea et p = subst (λ (s : Option (List ℕ)). P (declaring s no_header None (tokens_of text))) ea (subst (λ (xs : List Token). P (declaring asked no_header None xs)) et p)

-- the codes that nets take are those of variables
some-sourced : (d : Design) (vs : List Variable) (m : ℕ) (found : List (Option Source)) → sources_below d vs m ≡ Ok found → (code : List ℕ) → is_used found code ≡ true → has_code vs code ≡ true
unfolding sources_below
some-sourced d vs zero found e code u =
    let is : [] ≡ found = cc in
    let bad : false ≡ true = ap (λ f. is_used f code) is ∙ u in
    cc
some-sourced d vs (suc m) found e code u =
    let (before, last, r, c, is) = opened_up (sources_below d vs m) (source_of_net d vs m) found e in
    let by : (is_used before code || option_map_or (is_of code) last false) ≡ true = sym (any-more (λ taken. option_map_or (is_of code) taken false) before last) ∙ ap (λ f. is_used f code) is ∙ u in
    go (is_used before code) last (some-sourced d vs m before r code) c by
  where
    go : (b : Bool) (last : Option Source) → (b ≡ true → has_code vs code ≡ true) → source_of_net d vs m ≡ Ok last → (b || option_map_or (is_of code) last false) ≡ true → has_code vs code ≡ true
    go true last earlier c by = earlier refl
    go false None earlier c by = cc
    go false (Some s) earlier c by = rw (sym (same_bytes s.code code by)) ((sourced-by (is_input (driver_of d m)) vs (name_of d m) m _ (Some s) c).1 s refl)

either-known : (a b : Bool) → (b ≡ true → a ≡ true) → (a || b) ≡ a
either-known true b f = refl
either-known false true f = sym (f refl)
either-known false false f = refl

-- the known codes are those of the variables
pub known-codes : (d : Design) (vs : List Variable) (known : KnownCodes) (found : List (Option Source)) → ((code : List ℕ) → knows known code ≡ (has_code vs code || is_used found code)) → sources_below d vs (nets_of d) ≡ Ok found
    → (code : List ℕ) → knows known code ≡ has_code vs code
known-codes d vs known found all read code = all code ∙ either-known (has_code vs code) (is_used found code) (some-sourced d vs (nets_of d) found read code)

-- the same where each source takes the code of a variable
pub declared-codes : (vs : List Variable) (known : KnownCodes) (takers : List (Option Source)) → ((code : List ℕ) → knows known code ≡ (has_code vs code || is_used takers code)) → AreDeclared vs takers
    → (code : List ℕ) → knows known code ≡ has_code vs code
declared-codes vs known takers all declared code = all code ∙ either-known (has_code vs code) (is_used takers code) (declared code)

-- also where no net has a source
pub unused-codes : (vs : List Variable) (known : KnownCodes) → ((code : List ℕ) → knows known code ≡ (has_code vs code || is_used [] code)) → (code : List ℕ) → knows known code ≡ has_code vs code
unused-codes vs known all code = all code ∙ either-known (has_code vs code) false (λ e. cc)

pub events-fail : (p q : List ℕ → Bool) (is : List Item) (e : StimFault) → ((code : List ℕ) → p code ≡ q code) → Fails e (events_from p 0 is) → Fails e (events_from q 0 is)
events-fail p q is e h f = rw (← events-same p q h 0 is) f

pub events-read : (p q : List ℕ → Bool) (is : List Item) (es : List Event) → ((code : List ℕ) → p code ≡ q code) → events_from p 0 is ≡ Ok es → events_from q 0 is ≡ Ok es
events-read p q is es h r = sym (events-same p q h 0 is) ∙ r
