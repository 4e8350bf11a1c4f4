-- The changes of a stimulus, an item at a time.
use Rattle.std.proofs.Common.{◌≡◌, inl, inr, ℕ, ◌≤◌, Bool, true, false, cond, nat_lt, List, [], ◌∷◌, ◌++◌, length, drop, replicate, Option, Some, Result, Ok, Err, refl, ap, sym, ◌∙◌, arith}
use Rattle.std.proofs.lemmas.Bool.Decides.{nat_tests}
use Rattle.std.proofs.lemmas.Grind.{common_steps}
use Rattle.std.proofs.lemmas.List.{append_assoc, length-map}
use Rattle.std.proofs.lemmas.Option.{same_Some}
use Rattle.gate_values.specs.declared.logic.Change.{Change}
use Rattle.gate_vcd.specs.declared.fault.StimFault.{StimFault}
use Rattle.gate_vcd.specs.declared.fault.StimCause.TheVariants as causes
use Rattle.gate_vcd.specs.declared.known.KnownCodes.{KnownCodes}
use Rattle.gate_vcd.specs.Tokens.{Token, fault_at}
use Rattle.text_numbers.specs.Numbers.{number}
use Rattle.gate_netlist.specs.Bench.{◌>>=◌}
use Rattle.gate_vcd.specs.Reading.{Fails}
use Rattle.gate_vcd.specs.Inner.Reading.{Reads}
use Rattle.gate_vcd.specs.Changes.{Item, stamp, change, wrong, Event, events_from, event_at, last_time, stamped}
use Rattle.gate_stimulus.specs.Given.{last_stamp}
use Rattle.gate_vcd.specs.Inner.Items.{AreHeld, AreTaken, IsTaken, Taken, TakesItem, fault_of}
use Rattle.gate_vcd.specs.Inner.Known.{knows, sources_in}
use Rattle.gate_vcd.specs.Shown.Known.{source}
use Rattle.gate_vcd.proofs.DeclarationLaws.{fails_then}
use Rattle.gate_vcd.proofs.Keeping.{past-later}
use Rattle.gate_vcd.proofs.Holding.{held-none}

events-nil : (es : List Event) → es ++ [] ≡ es
events-nil es = grind (arith, common_steps)

abbrev chosen : Bool → Bool → ℕ → StimFault → StimFault → Result ℕ StimFault
chosen a b n large falls = cond a (Err large) (cond b (Err falls) (Ok n))

stamp_by : (a b : Bool) (n now next : ℕ) (large falls : StimFault) → nat_lt last_stamp n ≡ a → nat_lt n now ≡ b → chosen a b n large falls ≡ Ok next → (now ≤ next) × (next ≤ last_stamp)
stamp_by true b n now next large falls x y e = cc
stamp_by false true n now next large falls x y e = cc
stamp_by false false n now next large falls x y e =
    let is : n ≡ next = cc in
    let low : now ≤ n = grind (arith, nat_tests, y) in
    let high : n ≤ last_stamp = grind (arith, nat_tests, x) in
    (omega arith, omega arith)

stamp_after : (n now next : ℕ) (large falls : StimFault) → chosen (nat_lt last_stamp n) (nat_lt n now) n large falls ≡ Ok next → (now ≤ next) × (next ≤ last_stamp)
stamp_after n now next large falls e = stamp_by (nat_lt last_stamp n) (nat_lt n now) n now next large falls refl refl e

stamped_by : (a b : Bool) (n next : ℕ) (large falls : StimFault) → chosen a b n large falls ≡ Ok next → n ≡ next
stamped_by true b n next large falls e = cc
stamped_by false true n next large falls e = cc
stamped_by false false n next large falls e = cc

stamped_is : (n now next : ℕ) (large falls : StimFault) → chosen (nat_lt last_stamp n) (nat_lt n now) n large falls ≡ Ok next → n ≡ next
stamped_is n now next large falls e = stamped_by (nat_lt last_stamp n) (nat_lt n now) n next large falls e

bind-unit : (r : Result (List Event) StimFault) → r ≡ (r >>= λ later. Ok later)
bind-unit (Ok x) = refl
bind-unit (Err e) = refl

bind-more : (es more : List Event) (r : Result (List Event) StimFault) → ((r >>= λ later. Ok (more ++ later)) >>= λ later. Ok (es ++ later)) ≡ (r >>= λ later. Ok ((es ++ more) ++ later))
bind-more es more (Ok x) = ap (λ ys. Ok ys) (sym (append_assoc es more x))
bind-more es more (Err e) = refl

-- a stamp
pub takes-stamp : (known : KnownCodes) (now : ℕ) (t : Token) (others : List Item) (es : List Event) (taken : Taken) (r : Result ℕ StimFault) → Reads (λ n. n) r (stamped t now) → AreHeld (sources_in known) now es taken → TakesItem known now (stamp t) others es taken r
unfolding events_from
takes-stamp known now t others es taken (Ok next) g kept =
    let after = stamp_after (number (drop 1 t.text)) now next (fault_at t causes.StampTooLarge) (fault_at t causes.StampFalls) g in (
      [],
      record {
        lists = record { count = kept.lists.count; past = rw (events-nil es) (past-later now next es after.0 kept.lists.past); within = after.1; changes = rw (events-nil es) kept.lists.changes };
        given = rw (events-nil es) kept.given;
      },
      rw g (bind-unit (events_from (knows known) next others)),
      ap (λ n. last_time n others) (stamped_is (number (drop 1 t.text)) now next (fault_at t causes.StampTooLarge) (fault_at t causes.StampFalls) g),
    )
takes-stamp known now t others es taken (Err e) g kept = fails_then e (stamped t now) (λ next. events_from (knows known) next others) g

-- a change
pub takes-change : (known : KnownCodes) (now : ℕ) (t : Token) (code : List ℕ) (digits : Option (List ℕ)) (others : List Item) (es : List Event) (taken : Taken) → IsTaken known now t code digits es taken (Ok tt)
    → TakesItem known now (change t code digits) others es taken (Ok now)
unfolding events_from
takes-change known now t code digits others es taken (has, kept) = (event_at now code digits, kept, rw has refl, refl)

pub refuses-change : (known : KnownCodes) (now : ℕ) (t : Token) (code : List ℕ) (digits : Option (List ℕ)) (others : List Item) (es : List Event) (taken : Taken) (e : StimFault) → IsTaken known now t code digits es taken (Err e)
    → TakesItem known now (change t code digits) others es taken (Err e)
unfolding events_from
refuses-change known now t code digits others es taken e (inl m) = inl m
refuses-change known now t code digits others es taken e (inr (unknown, is)) = inr (rw (unknown, is) refl)

-- The changes so far are kept, and the others are those of these items, up to the last stamp.
abbrev pub GoesOn : KnownCodes → ℕ → Taken → List Item → Result (List Event) StimFault → ℕ → Type 0
GoesOn known now taken is reading last = (es : List Event) × AreHeld (sources_in known) now es taken × (reading ≡ (events_from (knows known) now is >>= λ later. Ok (es ++ later))) × (last ≡ last_time now is)

pub goes-start : (known : KnownCodes) (n : ℕ) (taken : Taken) (is : List Item) → n ≡ length known.used.items → taken.lists ≡ replicate {A = List Change} n [] → taken.given ≡ replicate {A = List ℕ} n [] → GoesOn known 0 taken is (events_from (knows known) 0 is) (last_time 0 is)
goes-start known n taken is e el eg = ([], held-none (sources_in known) n taken (e ∙ sym (length-map known.used.items source)) el eg, bind-unit (events_from (knows known) 0 is), refl)

pub goes-on : (known : KnownCodes) (now next : ℕ) (taken new : Taken) (item : Item) (is others : List Item) (reading : Result (List Event) StimFault) (last : ℕ) → is ≡ item ∷ others
    → GoesOn known now taken is reading last → ((es : List Event) → AreHeld (sources_in known) now es taken → TakesItem known now item others es new (Ok next)) → GoesOn known next new others reading last
goes-on known now next taken new item is others reading last e (es, kept, read, ends) take =
    let (more, now_kept, makes, later) = take es kept in
    (es ++ more, now_kept, read ∙ rw (e, makes) (bind-more es more (events_from (knows known) next others)), ends ∙ ap (last_time now) e ∙ later)

pub goes-wrong : (known : KnownCodes) (now : ℕ) (taken : Taken) (is : List Item) (e : StimFault) (reading : Result (List Event) StimFault) (last : ℕ) → fault_of is ≡ Some e → GoesOn known now taken is reading last → Fails e reading
unfolding events_from
goes-wrong known now taken [] e reading last h g = cc
goes-wrong known now taken (stamp t ∷ is) e reading last h g = cc
goes-wrong known now taken (change t code digits ∷ is) e reading last h g = cc
goes-wrong known now taken (wrong t cause ∷ is) e reading last h (es, kept, read, ends) = let is_e : fault_at t cause ≡ e = same_Some _ _ h in inr (read ∙ ap Err is_e)

pub goes-out : (known : KnownCodes) (now : ℕ) (taken : Taken) (is : List Item) (reading : Result (List Event) StimFault) (last : ℕ) → is ≡ [] → GoesOn known now taken is reading last → AreTaken (sources_in known) taken.lists now reading × (now ≡ last)
unfolding events_from
goes-out known now taken is reading last e (es, kept, read, ends) = ((es, read ∙ rw (e, events-nil es) refl, kept.lists), sym (ends ∙ ap (last_time now) e))
