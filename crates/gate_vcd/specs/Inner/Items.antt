-- What a reader of changes answers, and what it keeps.
use Rattle.std.specs.Prelude.{◌≡◌, ◌⊎◌, ℕ, ◌+◌, ◌≤◌, Bool, true, false, not, ◌&&◌, ◌||◌, nat_le, nat_lt, if◌then◌else◌, List, [], ◌∷◌, ◌++◌, length, get_or, slice_get, Option, Some, None, Result, Ok, Err}
use Rattle.std.specs.List.{AllByRecursion}
use Rattle.std.specs.Str.{bytes_eq}
use Rattle.gate_values.specs.declared.logic.Change.{Change}
use Rattle.gate_values.specs.Changes.{changes, same}
use Rattle.gate_vcd.specs.declared.fault.StimFault.{StimFault}
use Rattle.gate_vcd.specs.declared.fault.StimCause.TheVariants as causes
use Rattle.gate_vcd.specs.Faults.{out_of_memory}
use Rattle.gate_netlist.specs.Bench.{◌>>=◌}
use Rattle.gate_vcd.specs.Reading.{Fails}
use Rattle.gate_vcd.specs.declared.known.KnownCodes.{KnownCodes}
use Rattle.gate_vcd.specs.declared.items.Item.{Item as Read}
use Rattle.gate_vcd.specs.declared.items.Item.TheVariants as read
use Rattle.gate_vcd.specs.Tokens.{Token, fault_at}
use Rattle.gate_vcd.specs.Inner.Words.{bytes_of}
use Rattle.gate_vcd.specs.Shown.Words.{token_of, texts}
use Rattle.gate_vcd.specs.Changes.{Item, stamp, change, wrong, nothing, items, Event, Source, event_at, events_from, last_time, value_with, past_end, value_at_place}
use Rattle.gate_stimulus.specs.Given.{last_stamp}
use Rattle.gate_vcd.specs.Inner.Known.{knows, last_below, sources_in}
use Rattle.gate_vcd.specs.Shown.Known.{is_of}
use Rattle.gate_vcd.specs.Inner.Settled.{settled}
use Rattle.gate_vcd.specs.declared.changes.Taken.{Taken as Held}

-- an item, without where it lies in memory
abbrev pub item_of : Read → Item
item_of (read.Stamp word) = stamp (token_of word)
item_of (read.Change first code digits) = change (token_of first) code.now (bytes_of digits)

-- the fault of items that begin with one that may not stand there
abbrev pub fault_of : List Item → Option StimFault
fault_of (wrong t cause ∷ is) = Some (fault_at t cause)
fault_of is = None

-- the first of these items, before the items of the tokens that are left; none where there is none
abbrev pub IsNext : List Token → Result (Option Read) StimFault → List Item → Type 0
IsNext rest (Ok None) is = is ≡ []
IsNext rest (Ok (Some item)) is = is ≡ item_of item ∷ items nothing rest
IsNext rest (Err e) is = fault_of is ≡ Some e

-- the items after something that is awaited, which a reader has passed over
abbrev pub IsPassed : List Token → Result (Unit {0}) StimFault → List Item → Type 0
IsPassed rest (Ok _) is = is ≡ items nothing rest
IsPassed rest (Err e) is = fault_of is ≡ Some e

-- For each source there is a list of the changes that its values make, as far as the events are read.
pub record AreKept (sources : List Source) (now : ℕ) (es : List Event) (lists : List (List Change)) : Type 0 where
  pub count : length lists ≡ length sources
  pub past : AllByRecursion (λ (e : Event). e.time ≤ now) es
  pub within : now ≤ last_stamp
  pub changes : (k : ℕ) (source : Source) → slice_get sources k ≡ Some source → get_or lists k [] ≡ changes (value_with source es) (last_stamp + 1)

-- A place may have another value under new digits than under those before: it stands in one of them, or what
-- they are extended by differs.
unfoldable pub reaches : List ℕ → List ℕ → ℕ → Bool
reaches had digits place = (nat_lt place (length had) || nat_lt place (length digits)) || not (same (past_end had) (past_end digits))

-- a place has another value under new digits than under those before
abbrev pub differs : List ℕ → List ℕ → ℕ → Bool
differs had digits place = not (same (value_at_place place had) (value_at_place place digits))

-- Digits make a change at a place: a single one always does, which may be to the value that stands there, and of others
-- one that gives the place another value than it had.
unfoldable pub makes : List ℕ → List ℕ → ℕ → Bool
makes had digits place = nat_le (length digits) 1 || differs had digits place

-- a source of the code to which digits make a change, which they reach, after those that it had
abbrev pub moves : List ℕ → List ℕ → List ℕ → Source → Bool
moves code had digits source = is_of code source && (reaches had digits source.place && makes had digits source.place)

-- the same lists, each with a change of the digits where they make one
pub record AreSettled (sources : List Source) (now : ℕ) (code had digits : List ℕ) (old new : List (List Change)) : Type 0 where
  pub count : length new ≡ length old
  pub changes : (k : ℕ) (source : Source) → slice_get sources k ≡ Some source
      → get_or new k [] ≡ (if moves code had digits source then settled (get_or old k []) (record { time = now; value = value_at_place source.place digits }) else get_or old k [])

-- the digits that a code has after events, from those before
abbrev pub given_after : List ℕ → List ℕ → List Event → List ℕ
given_after code had [] = had
given_after code had (e ∷ es) = given_after code (if bytes_eq code e.code then e.digits else had) es

-- the last source of a code
abbrev pub last_of : List Source → List ℕ → Option ℕ
last_of sources code = last_below (is_of code) sources (length sources)

-- At the last source of each code the digits are kept that the code has.
pub record AreGiven (sources : List Source) (es : List Event) (given : List (List ℕ)) : Type 0 where
  pub count : length given ≡ length sources
  pub digits : (code : List ℕ) (k : ℕ) → last_of sources code ≡ Some k → get_or given k [] ≡ given_after code [] es

-- what is kept of the changes, without where it lies in memory
pub record Taken : Type 0 where
  pub lists : List (List Change)
  pub given : List (List ℕ)

abbrev pub taken_in : Held → Taken
taken_in taken = record { lists = taken.lists; given = texts taken.given.items }

-- what is kept is that of these events
pub record AreHeld (sources : List Source) (now : ℕ) (es : List Event) (taken : Taken) : Type 0 where
  pub lists : AreKept sources now es taken.lists
  pub given : AreGiven sources es taken.given

-- a change of a code is taken in, or its code isn't known
abbrev pub IsTaken : KnownCodes → ℕ → Token → List ℕ → Option (List ℕ) → List Event → Taken → Result (Unit {0}) StimFault → Type 0
IsTaken known now first code digits es new (Ok _) = (knows known code ≡ true) × AreHeld (sources_in known) now (es ++ event_at now code digits) new
IsTaken known now first code digits es new (Err e) = (e ≡ out_of_memory) ⊎ ((knows known code ≡ false) × (e ≡ fault_at first causes.UnknownCode))

-- the changes that were read are kept, up to the last stamp
abbrev pub AreTaken : List Source → List (List Change) → ℕ → Result (List Event) StimFault → Type 0
AreTaken sources lists last reading = (es : List Event) × (reading ≡ Ok es) × AreKept sources last es lists

-- An item is taken in: the changes that it makes, and the time after it, from which the other items go on.
abbrev pub TakesItem : KnownCodes → ℕ → Item → List Item → List Event → Taken → Result ℕ StimFault → Type 0
TakesItem known now item others es new (Ok next) =
    (more : List Event) × AreHeld (sources_in known) next (es ++ more) new
    × (events_from (knows known) now (item ∷ others) ≡ (events_from (knows known) next others >>= λ later. Ok (more ++ later)))
    × (last_time now (item ∷ others) ≡ last_time next others)
TakesItem known now item others es new (Err e) = Fails e (events_from (knows known) now (item ∷ others))
