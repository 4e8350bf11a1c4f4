-- The changes of a stimulus, after its declarations.
use Rattle.std.specs.Prelude.{ℕ, ◌-◌, Bool, not, ◌&&◌, ◌||◌, nat_lt, nat_eq, if◌then◌else◌, List, [], ◌∷◌, ◌++◌, length, take, drop, get_or, filter, map, codes, Option, Some, None, is_some, unwrap_or, Result, Ok, Err}
use Rattle.std.specs.List.{list_all, starts_with}
use Rattle.std.specs.Str.{bytes_eq}
use Rattle.gate_values.specs.declared.logic.Logic.{Logic}
use Rattle.gate_values.specs.declared.logic.Logic.TheVariants as logic
use Rattle.gate_values.specs.declared.logic.Change.{Change}
use Rattle.gate_values.specs.Changes.{latest}
use Rattle.gate_vcd.specs.declared.fault.StimFault.{StimFault}
use Rattle.gate_vcd.specs.declared.fault.StimCause.{StimCause}
use Rattle.gate_vcd.specs.declared.fault.StimCause.TheVariants as causes
use Rattle.gate_vcd.specs.declared.form.Form.{Form}
use Rattle.gate_vcd.specs.declared.form.Form.TheVariants as forms
use Rattle.gate_vcd.specs.Tokens.{Token, is_end, fault_at}
use Rattle.gate_netlist.specs.Bench.{◌>>=◌}
use Rattle.text_numbers.specs.Numbers.{is_numeral, number}
use Rattle.gate_stimulus.specs.Given.{last_stamp}

-- the value that a byte writes
abbrev pub value_of : ℕ → Option Logic
value_of b =
    if nat_eq b 48 then Some logic.Zero
    else if nat_eq b 49 then Some logic.One
    else if nat_eq b 120 || nat_eq b 88 then Some logic.X
    else if nat_eq b 122 || nat_eq b 90 then Some logic.Z
    else None

-- one or more digits that write values
abbrev pub are_values : List ℕ → Bool
are_values digits = not (nat_eq (length digits) 0) && list_all (λ b. is_some (value_of b)) digits

-- the words that part the changes and are read over
abbrev pub is_mark : List ℕ → Bool
is_mark text =
    bytes_eq text (codes "$dumpvars") || bytes_eq text (codes "$dumpall") || bytes_eq text (codes "$dumpon")
    || bytes_eq text (codes "$dumpoff") || is_end text

-- what a token is, by its first byte and the bytes after it
abbrev pub form_by : ℕ → List ℕ → Form
form_by first rest =
    if nat_eq first 35 then (if is_numeral rest then forms.Stamp else forms.Bad)
    else if nat_eq first 98 || nat_eq first 66 then (if are_values rest then forms.Vector else forms.Bad)
    else if nat_eq first 114 || nat_eq first 82 then (if nat_eq (length rest) 0 then forms.Bad else forms.Unvalued)
    else if nat_eq first 115 || nat_eq first 83 then forms.Unvalued
    else if not (nat_eq (length rest) 0) && is_some (value_of first) then forms.Scalar
    else forms.Bad

abbrev pub form_of : List ℕ → Form
form_of text =
    if starts_with nat_eq text (codes "$") then (if is_mark text then forms.Mark else forms.Command)
    else form_by (get_or text 0 0) (drop 1 text)

-- What stands among the changes: a stamp; a change of a code to digits, or one that is read over, by its
-- first token; something that may not stand there.
pub data Item : Type 0 where
  stamp : Token → Item
  change : Token → List ℕ → Option (List ℕ) → Item
  wrong : Token → StimCause → Item

-- What is awaited: nothing; the code of a change; the end of a command.
pub data Awaited : Type 0 where
  nothing : Awaited
  code_of : Token → Option (List ℕ) → Awaited
  end_of : Token → Awaited

-- a token by its form, and the items after it by what is awaited then
abbrev pub item_by : Token → Form → (Awaited → List Item) → List Item
item_by t forms.Stamp next = stamp t ∷ next nothing
item_by t forms.Scalar next = change t (drop 1 t.text) (Some (take 1 t.text)) ∷ next nothing
item_by t forms.Vector next = next (code_of t (Some (drop 1 t.text)))
item_by t forms.Unvalued next = next (code_of t None)
item_by t forms.Mark next = next nothing
item_by t forms.Command next = next (end_of t)
item_by t forms.Bad next = wrong t causes.BadToken ∷ []

-- the items of these tokens
unfoldable pub items : Awaited → List Token → List Item
items nothing [] = []
items (code_of first digits) [] = wrong first causes.BadToken ∷ []
items (end_of first) [] = wrong first causes.UnclosedCommand ∷ []
items nothing (t ∷ ts) = item_by t (form_of t.text) (λ awaited. items awaited ts)
items (code_of first digits) (t ∷ ts) = change first t.text digits ∷ items nothing ts
items (end_of first) (t ∷ ts) = items (if is_end t.text then nothing else end_of first) ts

-- the digits that a code changes to, and when
pub record Event : Type 0 where
  pub time : ℕ
  pub code : List ℕ
  pub digits : List ℕ

-- the time of a stamp after this time
abbrev pub stamped : Token → ℕ → Result ℕ StimFault
stamped t now =
    if nat_lt last_stamp (number (drop 1 t.text)) then Err (fault_at t causes.StampTooLarge)
    else if nat_lt (number (drop 1 t.text)) now then Err (fault_at t causes.StampFalls)
    else Ok (number (drop 1 t.text))

-- what a change is at a time
abbrev pub event_at : ℕ → List ℕ → Option (List ℕ) → List Event
event_at now code None = []
event_at now code (Some digits) = record { time = now; code = code; digits = digits } ∷ []

-- the changes that these items make from a time on, or their first fault
unfoldable pub events_from : (List ℕ → Bool) → ℕ → List Item → Result (List Event) StimFault
events_from is_known now [] = Ok []
events_from is_known now (stamp t ∷ is) = stamped t now >>= λ next. events_from is_known next is
events_from is_known now (change t code digits ∷ is) =
    if is_known code then (events_from is_known now is >>= λ es. Ok (event_at now code digits ++ es))
    else Err (fault_at t causes.UnknownCode)
events_from is_known now (wrong t cause ∷ is) = Err (fault_at t cause)

-- the time of the last stamp among these items, or the time before them
abbrev pub last_time : ℕ → List Item → ℕ
last_time now [] = now
last_time now (stamp t ∷ is) = last_time (number (drop 1 t.text)) is
last_time now (change t code digits ∷ is) = last_time now is
last_time now (wrong t cause ∷ is) = last_time now is

-- the value that a digit writes
abbrev pub digit : ℕ → Logic
digit b = unwrap_or (value_of b) logic.X

-- what short digits are extended by on the left, whose leftmost one has this value
abbrev pub extension : Logic → Logic
extension logic.Zero = logic.Zero
extension logic.One = logic.Zero
extension logic.X = logic.X
extension logic.Z = logic.Z

-- the value of all places past the end of digits
abbrev pub past_end : List ℕ → Logic
past_end digits = extension (digit (get_or digits 0 0))

-- The value at a place of digits, counted from the right and from 0: that of the digit there, or, where the
-- digits end before it, what they are extended by.
abbrev pub value_at_place : ℕ → List ℕ → Logic
value_at_place place digits =
    if nat_lt place (length digits) then digit (get_or digits (length digits - 1 - place) 0)
    else past_end digits

-- Where a net takes its values from: the changes of a code, and in their digits a place, counted from the
-- right and from 0.
pub record Source : Type 0 where
  pub code : List ℕ
  pub place : ℕ

abbrev pub change_of : ℕ → Event → Change
change_of place e = record { time = e.time; value = value_at_place place e.digits }

-- the changes that a source gives, in the order of the text
abbrev pub changes_with : Source → List Event → List Change
changes_with source es = map (change_of source.place) (filter (λ e. bytes_eq source.code e.code) es)

-- the value that a source gives at a time: that of the last change of its code that isn't later, x before the first
abbrev pub value_with : Source → List Event → ℕ → Logic
value_with source es t = latest logic.X (changes_with source es) t
