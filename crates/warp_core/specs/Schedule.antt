-- What a schedule text says.
use Rattle.std.specs.Prelude.{◌≡◌, ℕ, ◌+◌, Bool, true, false, not, ◌==◌, ◌||◌, ◌&&◌, if◌then◌else◌, List, [], ◌∷◌, ◌++◌, Option, Some, None, option_to_list, Result, Ok, Err, codes}
use Rattle.std.specs.Str.{bytes_eq}
use Rattle.gate_netlist.specs.Lines.{lines_of}
use Rattle.gate_netlist.specs.Bench.{◌>>=◌}
use Rattle.text_numbers.specs.Numbers.{is_numeral, number_up_to}
use Rattle.warp_core.specs.declared.event.Event.{Event}
use Rattle.warp_core.specs.declared.event.Event.TheVariants.{Deliver, Advance, Commit}
use Rattle.warp_core.specs.declared.schedule.fault.ScheduleCause.{ScheduleCause}
use Rattle.warp_core.specs.declared.schedule.fault.ScheduleCause.TheVariants.{BadLine, NumberTooLarge, Memory}
use Rattle.warp_core.specs.declared.schedule.fault.ScheduleFault.{ScheduleFault}

-- ---- words

-- a blank or a tab
abbrev pub is_blank : ℕ → Bool
is_blank b = b == 32 || b == 9

abbrev pub begins_with_word : List ℕ → Bool
begins_with_word [] = false
begins_with_word (b ∷ bs) = not (is_blank b)

-- a byte before some words: it goes to the front of the first one, if that follows at once
abbrev pub with_byte : ℕ → Bool → List (List ℕ) → List (List ℕ)
with_byte b true (w ∷ ws) = (b ∷ w) ∷ ws
with_byte b _ ws = (b ∷ []) ∷ ws

-- Each longest run of bytes that are no blanks is a word.
unfoldable pub words_of : List ℕ → List (List ℕ)
words_of [] = []
words_of (b ∷ bs) = if is_blank b then words_of bs else with_byte b (begins_with_word bs) (words_of bs)

-- ---- a line

-- the number that digits write, where it isn't too large
abbrev pub number_of : List ℕ → Option ℕ
number_of digits = number_up_to 4294967295 digits

abbrev pub deliver : Option ℕ → Result Event ScheduleCause
deliver (Some message) = Ok (Deliver message)
deliver None = Err NumberTooLarge

abbrev pub advance : Option ℕ → Option ℕ → Result Event ScheduleCause
advance (Some block) (Some steps) = Ok (Advance block steps)
advance _ _ = Err NumberTooLarge

-- `commit`, `deliver M` or `advance B S`
abbrev pub event_of : List ℕ → List (List ℕ) → Result Event ScheduleCause
event_of w [] = if bytes_eq w (codes "commit") then Ok Commit else Err BadLine
event_of w (m ∷ []) = if bytes_eq w (codes "deliver") && is_numeral m then deliver (number_of m) else Err BadLine
event_of w (b ∷ s ∷ []) = if bytes_eq w (codes "advance") && (is_numeral b && is_numeral s) then advance (number_of b) (number_of s) else Err BadLine
event_of w _ = Err BadLine

abbrev pub begins_comment : List ℕ → Bool
begins_comment [] = false
begins_comment (b ∷ bs) = b == 35

-- the event that words say; none of no words, and of a comment, whose first word begins with `#`
abbrev pub said : List (List ℕ) → Result (Option Event) ScheduleCause
said [] = Ok None
said (w ∷ ws) = if begins_comment w then Ok None else (event_of w ws >>= λ event. Ok (Some event))

-- what a line says
unfoldable pub meaning_of : List ℕ → Result (Option Event) ScheduleCause
meaning_of line = said (words_of line)

-- ---- a text

abbrev pub at_line : {X : Type 0} → ℕ → Result X ScheduleCause → Result X ScheduleFault
at_line line (Ok x) = Ok x
at_line line (Err cause) = Err (record { line = line; cause = cause })

-- the events of lines, the first of them having this number; the first faulty one is refused
unfoldable pub events_from : ℕ → List (List ℕ) → Result (List Event) ScheduleFault
events_from line [] = Ok []
events_from line (l ∷ ls) = do
  event ← at_line line (meaning_of l)
  events ← events_from (line + 1) ls
  Ok (option_to_list event ++ events)

-- what a schedule text says
abbrev pub schedule_of : List ℕ → Result (List Event) ScheduleFault
schedule_of text = events_from 1 (lines_of text)

-- ---- want of memory

-- it has no line
abbrev pub out_of_memory : ScheduleFault
out_of_memory = record { line = 0; cause = Memory }

-- a fault of a schedule text, and not want of memory
abbrev pub IsOfSchedule : ScheduleFault → Type 0
IsOfSchedule fault = fault.cause ≡ Memory → ⊥

-- ---- names of the causes

abbrev pub schedule_cause_number : ScheduleCause → ℕ
schedule_cause_number BadLine = 1
schedule_cause_number NumberTooLarge = 2
schedule_cause_number Memory = 3

abbrev pub schedule_cause_name : ScheduleCause → List ℕ
schedule_cause_name BadLine = codes "BadLine"
schedule_cause_name NumberTooLarge = codes "NumberTooLarge"
schedule_cause_name Memory = codes "Memory"
