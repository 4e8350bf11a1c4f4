-- No schedule text is refused for want of memory.
use Rattle.std.proofs.Common.{◌≡◌, ℕ, ◌+◌, Bool, true, false, cond, ◌&&◌, List, [], ◌∷◌, codes, Option, Some, None, Result, Ok, Err, IfErr}
use Rattle.std.specs.Str.{bytes_eq}
use Rattle.gate_netlist.specs.Lines.{lines_of}
use Rattle.gate_netlist.specs.Bench.{◌>>=◌}
use Rattle.text_numbers.specs.Numbers.{is_numeral}
use Rattle.warp_core.specs.declared.schedule.fault.ScheduleCause.{ScheduleCause}
use Rattle.warp_core.specs.declared.schedule.fault.ScheduleCause.TheVariants.{BadLine, NumberTooLarge, Memory}
use Rattle.warp_core.specs.Schedule.{number_of, deliver, advance, event_of, begins_comment, said, words_of, meaning_of, at_line, events_from, schedule_of, IsOfSchedule}

-- a cause that a line can have
abbrev IsOfLine : ScheduleCause → Type 0
IsOfLine cause = cause ≡ Memory → ⊥

if-of_line : {X : Type 0} (b : Bool) (x y : Result X ScheduleCause) → IfErr x IsOfLine → IfErr y IsOfLine → IfErr (cond b x y) IsOfLine
if-of_line true x y h k = h
if-of_line false x y h k = k

-- what is refused for its first step, or for what follows
then-refused : {A B E : Type 0} (P : E → Type 0) (r : Result A E) (f : A → Result B E) → IfErr r P → ((x : A) → IfErr (f x) P) → IfErr (r >>= f) P
then-refused P (Ok x) f h k = k x
then-refused P (Err e) f h k = h

bad_line : IsOfLine BadLine
bad_line e = cc

too_large : IsOfLine NumberTooLarge
too_large e = cc

deliver-of_line : (m : Option ℕ) → IfErr (deliver m) IsOfLine
deliver-of_line (Some m) = tt
deliver-of_line None = too_large

advance-of_line : (b s : Option ℕ) → IfErr (advance b s) IsOfLine
advance-of_line (Some b) (Some s) = tt
advance-of_line (Some b) None = too_large
advance-of_line None s = too_large

event_of-of_line : (w : List ℕ) (ws : List (List ℕ)) → IfErr (event_of w ws) IsOfLine
event_of-of_line w [] = if-of_line (bytes_eq w (codes "commit")) _ _ tt bad_line
event_of-of_line w (m ∷ []) = if-of_line (bytes_eq w (codes "deliver") && is_numeral m) _ _ (deliver-of_line (number_of m)) bad_line
event_of-of_line w (b ∷ s ∷ []) = if-of_line (bytes_eq w (codes "advance") && (is_numeral b && is_numeral s)) _ _ (advance-of_line (number_of b) (number_of s)) bad_line
event_of-of_line w (b ∷ s ∷ x ∷ ws) = bad_line

said-of_line : (ws : List (List ℕ)) → IfErr (said ws) IsOfLine
said-of_line [] = tt
said-of_line (w ∷ ws) = if-of_line (begins_comment w) _ _ tt (then-refused IsOfLine (event_of w ws) _ (event_of-of_line w ws) (λ event. tt))

meaning_of-of_line : (line : List ℕ) → IfErr (meaning_of line) IsOfLine
unfolding meaning_of
meaning_of-of_line line = said-of_line (words_of line)

at_line-of_schedule : {X : Type 0} (line : ℕ) (r : Result X ScheduleCause) → IfErr r IsOfLine → IfErr (at_line line r) IsOfSchedule
at_line-of_schedule line (Ok x) h = tt
at_line-of_schedule line (Err cause) h = h

events_from-of_schedule : (line : ℕ) (ls : List (List ℕ)) → IfErr (events_from line ls) IsOfSchedule
unfolding events_from
events_from-of_schedule line [] = tt
events_from-of_schedule line (l ∷ ls) =
    then-refused IsOfSchedule (at_line line (meaning_of l)) _ (at_line-of_schedule line (meaning_of l) (meaning_of-of_line l))
    (λ event. then-refused IsOfSchedule (events_from (line + 1) ls) _ (events_from-of_schedule (line + 1) ls) (λ events. tt))

pub schedule_of-of_schedule : (text : List ℕ) → IfErr (schedule_of text) IsOfSchedule
schedule_of-of_schedule text = events_from-of_schedule 1 (lines_of text)
