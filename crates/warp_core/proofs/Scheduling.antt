-- Lines of a schedule are read one after the other.
use Rattle.std.proofs.Common.{◌≡◌, ℕ, ◌+◌, List, [], ◌∷◌, ◌++◌, Option, Result, Ok, Err, refl, ap, sym, ◌∙◌, append_assoc, append-nil}
use Rattle.std.specs.Prelude.{option_to_list}
use Rattle.gate_netlist.specs.Bench.{◌>>=◌}
use Rattle.warp_core.specs.declared.event.Event.{Event}
use Rattle.warp_core.specs.declared.schedule.fault.ScheduleCause.{ScheduleCause}
use Rattle.warp_core.specs.declared.schedule.fault.ScheduleFault.{ScheduleFault}
use Rattle.warp_core.specs.Schedule.{meaning_of, events_from}

-- the events of the lines before, and those of what is still read
abbrev pub after : List Event → Result (List Event) ScheduleFault → Result (List Event) ScheduleFault
after earlier read = read >>= λ events. Ok (earlier ++ events)

regrouped : (earlier : List Event) (event : Option Event) (read : Result (List Event) ScheduleFault)
    → after earlier (read >>= λ events. Ok (option_to_list event ++ events)) ≡ after (earlier ++ option_to_list event) read
regrouped earlier event (Ok events) = ap Ok (sym (append_assoc earlier (option_to_list event) events))
regrouped earlier event (Err e) = refl

pub all_of_text : (read : Result (List Event) ScheduleFault) → after [] read ≡ read
all_of_text (Ok events) = refl
all_of_text (Err e) = refl

pub line_read : (earlier : List Event) (line : ℕ) (l : List ℕ) (ls : List (List ℕ)) (event : Option Event) (total : Result (List Event) ScheduleFault) → meaning_of l ≡ Ok event
    → after earlier (events_from line (l ∷ ls)) ≡ total → after (earlier ++ option_to_list event) (events_from (line + 1) ls) ≡ total
unfolding events_from
line_read earlier line l ls event total e h = sym (regrouped earlier event (events_from (line + 1) ls)) ∙ rw e at h

pub line_refused : (earlier : List Event) (line : ℕ) (l : List ℕ) (ls : List (List ℕ)) (cause : ScheduleCause) (total : Result (List Event) ScheduleFault) → meaning_of l ≡ Err cause
    → after earlier (events_from line (l ∷ ls)) ≡ total → total ≡ Err (record { line = line; cause = cause })
unfolding events_from
line_refused earlier line l ls cause total e h = sym h ∙ rw e refl

pub all_read : (earlier : List Event) (line : ℕ) (total : Result (List Event) ScheduleFault) → after earlier (events_from line []) ≡ total → total ≡ Ok earlier
unfolding events_from
all_read earlier line total h = sym h ∙ ap Ok (append-nil earlier)
