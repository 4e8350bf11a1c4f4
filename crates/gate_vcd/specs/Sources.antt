-- What the changes of a text give to takers with numbers.
use Rattle.std.specs.Prelude.{◌≡◌, ℕ, true, List, get_or, Option, None, Result, Ok, Err}
use Rattle.gate_vcd.specs.declared.fault.StimFault.{StimFault}
use Rattle.gate_vcd.specs.declared.sources.Followed.{Followed}
use Rattle.gate_vcd.specs.Reading.{Fails}
use Rattle.gate_vcd.specs.Declarations.{Variable}
use Rattle.gate_vcd.specs.Changes.{Event, Source, Item, events_from, last_time}
use Rattle.gate_vcd.specs.Stimulus.{has_code, value_of_source}
use Rattle.gate_stimulus.specs.Given.{value_at}
use Rattle.gate_vcd.specs.Shown.Known.{is_used}

-- each taker has the values of its source, up to the last stamp
pub record Follows (takers : List (Option Source)) (is : List Item) (es : List Event) (f : Followed) : Type 0 where
  pub values : (n t : ℕ) → value_at f.given n t ≡ value_of_source es (get_or takers n None) t
  pub last : f.last ≡ last_time 0 is

-- each source takes the code of a variable
abbrev pub AreDeclared : List Variable → List (Option Source) → Type 0
AreDeclared vs takers = (code : List ℕ) → is_used takers code ≡ true → has_code vs code ≡ true

-- the changes of these items, followed, or their first fault; want of memory alone is no matter of the text
abbrev pub IsFollowed : List Variable → List (Option Source) → List Item → Result Followed StimFault → Type 0
IsFollowed vs takers is (Ok f) = (es : List Event) × (events_from (has_code vs) 0 is ≡ Ok es) × Follows takers is es f
IsFollowed vs takers is (Err e) = Fails e (events_from (has_code vs) 0 is)
