-- What contracts see of a stimulus.
use Rattle.std.specs.Prelude.{ℕ, ◌<◌, List, [], length, map, get_or, Option, option_map, IfSome, Vec}
use Rattle.std.specs.List.{All}
use Rattle.std.specs.declared.alloc.Global.{Global}
use Rattle.gate_values.specs.declared.logic.Change.{Change}
use Rattle.gate_stimulus.specs.declared.stimulus.Stimulus.TheInside.{Inside}
use Rattle.gate_stimulus.specs.declared.timescale.Timescale.{Timescale}
use Rattle.gate_stimulus.specs.Given.{Given, AreItsChanges}
use Rattle.net_waves.specs.Waves.{lists_in}

-- each net that has a list refers to one, which is that of the changes of its values
abbrev pub AreLaidOut : List (Vec Change Global) → List (Option ℕ) → Type 0
AreLaidOut lists list_of = All (λ o. IfSome o (λ k. (k < length lists) × AreItsChanges (get_or (lists_in lists) k []))) list_of

-- Nets whose changes have one code share a list.
abbrev pub given_by : Timescale → List (Vec Change Global) → List (Option ℕ) → Given
given_by timescale lists list_of = record {
  timescale = timescale;
  waves = map (option_map (λ k. get_or (lists_in lists) k [])) list_of;
}

abbrev pub given_of : Inside → Given
given_of s = given_by s.timescale s.lists.items s.list_of.items
