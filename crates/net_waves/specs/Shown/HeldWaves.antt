-- What contracts see of waves.
use Rattle.std.specs.Prelude.{List, map}
use Rattle.gate_values.specs.declared.logic.Change.{Change}
use Rattle.net_waves.specs.declared.waves.Waves.TheInside.{Inside}

abbrev pub lists_of : Inside → List (List Change)
lists_of w = map (λ list. list.items) w.lists.items
