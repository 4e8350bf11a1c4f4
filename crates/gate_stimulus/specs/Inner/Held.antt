-- What is true of what a stimulus holds.
use Rattle.gate_stimulus.specs.declared.stimulus.Stimulus.TheInside.{Inside}
use Rattle.gate_stimulus.specs.Shown.Held.{AreLaidOut}

abbrev pub IsLaidOut : Inside → Type 0
IsLaidOut s = AreLaidOut s.lists.items s.list_of.items
