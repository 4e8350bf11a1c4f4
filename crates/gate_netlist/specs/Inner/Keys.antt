-- Names of nets, kept in order.
use Rattle.std.specs.Prelude.{List, map, string_bytes, String}
use Rattle.std.specs.declared.alloc.Global.{Global}
use Rattle.indexmap.specs.IndexSet.{IndexSet}
use Rattle.gate_netlist.specs.declared.seed.TextSeed.{TextSeed}
use Rattle.gate_netlist.specs.Statements.{Name}

abbrev pub Keys : Type 0
Keys = IndexSet (String Global) TextSeed

-- the names, in the order of their numbers
abbrev pub names_in : Keys → List Name
names_in keys = map string_bytes keys.keys
