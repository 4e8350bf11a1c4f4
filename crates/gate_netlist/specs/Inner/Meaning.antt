-- What only proofs need beside `Meaning`.
use Rattle.std.specs.Prelude.{ℕ, List}
use Rattle.toml.specs.Data.{Members}
use Rattle.gate_netlist.specs.declared.fault.SettingsFault.{SettingsFault}
use Rattle.gate_netlist.specs.declared.fault.SettingsFault.TheVariants.{Toml, Memory}
use Rattle.gate_netlist.specs.Settings.{IsDocument}

-- why a text may be refused before it is a document: it is none, or memory ended
abbrev pub IsRefusal : List ℕ → SettingsFault → Type 0
IsRefusal text Memory = Unit {0}
IsRefusal text Toml = (ms : Members) → IsDocument text ms → ⊥
IsRefusal text _ = ⊥
