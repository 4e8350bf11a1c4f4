-- What a text is refused for is a matter of the text.
use Rattle.std.specs.Prelude.{◌≡◌}
use Rattle.gate_netlist.specs.declared.fault.BenchCause.TheVariants as bench
use Rattle.gate_netlist.specs.declared.fault.BenchFault.{BenchFault}
use Rattle.gate_netlist.specs.declared.fault.SettingsFault.{SettingsFault}
use Rattle.gate_netlist.specs.declared.fault.SettingsFault.TheVariants as settings

-- a fault of a bench text, and not want of memory
abbrev pub IsOfBench : BenchFault → Type 0
IsOfBench fault = ¬ (fault.cause ≡ bench.Memory)

-- a cause that speaks against a settings document, and not want of memory
abbrev pub IsOfDocument : SettingsFault → Type 0
IsOfDocument cause = ¬ (cause ≡ settings.Memory)
