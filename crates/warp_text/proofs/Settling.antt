-- What a settings text is refused for, once its bench is read, is why there is no circuit.
use Rattle.std.proofs.Common.{◌≡◌, ℕ, List, Ok, Err}
use Rattle.gate_netlist.specs.declared.fault.SettingsFault.{SettingsFault}
use Rattle.gate_netlist.specs.declared.fault.SettingsFault.TheVariants.{Toml, UnknownKey, UnknownNet, BadDelay, BadCut, Memory, BadClock, BadInit}
use Rattle.gate_netlist.specs.Netlist.{Netlist}
use Rattle.gate_netlist.specs.Bench.{bench_of}
use Rattle.gate_netlist.specs.Meaning.{IsSettled}
use Rattle.warp_text.specs.Answer.{IsNoCircuit}
use Rattle.warp_text.specs.FaultLines.{settings_fault}

pub no_circuit : (bench text : List ℕ) (b : Netlist) → bench_of bench ≡ Ok b → (f : SettingsFault) → IsSettled b text (Err f) → IsNoCircuit bench text (settings_fault f)
no_circuit bench text b is Toml h = (b, is, h)
no_circuit bench text b is UnknownKey h = (b, is, h)
no_circuit bench text b is UnknownNet h = (b, is, h)
no_circuit bench text b is BadDelay h = (b, is, h)
no_circuit bench text b is BadCut h = (b, is, h)
no_circuit bench text b is Memory h = tt
no_circuit bench text b is BadClock h = (b, is, h)
no_circuit bench text b is BadInit h = (b, is, h)
