-- What only proofs need beside `FaultLines`.
use Rattle.std.specs.Prelude.{ℕ}
use Rattle.warp_core.specs.declared.event.PlayFault.{PlayFault}
use Rattle.warp_core.specs.declared.event.PlayFault.TheVariants as play
use Rattle.warp_text.specs.declared.fault.Fault.{Fault}
use Rattle.warp_text.specs.declared.fault.Fault.TheVariants as faults

abbrev pub event_fault : ℕ → PlayFault → Fault
event_fault number play.Memory = faults.Memory
event_fault number cause = faults.Event number cause
