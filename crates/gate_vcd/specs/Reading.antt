-- What a reader gives: what is read, or the first fault.
use Rattle.std.specs.Prelude.{◌≡◌, ◌⊎◌, Option, Some, None, Result, Ok, Err}
use Rattle.gate_vcd.specs.declared.fault.StimFault.{StimFault}
use Rattle.gate_vcd.specs.declared.fault.StimCause.{StimCause}
use Rattle.gate_vcd.specs.Faults.{out_of_memory}
use Rattle.gate_vcd.specs.Tokens.{Token, fault_at}

-- what there is, or a refusal at a token
abbrev pub or_fault : {A : Type 0} → Option A → Token → StimCause → Result A StimFault
or_fault (Some x) t cause = Ok x
or_fault None t cause = Err (fault_at t cause)

-- the fault is that of the reading, or want of memory
abbrev pub Fails : {A : Type 0} → StimFault → Result A StimFault → Type 0
Fails e reading = (e ≡ out_of_memory) ⊎ (reading ≡ Err e)
