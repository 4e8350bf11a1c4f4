-- The numbers and names of the causes of refusal.
use Rattle.std.specs.Prelude.{ℕ, List, ◌++◌, codes, decimal}
use Rattle.gate_vcd.specs.declared.fault.StimCause.{StimCause}
use Rattle.gate_vcd.specs.declared.fault.StimCause.TheVariants as causes
use Rattle.gate_vcd.specs.declared.fault.StimFault.{StimFault}

abbrev pub stim_cause_number : StimCause → ℕ
stim_cause_number causes.BadToken = 1
stim_cause_number causes.UnclosedCommand = 2
stim_cause_number causes.BadVar = 3
stim_cause_number causes.BadTimescale = 4
stim_cause_number causes.StampFalls = 5
stim_cause_number causes.StampTooLarge = 6
stim_cause_number causes.UnknownCode = 7
stim_cause_number causes.MissingInput = 8
stim_cause_number causes.NotScalar = 9
stim_cause_number causes.Memory = 10

abbrev pub stim_cause_name : StimCause → List ℕ
stim_cause_name causes.BadToken = codes "BadToken"
stim_cause_name causes.UnclosedCommand = codes "UnclosedCommand"
stim_cause_name causes.BadVar = codes "BadVar"
stim_cause_name causes.BadTimescale = codes "BadTimescale"
stim_cause_name causes.StampFalls = codes "StampFalls"
stim_cause_name causes.StampTooLarge = codes "StampTooLarge"
stim_cause_name causes.UnknownCode = codes "UnknownCode"
stim_cause_name causes.MissingInput = codes "MissingInput"
stim_cause_name causes.NotScalar = codes "NotScalar"
stim_cause_name causes.Memory = codes "Memory"

-- the place and the cause, for people
abbrev pub stim_fault_text : StimFault → List ℕ
stim_fault_text fault = codes "at " ++ decimal fault.at ++ codes ": " ++ stim_cause_name fault.cause

-- want of memory, which has no place
abbrev pub out_of_memory : StimFault
out_of_memory = record { at = 0; cause = causes.Memory }
