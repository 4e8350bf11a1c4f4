-- What a text is refused for is a matter of the text.
use Rattle.std.specs.Prelude.{◌≡◌}
use Rattle.gate_vcd.specs.declared.fault.StimCause.TheVariants as causes
use Rattle.gate_vcd.specs.declared.fault.StimFault.{StimFault}

-- a fault of a stimulus text, and not want of memory
abbrev pub IsOfStimulus : StimFault → Type 0
IsOfStimulus fault = ¬ (fault.cause ≡ causes.Memory)
