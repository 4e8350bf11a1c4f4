-- What two texts are answered when they are compared, by a map if there is one.
use Rattle.gate_vcd.specs.declared.fault.StimFault.{StimFault}
use Rattle.gate_vcd.specs.declared.fault.StimCause.{StimCause}
use Rattle.gate_vcd.specs.declared.fault.StimCause.TheVariants as causes
use Rattle.vcd_compare.specs.declared.fault.CompareFault.{CompareFault}
use Rattle.vcd_compare.specs.declared.fault.CompareFault.TheVariants as faults

-- the fault of the dump that is expected, and that of the other one
abbrev pub expected_by : StimFault → StimCause → CompareFault
expected_by fault causes.Memory = faults.Memory
expected_by fault _ = faults.Expected fault

abbrev pub actual_by : StimFault → StimCause → CompareFault
actual_by fault causes.Memory = faults.Memory
actual_by fault _ = faults.Actual fault
