-- The line that each fault prints, and the status that the program ends with.
use Rattle.std.specs.Prelude.{ℕ, List, ◌++◌, codes, decimal}
use Rattle.gate_netlist.specs.Faults.{bench_cause_name, settings_fault_name}
use Rattle.gate_netlist.specs.declared.fault.BenchFault.{BenchFault}
use Rattle.gate_netlist.specs.declared.fault.BenchCause.TheVariants as bench
use Rattle.gate_netlist.specs.declared.fault.SettingsFault.{SettingsFault}
use Rattle.gate_netlist.specs.declared.fault.SettingsFault.TheVariants as settings
use Rattle.gate_vcd.specs.Faults.{stim_cause_name}
use Rattle.gate_vcd.specs.declared.fault.StimCause.{StimCause}
use Rattle.gate_vcd.specs.declared.fault.StimCause.TheVariants as stimulus
use Rattle.gate_vcd.specs.declared.fault.StimFault.{StimFault}
use Rattle.only_nets.specs.Names.{only_cause_name}
use Rattle.only_nets.specs.declared.fault.OnlyCause.TheVariants as only
use Rattle.only_nets.specs.declared.fault.OnlyFault.{OnlyFault}
use Rattle.warp_process.specs.Faults.{block_fault_name}
use Rattle.warp_process.specs.declared.fault.BlockFault.TheVariants as block
use Rattle.warp_core.specs.Gather.{gather_fault_name}
use Rattle.warp_core.specs.Play.{play_fault_name}
use Rattle.warp_core.specs.Schedule.{schedule_cause_name}
use Rattle.warp_core.specs.declared.fault.GatherFault.TheVariants as gathering
use Rattle.warp_core.specs.declared.schedule.fault.ScheduleCause.TheVariants as schedule
use Rattle.warp_core.specs.declared.schedule.fault.ScheduleFault.{ScheduleFault}
use Rattle.warp_rounds.specs.declared.fault.RunFault.{RunFault}
use Rattle.warp_rounds.specs.declared.fault.RunFault.TheVariants as run
use Rattle.warp_text.specs.declared.fault.Fault.{Fault}
use Rattle.warp_text.specs.declared.fault.Fault.TheVariants as faults

-- a stimulus is refused at a token's place, or for the sake of a net that is an input
abbrev pub place_word : StimCause → List ℕ
place_word stimulus.MissingInput = codes "net"
place_word stimulus.NotScalar = codes "net"
place_word _ = codes "at"

-- of a run that is refused though its texts are not
abbrev pub run_fault_line : RunFault → List ℕ
run_fault_line (run.Block f) = codes "run: block " ++ block_fault_name f
run_fault_line (run.Stalled time) = codes "run: stalled at " ++ decimal time
run_fault_line (run.Gather f) = codes "run: gather " ++ gather_fault_name f
run_fault_line run.NoThread = codes "run: no thread"
run_fault_line run.Memory = codes "memory"

-- the line of a fault, without its end
abbrev pub fault_line : Fault → List ℕ
fault_line (faults.Bench f) = codes "bench line " ++ decimal f.line ++ codes ": " ++ bench_cause_name f.cause
fault_line (faults.Settings f) = codes "settings: " ++ settings_fault_name f
fault_line (faults.Only f) = codes "only line " ++ decimal f.line ++ codes ": " ++ only_cause_name f.cause
fault_line (faults.Stimulus f) =
    codes "stimulus " ++ place_word f.cause ++ codes " " ++ decimal f.at ++ codes ": " ++ stim_cause_name f.cause
fault_line (faults.Schedule f) = codes "schedule line " ++ decimal f.line ++ codes ": " ++ schedule_cause_name f.cause
fault_line (faults.Run f) = run_fault_line f
fault_line (faults.Event number cause) = codes "event " ++ decimal number ++ codes ": " ++ play_fault_name cause
fault_line (faults.Unfinished time) = codes "unfinished at " ++ decimal time
fault_line faults.Memory = codes "memory"

-- a refused text ends the program with 1, a refused run, a play that comes to no end and want of memory with 3
abbrev pub status_of : Fault → ℕ
status_of (faults.Run f) = 3
status_of (faults.Event number cause) = 3
status_of (faults.Unfinished time) = 3
status_of faults.Memory = 3
status_of _ = 1

-- want of memory in any part is want of memory, and no fault of that part
abbrev pub bench_fault : BenchFault → Fault
bench_fault f = elim f.cause [ bench.Memory ↦ faults.Memory | _ ↦ faults.Bench f ]

abbrev pub settings_fault : SettingsFault → Fault
settings_fault settings.Memory = faults.Memory
settings_fault f = faults.Settings f

abbrev pub only_fault : OnlyFault → Fault
only_fault f = elim f.cause [ only.Memory ↦ faults.Memory | _ ↦ faults.Only f ]

abbrev pub stimulus_fault : StimFault → Fault
stimulus_fault f = elim f.cause [ stimulus.Memory ↦ faults.Memory | _ ↦ faults.Stimulus f ]

abbrev pub schedule_fault : ScheduleFault → Fault
schedule_fault f = elim f.cause [ schedule.Memory ↦ faults.Memory | _ ↦ faults.Schedule f ]

abbrev pub run_fault : RunFault → Fault
run_fault run.Memory = faults.Memory
run_fault (run.Block block.Memory) = faults.Memory
run_fault (run.Gather gathering.Memory) = faults.Memory
run_fault f = faults.Run f
