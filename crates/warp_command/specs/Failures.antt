-- What each failure writes on standard error, and the status that the program ends with.
use Rattle.std.specs.Prelude.{ℕ, List, [], ◌∷◌, ◌++◌, codes, string_bytes}
use Rattle.warp_text.specs.declared.fault.Fault.TheVariants as faults
use Rattle.warp_text.specs.FaultLines.{fault_line, status_of}
use Rattle.vcd_compare.specs.FaultLines.{compare_fault_line, compare_fault_status}
use Rattle.warp_command.specs.declared.failure.Form.{Form}
use Rattle.warp_command.specs.declared.failure.Form.TheVariants as forms
use Rattle.warp_command.specs.declared.failure.Failure.{Failure}
use Rattle.warp_command.specs.declared.failure.Failure.TheVariants as failures

abbrev pub form_name : Form → List ℕ
form_name forms.Scopes = codes "--scope E=A"
form_name forms.Offset = codes "--offset T"
form_name forms.Strobes = codes "--at FIRST:STEP"
form_name forms.File = codes "a file beside -"

abbrev pub failure_text : Failure → List ℕ
failure_text (failures.Line text) = string_bytes text
failure_text failures.NotText = codes "a word is not text" ++ 10 ∷ []
failure_text failures.Incomplete = codes "the line is incomplete" ++ 10 ∷ []
failure_text failures.StimulusExpected = codes "stimulus expected" ++ 10 ∷ []
failure_text failures.StimulusNotExpected = codes "stimulus not expected" ++ 10 ∷ []
failure_text (failures.Expected form) = form_name form ++ codes " expected" ++ 10 ∷ []
failure_text (failures.Unreadable name) = codes "cannot read " ++ name.now ++ 10 ∷ []
failure_text (failures.Fault fault) = fault_line fault ++ 10 ∷ []
failure_text (failures.Explained fault text) = fault_line fault ++ 10 ∷ string_bytes text
failure_text (failures.NotCompared fault) = compare_fault_line fault ++ 10 ∷ []
failure_text (failures.ComparisonExplained fault text) = compare_fault_line fault ++ 10 ∷ string_bytes text
failure_text (failures.Differ text) = codes "the dumps differ" ++ 10 ∷ []
failure_text failures.Unwritten = codes "cannot write" ++ 10 ∷ []
failure_text (failures.Unkept name) = codes "cannot write " ++ name.now ++ 10 ∷ []

-- 2 for a refused line, 4 for a file or a write, 5 for dumps that differ, else the fault's
abbrev pub failure_status : Failure → ℕ
failure_status (failures.Line text) = 2
failure_status failures.NotText = 2
failure_status failures.Incomplete = 2
failure_status failures.StimulusExpected = 2
failure_status failures.StimulusNotExpected = 2
failure_status (failures.Expected form) = 2
failure_status (failures.Unreadable name) = 4
failure_status (failures.Fault fault) = status_of fault
failure_status (failures.Explained fault text) = status_of fault
failure_status (failures.NotCompared fault) = compare_fault_status fault
failure_status (failures.ComparisonExplained fault text) = compare_fault_status fault
failure_status (failures.Differ text) = 5
failure_status failures.Unwritten = 4
failure_status (failures.Unkept name) = 4
