-- What is answered to two dumps, as text.
use Rattle.std.specs.Prelude.{◌≡◌, ℕ, List, Option, Result, Ok, Err, length, ◌==◌}
use Rattle.vcd_compare.specs.Answer.{IsAnswer}
use Rattle.vcd_compare.specs.declared.fault.CompareFault.{CompareFault}
use Rattle.vcd_compare.specs.declared.report.Differing.{Differing}
use Rattle.vcd_compare.specs.declared.report.Options.{Options}
use Rattle.vcd_compare.specs.declared.report.Report.{Report}
use Rattle.compare_answer.specs.Lines.{report_text}
use Rattle.compare_answer.specs.Listing.{AreByTime}
use Rattle.compare_answer.specs.declared.answer.Compared.{Compared}

-- the text of a report, and whether all bits agree
pub record IsPrinted (most : ℕ) (r : Report) (c : Compared) : Type 0 where
  pub shown : List Differing
  pub by_time : AreByTime r.differing.items shown
  pub text : c.text.items ≡ report_text most r shown
  pub agrees : c.agrees ≡ (length r.differing.items == 0)

-- the text of the report of the dumps that the texts are, by a map if there is one, or the fault
abbrev pub IsText : Options → ℕ → (expected actual : List ℕ) → Option (List ℕ) → Result Compared CompareFault → Type 0
IsText options most expected actual map (Ok c) = (r : Report) × IsAnswer options expected actual map (Ok r) × IsPrinted most r c
IsText options most expected actual map (Err fault) = IsAnswer options expected actual map (Err fault)
