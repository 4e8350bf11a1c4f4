-- What a request is answered, over the texts in the order in which they are fetched.
use Rattle.std.specs.Prelude.{◌≡◌, ℕ, List, [], Bool, true, false, Option, None, Some, Result, Ok, Err, Vec, codes, string_bytes, IsOkAnd, IfOk}
use Rattle.std.specs.Borrow.{Bor}
use Rattle.std.specs.declared.alloc.Global.{Global}
use Rattle.warp_text.specs.Answer.{IsAnswer, IsCounted, IsListed}
use Rattle.warp_text.specs.Replay.{IsReplay}
use Rattle.warp_text.specs.Only.{IsToldAnswer, IsToldReplay}
use Rattle.warp_text.specs.CountLines.{count_lines}
use Rattle.warp_text.specs.StatLines.{stats_lines}
use Rattle.warp_text.specs.Stats.{AreCountsOf}
use Rattle.warp_text.specs.declared.stats.Stats.{Stats}
use Rattle.warp_command.specs.declared.reply.Answer.{Answer}
use Rattle.warp_command.specs.declared.reply.Kept.{Kept}
use Rattle.warp_command.specs.Joined.{lines, before_parting, after_parting}
use Rattle.gate_netlist.specs.declared.counts.Counts.{Counts}
use Rattle.warp_command.specs.declared.failure.Failure.{Failure}
use Rattle.warp_command.specs.declared.failure.Failure.TheVariants as failures
use Rattle.warp_text.specs.declared.fault.Fault.{Fault}
use Rattle.warp_text.specs.declared.fault.Fault.TheVariants as faults
use Rattle.warp_command.specs.declared.request.Request.{Request}
use Rattle.warp_command.specs.declared.request.Request.TheVariants as requests
use Rattle.warp_command.specs.declared.request.Run.{Run}
use Rattle.warp_command.specs.declared.request.Replay.{Replay}
use Rattle.warp_command.specs.declared.request.Check.{Check}
use Rattle.vcd_compare.specs.Times.{Moves}
use Rattle.vcd_compare.specs.declared.fault.CompareFault.{CompareFault}
use Rattle.vcd_compare.specs.declared.report.Options.{Options as Comparing}
use Rattle.compare_answer.specs.Answer.{IsText}
use Rattle.compare_answer.specs.declared.answer.Compared.{Compared}
use Rattle.warp_command.specs.declared.request.Comparison.{Comparison}
use Rattle.warp_command.specs.declared.request.Listing.{Listing}
use Rattle.warp_command.specs.declared.request.Only.{Only}
use Rattle.warp_command.specs.declared.request.Only.TheVariants as only
use Rattle.warp_command.specs.declared.request.Sources.{Sources}
use Rattle.warp_command.specs.declared.request.Sources.TheVariants as sources
use Rattle.warp_command.specs.declared.texts.FetchFault.{FetchFault}
use Rattle.warp_command.specs.declared.texts.FetchFault.TheVariants as fetches

-- a text, or why there is none
abbrev pub Reply : Type 0
Reply = Result (Vec ℕ Global) Failure

-- what a fetch of a name may answer, and what it leaves
abbrev pub Fetching : Type 0 → Type 1
Fetching T = T → List ℕ → Result (Vec ℕ Global) FetchFault → T → Type 0

-- something is done with the texts' source, which answers and is left in a state
abbrev pub StepTo : Type 0 → Type 0 → Type 1
StepTo A T = T → Result A Failure → T → Type 0

abbrev pub Step : Type 0 → Type 1
Step T = StepTo (Vec ℕ Global) T

abbrev pub Continues : {A T : Type 0} → (Vec ℕ Global → StepTo A T) → Reply → T → Result A Failure → T → Type 0
Continues next (Ok text) middle result new = next text middle result new
Continues next (Err failure) middle result new = (result ≡ Err failure) × (new ≡ middle)

-- a text is had, and the next step is done with it; where there is none, that is the answer
pub record Then {A T : Type 0} (first : Step T) (next : Vec ℕ Global → StepTo A T) (old : T) (result : Result A Failure) (new : T) : Type 0 where
  pub middle : T
  pub text : Reply
  pub had : first old text middle
  pub continued : Continues next text middle result new

-- the answer needs no text
abbrev pub Ends : {A T : Type 0} → (Result A Failure → Type 0) → StepTo A T
Ends IsResult old result new = IsResult result × (new ≡ old)

-- the text that is shown of an answer
abbrev pub shown : Result Answer Failure → Reply
shown (Ok answer) = Ok answer.text
shown (Err failure) = Err failure

-- an answer is shown alone: no text is kept
abbrev pub Alone : {T : Type 0} → Step T → StepTo Answer T
Alone step old result new = step old (shown result) new × IfOk result (λ answer. answer.kept ≡ None)

-- the text of a name, which the program can't read or has no memory for where the fetch fails
abbrev pub Fetches : {T : Type 0} → Fetching T → List ℕ → Step T
Fetches gives name old (Ok text) new = gives old name (Ok text) new
Fetches gives name old (Err (failures.Unreadable unread)) new = gives old name (Err fetches.Unreadable) new × (unread.now ≡ name)
Fetches gives name old (Err (failures.Fault fault)) new = gives old name (Err fetches.Memory) new × (fault ≡ faults.Memory)
Fetches gives name old (Err _) new = ⊥

-- the settings' text, empty where the line names none
abbrev pub FetchesSettings : {T : Type 0} → Fetching T → Option (Bor (List ℕ)) → Step T
FetchesSettings gives None = Ends (λ result. IsOkAnd result (λ text. text.items ≡ []))
FetchesSettings gives (Some name) = Fetches gives name.now

-- such a fault is told, and explained only where that is asked for
abbrev pub IsRefusal : (explains : Bool) → (Fault → Type 0) → Failure → Type 0
IsRefusal explains Is (failures.Fault fault) = Is fault
IsRefusal explains Is (failures.Explained fault text) = (explains ≡ true) × Is fault
IsRefusal explains Is _ = ⊥

-- the same of two dumps that aren't compared
abbrev pub IsNotCompared : (explains : Bool) → (CompareFault → Type 0) → Failure → Type 0
IsNotCompared explains Is (failures.NotCompared fault) = Is fault
IsNotCompared explains Is (failures.ComparisonExplained fault text) = (explains ≡ true) × Is fault
IsNotCompared explains Is _ = ⊥

-- the text that names the nets that are told, empty where they are all nets or the outputs
abbrev pub FetchesOnly : {T : Type 0} → Fetching T → Only → Step T
FetchesOnly gives (only.Named name) = Fetches gives name.now
FetchesOnly gives _ = Ends (λ result. IsOkAnd result (λ text. text.items ≡ []))

-- the answer to three texts: all nets are told, the outputs, or those that a text names
abbrev pub IsAnswerOf : Only → (names bench settings stimulus : List ℕ) (until : ℕ) → Result (Vec ℕ Global) Fault → Type 0
IsAnswerOf only.All names bench settings stimulus until result = IsAnswer bench settings stimulus until result
IsAnswerOf only.Outputs names bench settings stimulus until result = IsToldAnswer bench settings None stimulus until result
IsAnswerOf (only.Named name) names bench settings stimulus until result = IsToldAnswer bench settings (Some names) stimulus until result

-- where a line names a file for it, the text of what is counted is kept under that name
abbrev pub IsKept : Option (Bor (List ℕ)) → Stats → Option Kept → Type 0
IsKept None stats kept = kept ≡ None
IsKept (Some name) stats None = ⊥
IsKept (Some name) stats (Some kept) = (kept.name.now ≡ name.now) × (kept.text.items ≡ stats_lines stats)

-- what is kept is what is counted of a run that made the dump; nothing is where a line names no file for it
abbrev pub IsKeptOf : Option (Bor (List ℕ)) → (bench settings : List ℕ) (until : ℕ) → Option Kept → Type 0
IsKeptOf None bench settings until kept = kept ≡ None
IsKeptOf (Some name) bench settings until kept = (stats : Stats) × AreCountsOf bench settings until stats × IsKept (Some name) stats kept

-- the dump, and what is kept beside it
abbrev pub IsSimulated : Run → (names bench settings stimulus : List ℕ) → Result Answer Failure → Type 0
IsSimulated run names bench settings stimulus (Ok answer) =
    IsAnswerOf run.only names bench settings stimulus run.options.until (Ok answer.text) × IsKeptOf run.stats bench settings run.options.until answer.kept
IsSimulated run names bench settings stimulus (Err failure) =
    IsRefusal run.explains (λ fault. IsAnswerOf run.only names bench settings stimulus run.options.until (Err fault)) failure

-- standard input holds both texts
abbrev pub RunsJoined : {T : Type 0} → Fetching T → Run → List ℕ → StepTo Answer T
RunsJoined gives run settings =
    Then (Fetches gives (codes "-")) (λ joined.
    Then (FetchesOnly gives run.only) (λ names.
    Ends (IsSimulated run names.items (before_parting (lines joined.items)) settings (after_parting (lines joined.items)))))

-- each text has its name
abbrev pub RunsApart : {T : Type 0} → Fetching T → Run → (bench_name stimulus_name : List ℕ) → List ℕ → StepTo Answer T
RunsApart gives run bench_name stimulus_name settings =
    Then (Fetches gives bench_name) (λ bench.
    Then (Fetches gives stimulus_name) (λ stimulus.
    Then (FetchesOnly gives run.only) (λ names.
    Ends (IsSimulated run names.items bench.items settings stimulus.items))))

abbrev pub RunsSources : {T : Type 0} → Fetching T → Run → Sources → List ℕ → StepTo Answer T
RunsSources gives run sources.Joined settings = RunsJoined gives run settings
RunsSources gives run (sources.Apart bench stimulus) settings = RunsApart gives run bench.now stimulus.now settings

abbrev pub Runs : {T : Type 0} → Fetching T → Run → StepTo Answer T
Runs gives run = Then (FetchesSettings gives run.settings) (λ settings. RunsSources gives run run.sources settings.items)

-- the answer to four texts
abbrev pub IsReplayOf : Only → (names bench settings stimulus schedule : List ℕ) → Option ℕ → ℕ → Result (Vec ℕ Global) Fault → Type 0
IsReplayOf only.All names bench settings stimulus schedule blocks until result = IsReplay bench settings stimulus schedule blocks until result
IsReplayOf only.Outputs names bench settings stimulus schedule blocks until result = IsToldReplay bench settings None stimulus schedule blocks until result
IsReplayOf (only.Named name) names bench settings stimulus schedule blocks until result = IsToldReplay bench settings (Some names) stimulus schedule blocks until result

abbrev pub IsReplayed : (explains : Bool) → Only → (names bench settings stimulus schedule : List ℕ) → Option ℕ → ℕ → Reply → Type 0
IsReplayed explains only names bench settings stimulus schedule blocks until (Ok dump) = IsReplayOf only names bench settings stimulus schedule blocks until (Ok dump)
IsReplayed explains only names bench settings stimulus schedule blocks until (Err failure) =
    IsRefusal explains (λ fault. IsReplayOf only names bench settings stimulus schedule blocks until (Err fault)) failure

-- a schedule is played once the texts are had but for the names
abbrev pub ReplaysOn : {T : Type 0} → Fetching T → Replay → (bench settings stimulus schedule : List ℕ) → Step T
ReplaysOn gives replay bench settings stimulus schedule =
    Then (FetchesOnly gives replay.only) (λ names.
    Ends (IsReplayed replay.explains replay.only names.items bench settings stimulus schedule replay.options.blocks replay.options.until))

-- the same, once they are had but for the schedule and the names
abbrev pub ReplaysBy : {T : Type 0} → Fetching T → Replay → (bench settings stimulus : List ℕ) → Step T
ReplaysBy gives replay bench settings stimulus =
    Then (Fetches gives replay.schedule.now) (λ schedule. ReplaysOn gives replay bench settings stimulus schedule.items)

-- a schedule is played
abbrev pub Replays : {T : Type 0} → Fetching T → Replay → Step T
Replays gives replay =
    Then (FetchesSettings gives replay.settings) (λ settings.
    Then (Fetches gives replay.bench.now) (λ bench.
    Then (Fetches gives replay.stimulus.now) (λ stimulus.
    ReplaysBy gives replay bench.items settings.items stimulus.items)))

-- the counts are printed; want of memory may keep them from it
abbrev pub IsUncounted : (bench settings : List ℕ) → Fault → Type 0
IsUncounted bench settings faults.Memory = Unit {0}
IsUncounted bench settings fault = IsCounted bench settings (Err fault)

abbrev pub IsCountReply : (explains : Bool) → (bench settings : List ℕ) → Reply → Type 0
IsCountReply explains bench settings (Ok text) = (counts : Counts) × (IsCounted bench settings (Ok counts) × (text.items ≡ count_lines counts))
IsCountReply explains bench settings (Err failure) = IsRefusal explains (IsUncounted bench settings) failure

abbrev pub Checks : {T : Type 0} → Fetching T → Check → Step T
Checks gives check =
    Then (FetchesSettings gives check.settings) (λ settings.
    Then (Fetches gives check.bench.now) (λ bench.
    Ends (IsCountReply check.explains bench.items settings.items)))

-- the nets are listed
abbrev pub IsNetsReply : (explains : Bool) → (bench settings : List ℕ) → Reply → Type 0
IsNetsReply explains bench settings (Ok text) = IsListed bench settings (Ok text)
IsNetsReply explains bench settings (Err failure) = IsRefusal explains (λ fault. IsListed bench settings (Err fault)) failure

abbrev pub Lists : {T : Type 0} → Fetching T → Listing → Step T
Lists gives listing =
    Then (FetchesSettings gives listing.settings) (λ settings.
    Then (Fetches gives listing.bench.now) (λ bench.
    Ends (IsNetsReply listing.explains bench.items settings.items)))

-- Two dumps are compared, by a map if there is one: a text where all bits agree, or that tells where they differ; or why
-- they aren't. The line is incomplete where compared times don't go on.
abbrev pub IsCompared : (explains : Bool) → Comparing → ℕ → (expected actual : List ℕ) → Option (List ℕ) → Reply → Type 0
IsCompared explains options most expected actual map (Ok text) =
    (c : Compared) × IsText options most expected actual map (Ok c) × (c.agrees ≡ true) × (text.items ≡ c.text.items)
IsCompared explains options most expected actual map (Err (failures.Differ text)) =
    (c : Compared) × IsText options most expected actual map (Ok c) × (c.agrees ≡ false) × (text.items ≡ c.text.items)
IsCompared explains options most expected actual map (Err failures.Incomplete) = ¬ Moves options
IsCompared explains options most expected actual map (Err failure) =
    IsNotCompared explains (λ fault. IsText options most expected actual map (Err fault)) failure

-- the map of this name is read last
abbrev pub ComparesWith : {T : Type 0} → Fetching T → List ℕ → Comparison → (expected actual : List ℕ) → Step T
ComparesWith gives name comparison expected actual =
    Then (Fetches gives name) (λ map.
    Ends (IsCompared comparison.explains comparison.options comparison.most expected actual (Some map.items)))

-- so where the line names one
abbrev pub ComparesBy : {T : Type 0} → Fetching T → Option (Bor (List ℕ)) → Comparison → (expected actual : List ℕ) → Step T
ComparesBy gives None comparison expected actual = Ends (IsCompared comparison.explains comparison.options comparison.most expected actual None)
ComparesBy gives (Some name) comparison expected actual = ComparesWith gives name.now comparison expected actual

abbrev pub Compares : {T : Type 0} → Fetching T → Comparison → Step T
Compares gives comparison =
    Then (Fetches gives comparison.expected.now) (λ expected.
    Then (Fetches gives comparison.actual.now) (λ actual.
    ComparesBy gives comparison.map comparison expected.items actual.items))

-- what a request is answered
abbrev pub Replies : {T : Type 0} → Fetching T → Request → StepTo Answer T
Replies gives (requests.Help text) = Alone (Ends (λ result. IsOkAnd result (λ help. help.items ≡ string_bytes text)))
Replies gives (requests.Run run) = Runs gives run
Replies gives (requests.Replay replay) = Alone (Replays gives replay)
Replies gives (requests.Check check) = Alone (Checks gives check)
Replies gives (requests.Nets listing) = Alone (Lists gives listing)
Replies gives (requests.Compare comparison) = Alone (Compares gives comparison)
