-- How the program ends, by what a line is answered.
use Rattle.std.specs.Prelude.{◌≡◌, ℕ, Bool, List, Option, Some, None, Result, Ok, Err, false, true, ◌⊎◌}
use Rattle.warp_command.specs.Channels.{Held, Takes}
use Rattle.warp_command.specs.Failures.{failure_status, failure_text}
use Rattle.warp_command.specs.Lines.{IsOfLine, IsRequest}
use Rattle.warp_command.specs.Replies.{Reply, Fetching, Replies}
use Rattle.warp_command.specs.declared.reply.Answer.{Answer}
use Rattle.warp_command.specs.declared.reply.Kept.{Kept}
use Rattle.warp_command.specs.declared.failure.Failure.{Failure}
use Rattle.warp_command.specs.declared.failure.Failure.TheVariants as failures
use Rattle.warp_command.specs.declared.request.Request.{Request}

-- standard output and standard error
pub record Channels : Type 0 where
  pub out : Held
  pub err : Held

abbrev pub channels : (out err : Held) → Channels
channels out err = record { out = out; err = err }

-- a failure's text goes to standard error, and its status is the program's, also where the text can't be written
pub record IsTold (failure : Failure) (status : ℕ) (before after : Channels) : Type 0 where
  pub is_status : status ≡ failure_status failure
  pub told : Takes (failure_text failure) before.err after.err

-- A text goes to standard output. Where that took it, the program ends with a status and standard error is as it was;
-- where it failed, that is told.
pub record IsWritten (text : List ℕ) (ended status : ℕ) (before after : Channels) : Type 0 where
  pub written : Takes text before.out after.out
  pub fine : after.out.failed ≡ false → (status ≡ ended) × (after.err ≡ before.err)
  pub unwritten : after.out.failed ≡ true → IsTold failures.Unwritten status before after

-- A text is written, also that of dumps that differ, and any other failure told while standard output stays as it was.
abbrev pub IsShown : Reply → (status : ℕ) → (before after : Channels) → Type 0
IsShown (Ok text) status before after = IsWritten text.items 0 status before after
IsShown (Err (failures.Differ text)) status before after = IsWritten text.items 5 status before after
IsShown (Err failure) status before after = IsTold failure status before after × (after.out ≡ before.out)

-- what a call may answer that is to keep a text under a name, whether it failed, and what it leaves
abbrev pub Keeping : Type 0 → Type 1
Keeping T = T → List ℕ → List ℕ → Bool → T → Type 0

-- A text was given to be kept under a name. Where it was kept the program ends with 0, else that is told.
abbrev pub Keeps : {T : Type 0} → Keeping T → Kept → (old new : T) → (status : ℕ) → (before after : Held) → Type 0
Keeps keeps kept old new status before after =
    (keeps old kept.name.now kept.text.items false new × (status ≡ 0) × (after ≡ before))
    ⊎ (keeps old kept.name.now kept.text.items true new × (status ≡ failure_status (failures.Unkept kept.name))
    × Takes (failure_text (failures.Unkept kept.name)) before after)

-- A text goes to standard output. Where that took it, another one is kept; where it failed, that is told, and nothing is kept.
pub record IsWrittenAndKept {T : Type 0} (keeps : Keeping T) (text : List ℕ) (kept : Kept) (old new : T) (status : ℕ) (before after : Channels) : Type 0 where
  pub written : Takes text before.out after.out
  pub fine : after.out.failed ≡ false → Keeps keeps kept old new status before.err after.err
  pub unwritten : after.out.failed ≡ true → IsTold failures.Unwritten status before after × (new ≡ old)

-- a text is written, and one is kept where there is one for it
abbrev pub IsKeptBehind : {T : Type 0} → Keeping T → List ℕ → Option Kept → (old new : T) → (status : ℕ) → (before after : Channels) → Type 0
IsKeptBehind keeps text None old new status before after = IsWritten text 0 status before after × (new ≡ old)
IsKeptBehind keeps text (Some kept) old new status before after = IsWrittenAndKept keeps text kept old new status before after

-- an answer's text is shown, and then that kept which it has for it
abbrev pub IsEnding : {T : Type 0} → Keeping T → Result Answer Failure → (old new : T) → (status : ℕ) → (before after : Channels) → Type 0
IsEnding keeps (Ok answer) old new status before after = IsKeptBehind keeps answer.text.items answer.kept old new status before after
IsEnding keeps (Err failure) old new status before after = IsShown (Err failure) status before after × (new ≡ old)

-- a request is answered over the texts, the answer is shown, and what it has to be kept is kept
pub record Executes {T : Type 0} (gives : Fetching T) (keeps : Keeping T) (request : Request) (old new : T) (status : ℕ) (before after : Channels) : Type 0 where
  pub middle : T
  pub reply : Result Answer Failure
  pub replied : Replies gives request old reply middle
  pub ended : IsEnding keeps reply middle new status before after

-- a line that is no request fetches no text, and its failure is shown
pub record Refuses {T : Type 0} (old new : T) (status : ℕ) (before after : Channels) : Type 0 where
  pub failure : Failure
  pub is_of_line : IsOfLine failure
  pub unread : new ≡ old
  pub shown : IsShown (Err failure) status before after

-- a line is answered, as what its words ask for or as one that is refused
abbrev pub Answers : {T : Type 0} → Fetching T → Keeping T → (words : List (List ℕ)) → (old new : T) → (status : ℕ) → (before after : Channels) → Type 0
Answers gives keeps words old new status before after =
    ((request : Request) × IsRequest words request × Executes gives keeps request old new status before after) ⊎ Refuses old new status before after
