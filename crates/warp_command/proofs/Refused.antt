-- What holds of a fault holds of what is told of it.
use Rattle.std.proofs.Common.{◌≡◌, refl, sym, subst, ℕ, List, Option, Some, None, Vec, Bool, Err}
use Rattle.std.specs.Borrow.{Bor}
use Rattle.std.specs.declared.alloc.Global.{Global}
use Rattle.warp_text.specs.Answer.{IsAnswer, IsCounted}
use Rattle.warp_text.specs.Only.{IsToldAnswer}
use Rattle.warp_text.specs.declared.fault.Fault.{Fault}
use Rattle.warp_text.specs.declared.fault.Fault.TheVariants as faults
use Rattle.vcd_compare.specs.declared.fault.CompareFault.{CompareFault}
use Rattle.vcd_compare.specs.declared.report.Options.{Options as Comparing}
use Rattle.compare_answer.specs.Answer.{IsText}
use Rattle.std.specs.Prelude.{Result, Ok, IfOk, IfErr}
use Rattle.warp_text.specs.Stats.{AreCountsOf}
use Rattle.warp_text.specs.declared.simulate.Simulated.{Simulated}
use Rattle.warp_text.specs.declared.stats.Stats.{Stats}
use Rattle.warp_command.specs.declared.reply.Answer.{Answer}
use Rattle.warp_command.specs.declared.reply.Kept.{Kept}
use Rattle.warp_command.specs.declared.request.Run.{Run}
use Rattle.warp_command.specs.Replies.{IsAnswerOf, IsKept, IsKeptOf, IsSimulated, IsCompared, IsNotCompared, IsRefusal, IsUncounted}
use Rattle.warp_command.specs.declared.request.Only.{Only}
use Rattle.warp_command.specs.declared.request.Only.TheVariants as only
use Rattle.warp_command.specs.declared.failure.Failure.{Failure}
use Rattle.warp_command.specs.declared.failure.Failure.TheVariants as failures

pub refusal_of : (explains : Bool) (Is : Fault → Type 0) (fault : Fault) (failure : Failure) → IsRefusal explains (λ told. told ≡ fault) failure → Is fault
    → IsRefusal explains Is failure
refusal_of explains Is fault (failures.Line text) told is = absurd told
refusal_of explains Is fault failures.NotText told is = absurd told
refusal_of explains Is fault failures.Incomplete told is = absurd told
refusal_of explains Is fault failures.StimulusExpected told is = absurd told
refusal_of explains Is fault failures.StimulusNotExpected told is = absurd told
refusal_of explains Is fault (failures.Expected form) told is = absurd told
refusal_of explains Is fault (failures.Unreadable name) told is = absurd told
refusal_of explains Is fault (failures.Fault same) told is = subst Is (sym told) is
refusal_of explains Is fault (failures.Explained same text) told is = (told.0, subst Is (sym told.1) is)
refusal_of explains Is fault (failures.NotCompared other) told is = absurd told
refusal_of explains Is fault (failures.ComparisonExplained other text) told is = absurd told
refusal_of explains Is fault (failures.Differ text) told is = absurd told
refusal_of explains Is fault failures.Unwritten told is = absurd told
refusal_of explains Is fault (failures.Unkept name) told is = absurd told

pub compared_of : (explains : Bool) (options : Comparing) (most : ℕ) (expected actual : List ℕ) (map : Option (List ℕ)) (fault : CompareFault) (failure : Failure)
    → IsNotCompared explains (λ told. told ≡ fault) failure → IsText options most expected actual map (Err fault)
    → IsCompared explains options most expected actual map (Err failure)
compared_of explains options most expected actual map fault (failures.Line text) told is = absurd told
compared_of explains options most expected actual map fault failures.NotText told is = absurd told
compared_of explains options most expected actual map fault failures.Incomplete told is = absurd told
compared_of explains options most expected actual map fault failures.StimulusExpected told is = absurd told
compared_of explains options most expected actual map fault failures.StimulusNotExpected told is = absurd told
compared_of explains options most expected actual map fault (failures.Expected form) told is = absurd told
compared_of explains options most expected actual map fault (failures.Unreadable name) told is = absurd told
compared_of explains options most expected actual map fault (failures.Fault other) told is = absurd told
compared_of explains options most expected actual map fault (failures.Explained other text) told is = absurd told
compared_of explains options most expected actual map fault (failures.NotCompared same) told is =
    subst (λ f. IsText options most expected actual map (Err f)) (sym told) is
compared_of explains options most expected actual map fault (failures.ComparisonExplained same text) told is =
    (told.0, subst (λ f. IsText options most expected actual map (Err f)) (sym told.1) is)
compared_of explains options most expected actual map fault (failures.Differ text) told is = absurd told
compared_of explains options most expected actual map fault failures.Unwritten told is = absurd told
compared_of explains options most expected actual map fault (failures.Unkept name) told is = absurd told

pub uncounted_of : (bench settings : List ℕ) (fault : Fault) → IsCounted bench settings (Err fault) → IsUncounted bench settings fault
uncounted_of bench settings (faults.Bench fault) is = is
uncounted_of bench settings (faults.Settings fault) is = is
uncounted_of bench settings (faults.Only fault) is = is
uncounted_of bench settings (faults.Stimulus fault) is = is
uncounted_of bench settings (faults.Schedule fault) is = is
uncounted_of bench settings (faults.Run fault) is = is
uncounted_of bench settings (faults.Event number cause) is = is
uncounted_of bench settings (faults.Unfinished time) is = is
uncounted_of bench settings faults.Memory is = tt

-- memory may be wanting behind a run too
pub memory_answers : (o : Only) (names bench settings stimulus : List ℕ) (until : ℕ) → IsAnswerOf o names bench settings stimulus until (Err faults.Memory)
unfolding IsAnswer IsToldAnswer
memory_answers only.All names bench settings stimulus until = tt
memory_answers only.Outputs names bench settings stimulus until = tt
memory_answers (only.Named name) names bench settings stimulus until = tt

-- what is counted of a run is kept where a line names a file for it
kept_of : (name : Option (Bor (List ℕ))) (bench settings : List ℕ) (until : ℕ) (stats : Stats) (kept : Option Kept) → AreCountsOf bench settings until stats
    → IsKept name stats kept → IsKeptOf name bench settings until kept
kept_of None bench settings until stats kept counts is = is
kept_of (Some name) bench settings until stats kept counts is = (stats, counts, is)

-- a run of which nothing is kept is answered
pub plain_of : (run : Run) (names bench settings stimulus : List ℕ) (text : Vec ℕ Global) → run.only ≡ only.All → run.stats ≡ None
    → IsAnswer bench settings stimulus run.options.until (Ok text) → IsSimulated run names bench settings stimulus (Ok (record { text = text; kept = None }))
plain_of run names bench settings stimulus text all none is =
    (subst (λ o. IsAnswerOf o names bench settings stimulus run.options.until (Ok text)) (sym all) is, subst (λ name. IsKeptOf name bench settings run.options.until None) (sym none) refl)

-- a run that went well is answered, or memory is wanting
pub simulated_of : (run : Run) (names bench settings stimulus : List ℕ) (simulated : Simulated) (answer : Result Answer Failure)
    → IsAnswerOf run.only names bench settings stimulus run.options.until (Ok simulated.dump) → AreCountsOf bench settings run.options.until simulated.stats
    → IfOk answer (λ given. given.text ≡ simulated.dump) → IfOk answer (λ given. IsKept run.stats simulated.stats given.kept)
    → IfErr answer (λ failure. failure ≡ failures.Fault faults.Memory) → IsSimulated run names bench settings stimulus answer
simulated_of run names bench settings stimulus simulated (Ok given) dump counts text kept fault =
    (subst (λ shown. IsAnswerOf run.only names bench settings stimulus run.options.until (Ok shown)) (sym text) dump, kept_of run.stats bench settings run.options.until simulated.stats given.kept counts kept)
simulated_of run names bench settings stimulus simulated (Err failure) dump counts text kept fault =
    subst (λ told. IsSimulated run names bench settings stimulus (Err told)) (sym fault) (memory_answers run.only names bench settings stimulus run.options.until)
