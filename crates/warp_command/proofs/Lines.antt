-- From what `clap` answers to what the words of a line ask for.
use Rattle.std.proofs.Common.{◌≡◌, ◌⊎◌, ◌∙◌, ap, sym, subst, inl, inr, refl, ℕ, List, [], Bool, false, true, Option, None, Some, Result, Ok, Err, option_map, codes}
use Rattle.std.proofs.lemmas.Slice.Eq.{bytes_eq-Decides}
use Rattle.std.specs.Borrow.{Bor}
use Rattle.std.specs.Result.{result_unwrap_or}
use Rattle.std.specs.Str.{bytes_eq}
use Rattle.std.specs.Str.Parse.{ExplainsUnsignedError, HasUnsignedDigitsIfOk, ParsesUnsigned, digits_value, without_leading_plus}
use Rattle.std.specs.declared.num.ParseIntError.{ParseIntError}
use Rattle.clap.proofs.WalkLemmas.{first_value-rows, one_text-rows}
use Rattle.clap.specs.Words.{App, HasMatchesOf, IsAmong, ReadsOne, Text, TriesOne, fault_of, first_value, found_of, is_simple, is_simple_and_free, one_text, subcommand_of, subcommand_rows_of}
use Rattle.clap.specs.declared.error.kind.ErrorKind.{ErrorKind}
use Rattle.clap.specs.declared.error.kind.ErrorKind.TheVariants as kind
use Rattle.clap.specs.declared.parser.matches.ArgMatches.{ArgMatches}
use Rattle.warp_command.specs.App.{program_app}
use Rattle.warp_command.specs.Lines.{Asks, Rows, IsFlag, IsRead, IsRequest, number_in, text_in, text_behind}
use Rattle.warp_command.specs.Outside.{is_input}
use Rattle.warp_command.specs.Inner.Line.{IsToldAs, rows_in}
use Rattle.warp_command.specs.declared.failure.Failure.{Failure}
use Rattle.warp_command.specs.declared.request.Request.{Request}
use Rattle.warp_command.specs.declared.request.Request.TheVariants as requests

-- ---- what is read of a command's rows

-- the text that `clap` reads of a name stands in the rows
pub text_read : (m : ArgMatches) (name : Text) (text : Option (Bor Text)) → text_behind text ≡ first_value (found_of m) name → text_in (rows_in m) name ≡ text_behind text
text_read m name text is = sym (first_value-rows (found_of m) name) ∙ sym is

-- the flag that `clap` reads of a name is that of the rows
pub flag_read : (m : ArgMatches) (name : Text) (flag : Bool) → (one_text (found_of m) name ≡ None → flag ≡ false)
    → (one_text (found_of m) name ≡ Some (codes "true") → flag ≡ true) → (one_text (found_of m) name ≡ Some (codes "false") → flag ≡ false)
    → IsFlag (rows_in m) name flag
flag_read m name flag none set unset = record {
  set = λ is. set (one_text-rows (found_of m) name ∙ is);
  unset = λ is. unset (one_text-rows (found_of m) name ∙ is);
  absent = λ is. none (one_text-rows (found_of m) name ∙ is);
}

-- the name of standard input
pub input_named : (text : Option Text) (name : Text) → text ≡ Some name → is_input name ≡ true → text ≡ Some (codes "-")
input_named text name is input = is ∙ ap Some ((bytes_eq-Decides name (codes "-")).0 input)

-- the name of the outputs
pub outputs_named : (text : Option Text) (name : Text) → text ≡ Some name → bytes_eq name (codes "outputs") ≡ true → text ≡ Some (codes "outputs")
outputs_named text name is same = is ∙ ap Some ((bytes_eq-Decides name (codes "outputs")).0 same)

-- the number that a text writes
abbrev IsNumber : Option ℕ → Text → Type 0
IsNumber number text = number ≡ Some (digits_value 10 (without_leading_plus text))

-- the number of the text that `clap` reads of a name stands in the rows
number_read : (m : ArgMatches) (name : Text) (number : Option ℕ) → (one_text (found_of m) name ≡ None → number ≡ None)
    → ((text : Text) → one_text (found_of m) name ≡ Some text → IsNumber number text) → number_in (rows_in m) name ≡ number
number_read m name number none some = go (one_text (found_of m) name) refl
  where
    value : Option Text → Option ℕ
    value = option_map (λ text. digits_value 10 (without_leading_plus text))

    go : (text : Option Text) → one_text (found_of m) name ≡ text → number_in (rows_in m) name ≡ number
    go None is = ap value (sym (one_text-rows (found_of m) name) ∙ is) ∙ sym (none is)
    go (Some text) is = ap value (sym (one_text-rows (found_of m) name) ∙ is) ∙ sym (some text is)

-- how std reads a number of k bits
abbrev pub Reads : ℕ → List ℕ → Result ℕ ParseIntError → Type 0
Reads k text answer = ParsesUnsigned k 10 text answer × ExplainsUnsignedError 10 text answer × HasUnsignedDigitsIfOk text answer

module _ (k : ℕ) (m : ArgMatches) (name : Text) where
  tried_is : (number : Option ℕ) (text : Text) → TriesOne (Reads k) text (Ok number) → IsNumber number text
  tried_is None text h = absurd h
  tried_is (Some number) text h = ap Some h.0.1

  -- a number that may be left out
  pub number_tried : (answer : Result (Option ℕ) ParseIntError) (number : Option ℕ) → answer ≡ Ok number
      → (one_text (found_of m) name ≡ None → answer ≡ Ok None)
      → ((text : Text) → one_text (found_of m) name ≡ Some text → TriesOne (Reads k) text answer) → number_in (rows_in m) name ≡ number
  number_tried answer number is none some =
      number_read m name number (λ left. ap (λ (r : Result (Option ℕ) ParseIntError). result_unwrap_or r None) (sym is ∙ none left))
      (λ text has. tried_is number text (rw is at (some text has)))

  -- a number that is there
  pub number_given : (answer : Option ℕ) (number : ℕ) → answer ≡ Some number → (one_text (found_of m) name ≡ None → answer ≡ None)
      → ((text : Text) → one_text (found_of m) name ≡ Some text → ReadsOne (Reads k) text answer) → number_in (rows_in m) name ≡ Some number
  number_given answer number is none some =
      number_read m name (Some number) (λ left. sym is ∙ none left) (λ text has. given_is number text (rw is at (some text has)))
    where
      given_is : (number : ℕ) (text : Text) → ReadsOne (Reads k) text (Some number) → IsNumber (Some number) text
      given_is number text h = ap Some h.0.1

-- ---- the program's command

-- `clap` says exactly which matches and which kinds of error it has
program_app-simple : is_simple program_app ≡ true
unfolding program_app
program_app-simple = refl

program_app-free : is_simple_and_free program_app ≡ true
unfolding program_app
program_app-free = refl

asked_of : (words : List Text) (parted : Option (Text × Rows)) (result : Result Request Failure) → fault_of program_app words ≡ []
    → parted ≡ subcommand_of program_app words → IsRead (Asks parted) result → IsRead (IsRequest words) result
asked_of words parted (Ok (requests.Help text)) none same asks = absurd asks
asked_of words parted (Ok (requests.Run run)) none same asks = (none, rw same at asks)
asked_of words parted (Ok (requests.Replay replay)) none same asks = (none, rw same at asks)
asked_of words parted (Ok (requests.Check check)) none same asks = (none, rw same at asks)
asked_of words parted (Ok (requests.Nets listing)) none same asks = (none, rw same at asks)
asked_of words parted (Ok (requests.Compare comparison)) none same asks = (none, rw same at asks)
asked_of words parted (Err failure) none same of_line = of_line

-- what the matches ask for, the words ask for
pub asked : (app : App) (words : List Text) (m : ArgMatches) (result : Result Request Failure) → app ≡ program_app → HasMatchesOf app words m
    → (is_simple_and_free app ≡ true → fault_of app words ≡ []) → IsRead (Asks (subcommand_rows_of m)) result → IsRead (IsRequest words) result
asked app words m result is matches faultless =
    let found = (rw is at matches) program_app-simple in
    let none = (rw is at faultless) program_app-free in
    asked_of words (subcommand_rows_of m) result none found.1

among : (words : List Text) (k shown : ErrorKind) → (k ≡ kind.OutOfMemory) ⊎ IsAmong k (fault_of program_app words) → k ≡ shown → (kind.OutOfMemory ≡ shown → ⊥)
    → IsAmong shown (fault_of program_app words)
among words k shown (inl memory) is other = absurd (other (sym memory ∙ is))
among words k shown (inr some) is other = subst (λ k. IsAmong k (fault_of program_app words)) is some

shown_of : (words : List Text) (k : ErrorKind) (result : Result Request Failure) → (k ≡ kind.OutOfMemory) ⊎ IsAmong k (fault_of program_app words)
    → IsRead (IsToldAs k) result → IsRead (IsRequest words) result
shown_of words k (Ok (requests.Help text)) has (inl is) = inl (among words k _ has is (λ e. cc))
shown_of words k (Ok (requests.Help text)) has (inr is) = inr (among words k _ has is (λ e. cc))
shown_of words k (Ok (requests.Run run)) has told = absurd told
shown_of words k (Ok (requests.Replay replay)) has told = absurd told
shown_of words k (Ok (requests.Check check)) has told = absurd told
shown_of words k (Ok (requests.Nets listing)) has told = absurd told
shown_of words k (Ok (requests.Compare comparison)) has told = absurd told
shown_of words k (Err failure) has of_line = of_line

-- what `clap` has to show, the words ask for
pub shown : (app : App) (words : List Text) (k : ErrorKind) (result : Result Request Failure) → app ≡ program_app
    → (is_simple_and_free app ≡ true → (k ≡ kind.OutOfMemory) ⊎ IsAmong k (fault_of app words)) → IsRead (IsToldAs k) result → IsRead (IsRequest words) result
shown app words k result is has = shown_of words k result ((rw is at has) program_app-free)
