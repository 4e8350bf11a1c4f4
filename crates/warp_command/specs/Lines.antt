-- Which request the words of a command line give.
use Rattle.std.specs.Prelude.{◌≡◌, ◌⊎◌, ℕ, ◌<◌, ◌==◌, ◌&&◌, List, [], ◌∷◌, length, Bool, true, false, Option, None, Some, Result, Ok, Err, codes, option_map}
use Rattle.std.specs.Borrow.{Bor}
use Rattle.std.specs.List.{after_first, before_first, position_or_len}
use Rattle.std.specs.Str.{bytes_eq}
use Rattle.std.specs.Str.Parse.{IsNumeral, digits_value, without_leading_plus}
use Rattle.clap.specs.Words.{IsAmong, Row, Text, fault_of, first_of, one_of, subcommand_of}
use Rattle.clap.specs.declared.error.kind.ErrorKind.TheVariants as kind
use Rattle.warp_text.specs.declared.options.Options.{Options}
use Rattle.warp_text.specs.declared.fault.Fault.TheVariants as faults
use Rattle.warp_command.specs.App.{program_app}
use Rattle.warp_command.specs.Failures.{failure_status}
use Rattle.warp_command.specs.Outside.{is_input}
use Rattle.warp_command.specs.declared.failure.Failure.{Failure}
use Rattle.warp_command.specs.declared.failure.Failure.TheVariants as failures
use Rattle.warp_command.specs.declared.request.Request.{Request}
use Rattle.warp_command.specs.declared.request.Request.TheVariants as requests
use Rattle.warp_command.specs.declared.request.Run.{Run}
use Rattle.warp_command.specs.declared.request.Replay.{Replay}
use Rattle.warp_command.specs.declared.request.Check.{Check}
use Rattle.vcd_compare.specs.declared.report.Options.{Options as Comparing}
use Rattle.warp_command.specs.declared.request.Comparison.{Comparison}
use Rattle.warp_command.specs.declared.request.Listing.{Listing}
use Rattle.warp_command.specs.declared.request.Only.{Only}
use Rattle.warp_command.specs.declared.request.Only.TheVariants as only
use Rattle.warp_command.specs.declared.request.Sources.{Sources}
use Rattle.warp_command.specs.declared.request.Sources.TheVariants as sources

-- What stands behind a command, as `clap` parts it: a row for each option and argument that is given or has a default.
abbrev pub Rows : Type 0
Rows = List Row

-- the number of an option, by its digits, before which a plus may stand
abbrev pub number_in : Rows → Text → Option ℕ
number_in rows name = option_map (λ text. digits_value 10 (without_leading_plus text)) (one_of name rows)

-- the text of an option or an argument
abbrev pub text_in : Rows → Text → Option Text
text_in rows name = first_of name rows

-- the text that is referred to, where there is one
abbrev pub text_behind : Option (Bor Text) → Option Text
text_behind = option_map (λ text. text.now)

-- what is read of a flag, which `clap` gives as a text
pub record IsFlag (rows : Rows) (name : Text) (flag : Bool) : Type 0 where
  pub set : one_of name rows ≡ Some (codes "true") → flag ≡ true
  pub unset : one_of name rows ≡ Some (codes "false") → flag ≡ false
  pub absent : one_of name rows ≡ None → flag ≡ false

pub record AreOptions (rows : Rows) (options : Options) : Type 0 where
  pub until : number_in rows (codes "until") ≡ Some options.until
  pub blocks : number_in rows (codes "blocks") ≡ options.blocks
  pub workers : number_in rows (codes "workers") ≡ Some options.workers
  pub window : number_in rows (codes "window") ≡ Some options.window

-- `-` is standard input, which holds the stimulus too; else both texts are named
abbrev pub AreSources : Rows → Sources → Type 0
AreSources rows sources.Joined = (text_in rows (codes "BENCH") ≡ Some (codes "-")) × (text_in rows (codes "STIMULUS") ≡ None)
AreSources rows (sources.Apart bench stimulus) =
    (text_in rows (codes "BENCH") ≡ Some bench.now) × (is_input bench.now ≡ false) × (text_in rows (codes "STIMULUS") ≡ Some stimulus.now)

-- all nets, the outputs, or those that a text names, which isn't called `outputs`
abbrev pub IsOnly : Rows → Only → Type 0
IsOnly rows only.All = text_in rows (codes "only") ≡ None
IsOnly rows only.Outputs = text_in rows (codes "only") ≡ Some (codes "outputs")
IsOnly rows (only.Named name) = (text_in rows (codes "only") ≡ Some name.now) × (bytes_eq name.now (codes "outputs") ≡ false)

pub record IsRun (rows : Rows) (run : Run) : Type 0 where
  pub options : AreOptions rows run.options
  pub explains : IsFlag rows (codes "explain") run.explains
  pub settings : text_in rows (codes "settings") ≡ text_behind run.settings
  pub only : IsOnly rows run.only
  pub stats : text_in rows (codes "stats") ≡ text_behind run.stats
  pub progress : IsFlag rows (codes "progress") run.progress
  pub sources : AreSources rows run.sources

pub record IsReplay (rows : Rows) (replay : Replay) : Type 0 where
  pub until : number_in rows (codes "until") ≡ Some replay.options.until
  pub blocks : number_in rows (codes "blocks") ≡ replay.options.blocks
  pub explains : IsFlag rows (codes "explain") replay.explains
  pub settings : text_in rows (codes "settings") ≡ text_behind replay.settings
  pub only : IsOnly rows replay.only
  pub bench : text_in rows (codes "BENCH") ≡ Some replay.bench.now
  pub stimulus : text_in rows (codes "STIMULUS") ≡ Some replay.stimulus.now
  pub schedule : text_in rows (codes "SCHEDULE") ≡ Some replay.schedule.now

pub record IsCheck (rows : Rows) (check : Check) : Type 0 where
  pub explains : IsFlag rows (codes "explain") check.explains
  pub settings : text_in rows (codes "settings") ≡ text_behind check.settings
  pub bench : text_in rows (codes "BENCH") ≡ Some check.bench.now

pub record IsListing (rows : Rows) (listing : Listing) : Type 0 where
  pub explains : IsFlag rows (codes "explain") listing.explains
  pub settings : text_in rows (codes "settings") ≡ text_behind listing.settings
  pub bench : text_in rows (codes "BENCH") ≡ Some listing.bench.now

-- a text writes a number
pub record IsNumber (text : Text) (number : ℕ) : Type 0 where
  pub numeral : IsNumeral 10 (without_leading_plus text)
  pub value : number ≡ digits_value 10 (without_leading_plus text)

-- a text is parted at its first byte of this kind
pub record AreParted (byte : ℕ) (text front back : Text) : Type 0 where
  pub some : position_or_len (λ b. b == byte) text < length text
  pub front_is : front ≡ before_first (λ b. b == byte) text
  pub back_is : back ≡ after_first (λ b. b == byte) text

-- two scopes, parted by `=`, or none
abbrev pub AreScopes : Option Text → (expected actual : Option Text) → Type 0
AreScopes None expected actual = (expected ≡ None) × (actual ≡ None)
AreScopes (Some text) expected actual =
    (front : Text) × (back : Text) × AreParted 61 text front back × (expected ≡ Some front) × (actual ≡ Some back)

-- a time and a step that goes on, parted by `:`, or none
abbrev pub AreStrobes : Option Text → Option (ℕ × ℕ) → Type 0
AreStrobes None strobes = strobes ≡ None
AreStrobes (Some text) None = ⊥
AreStrobes (Some text) (Some strobe) =
    (front : Text) × (back : Text) × AreParted 58 text front back × IsNumber front strobe.0 × IsNumber back strobe.1 × (0 < strobe.1)

-- how much later, or behind a `-` how much earlier
abbrev pub IsOffset : Option Text → (later earlier : ℕ) → Type 0
IsOffset None later earlier = (later ≡ 0) × (earlier ≡ 0)
IsOffset (Some text) later earlier =
    (IsNumber text later × (earlier ≡ 0)) ⊎ ((digits : Text) × (text ≡ 45 ∷ digits) × (later ≡ 0) × IsNumber digits earlier)

pub record AreComparing (rows : Rows) (options : Comparing) : Type 0 where
  pub scopes : AreScopes (text_in rows (codes "scope")) (text_behind options.expected_scope) (text_behind options.actual_scope)
  pub from : number_in rows (codes "from") ≡ Some options.from
  pub to : number_in rows (codes "to") ≡ options.to
  pub offset : IsOffset (text_in rows (codes "offset")) options.later options.earlier
  pub within : number_in rows (codes "within") ≡ Some options.within
  pub strobes : AreStrobes (text_in rows (codes "at")) options.strobes
  pub any_for_x : IsFlag rows (codes "any-for-x") options.any_for_x

pub record IsComparison (rows : Rows) (comparison : Comparison) : Type 0 where
  pub options : AreComparing rows comparison.options
  pub explains : IsFlag rows (codes "explain") comparison.explains
  pub map : text_in rows (codes "map") ≡ text_behind comparison.map
  pub most : number_in rows (codes "list") ≡ Some comparison.most
  pub expected : text_in rows (codes "EXPECTED") ≡ Some comparison.expected.now
  pub actual : text_in rows (codes "ACTUAL") ≡ Some comparison.actual.now
  pub apart : (is_input comparison.expected.now && is_input comparison.actual.now) ≡ false

-- a line that is parted into this command and rows that say this
pub record Commands (parted : Option (Text × Rows)) (command : Text) (Says : Rows → Type 0) : Type 0 where
  pub rows : Rows
  pub is_parted : parted ≡ Some (command, rows)
  pub said : Says rows

-- what a line asks for that is parted into a command and rows
abbrev pub Asks : Option (Text × Rows) → Request → Type 0
Asks parted (requests.Help text) = ⊥
Asks parted (requests.Run run) = Commands parted (codes "run") (λ rows. IsRun rows run)
Asks parted (requests.Replay replay) = Commands parted (codes "replay") (λ rows. IsReplay rows replay)
Asks parted (requests.Check check) = Commands parted (codes "check") (λ rows. IsCheck rows check)
Asks parted (requests.Nets listing) = Commands parted (codes "nets") (λ rows. IsListing rows listing)
Asks parted (requests.Compare comparison) = Commands parted (codes "compare") (λ rows. IsComparison rows comparison)

-- the line asks for help, or for the version
abbrev pub AsksForHelp : List Text → Type 0
AsksForHelp words = IsAmong kind.DisplayHelp (fault_of program_app words) ⊎ IsAmong kind.DisplayVersion (fault_of program_app words)

-- what the words of a line ask for: `clap` finds no fault in them and parts them, or has help to show
abbrev pub IsRequest : List Text → Request → Type 0
IsRequest words (requests.Help text) = AsksForHelp words
IsRequest words request = (fault_of program_app words ≡ []) × Asks (subcommand_of program_app words) request

-- a line is refused with status 2, or memory ran out
abbrev pub IsOfLine : Failure → Type 0
IsOfLine failure = (failure_status failure ≡ 2) ⊎ (failure ≡ failures.Fault faults.Memory)

-- what is read of a line, or a failure of lines
abbrev pub IsRead : {T : Type 0} → (T → Type 0) → Result T Failure → Type 0
IsRead Is (Ok read) = Is read
IsRead Is (Err failure) = IsOfLine failure
