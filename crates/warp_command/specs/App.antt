-- The program's commands, options and arguments, as far as they say which words `clap` takes.
use Rattle.std.specs.Prelude.{ℕ, List, [], ◌∷◌, Some, true, false, pos, codes}
use Rattle.clap.specs.Words.{App, Rule, Shape, Text, new_rule}
use Rattle.clap.specs.Simple.{new_shape}
use Rattle.clap.specs.declared.builder.action.ArgAction.TheVariants.{Set, SetTrue}
use Rattle.clap.specs.declared.builder.value_parser.ValueParser.{ValueParser}
use Rattle.clap.specs.declared.builder.value_parser.ValueParser.TheVariants.{Signed, Unsigned}
use Rattle.warp_process.specs.Limits.{most_horizon}
use Rattle.warp_text.specs.declared.options.TheConstants.{MOST_BLOCKS, MOST_WORKERS, MOST_WINDOW}

-- an option that is followed by its value
abbrev pub option : Text → Rule
option name = record (new_rule name) { long = Some name; value_names = 1; action = Some Set }

-- one whose value is a number in these limits
abbrev pub number_option : Text → ValueParser → Rule
number_option name numbers = record (option name) { parser = Some numbers }

abbrev pub with_default : Rule → Text → Rule
with_default rule value = record rule { defaults = value ∷ [] }

abbrev pub required : Rule → Rule
required rule = record rule { required = true }

-- the options
abbrev pub until_rule : Rule
until_rule = required (number_option (codes "until") (Unsigned 0 most_horizon))

abbrev pub blocks_rule : Rule
blocks_rule = number_option (codes "blocks") (Signed (pos 1) (pos MOST_BLOCKS))

abbrev pub workers_rule : Rule
workers_rule = with_default (number_option (codes "workers") (Signed (pos 1) (pos MOST_WORKERS))) (codes "1")

abbrev pub window_rule : Rule
window_rule = with_default (number_option (codes "window") (Signed (pos 1) (pos MOST_WINDOW))) (codes "1000")

abbrev pub settings_rule : Rule
settings_rule = option (codes "settings")

abbrev pub only_rule : Rule
only_rule = option (codes "only")

abbrev pub stats_rule : Rule
stats_rule = option (codes "stats")

-- a flag, which is set or not
abbrev pub progress_rule : Rule
progress_rule = record (new_rule (codes "progress")) { long = Some (codes "progress"); action = Some SetTrue }

abbrev pub explain_rule : Rule
explain_rule = record (new_rule (codes "explain")) { long = Some (codes "explain"); action = Some SetTrue }

-- those of a comparison
abbrev pub flag : Text → Rule
flag name = record (new_rule name) { long = Some name; action = Some SetTrue }

abbrev pub most_time : ℕ
most_time = 18446744073709551615

abbrev pub time_option : Text → Rule
time_option name = number_option name (Unsigned 0 most_time)

abbrev pub scope_rule : Rule
scope_rule = option (codes "scope")

abbrev pub map_rule : Rule
map_rule = option (codes "map")

abbrev pub from_rule : Rule
from_rule = with_default (time_option (codes "from")) (codes "0")

abbrev pub to_rule : Rule
to_rule = time_option (codes "to")

abbrev pub offset_rule : Rule
offset_rule = option (codes "offset")

abbrev pub within_rule : Rule
within_rule = with_default (time_option (codes "within")) (codes "0")

abbrev pub at_rule : Rule
at_rule = option (codes "at")

abbrev pub any_for_x_rule : Rule
any_for_x_rule = flag (codes "any-for-x")

abbrev pub list_rule : Rule
list_rule = with_default (number_option (codes "list") (Signed (pos 0) (pos 4294967295))) (codes "20")

-- the arguments without a name, in their order
abbrev pub bench_rule : Rule
bench_rule = required (new_rule (codes "BENCH"))

abbrev pub stimulus_rule : Rule
stimulus_rule = new_rule (codes "STIMULUS")

abbrev pub schedule_rule : Rule
schedule_rule = required (new_rule (codes "SCHEDULE"))

abbrev pub expected_rule : Rule
expected_rule = required (new_rule (codes "EXPECTED"))

abbrev pub actual_rule : Rule
actual_rule = required (new_rule (codes "ACTUAL"))

-- the commands
abbrev pub shape : Text → List Rule → Shape
shape name rules = record (new_shape name) { rules = rules }

abbrev pub run_shape : Shape
run_shape = shape (codes "run")
    (until_rule ∷ blocks_rule ∷ workers_rule ∷ window_rule ∷ settings_rule ∷ only_rule ∷ stats_rule ∷ progress_rule ∷ explain_rule ∷ bench_rule ∷ stimulus_rule ∷ [])

abbrev pub replay_shape : Shape
replay_shape = shape (codes "replay")
    (until_rule ∷ blocks_rule ∷ settings_rule ∷ only_rule ∷ explain_rule ∷ bench_rule ∷ required stimulus_rule ∷ schedule_rule ∷ [])

abbrev pub check_shape : Shape
check_shape = shape (codes "check") (settings_rule ∷ explain_rule ∷ bench_rule ∷ [])

abbrev pub nets_shape : Shape
nets_shape = shape (codes "nets") (settings_rule ∷ explain_rule ∷ bench_rule ∷ [])

abbrev pub compare_shape : Shape
compare_shape = shape (codes "compare")
    (scope_rule ∷ map_rule ∷ from_rule ∷ to_rule ∷ offset_rule ∷ within_rule ∷ at_rule ∷ any_for_x_rule ∷ list_rule ∷ explain_rule ∷ expected_rule ∷ actual_rule ∷ [])

-- the program, which does nothing without a command
unfoldable pub program_app : App
program_app = record {
  top = record (shape (codes "warp_sim") []) {
    is_leaf = false;
    has_version = true;
    arg_required_else_help = true;
    subcommand_required = true;
  };
  subs = run_shape ∷ replay_shape ∷ check_shape ∷ nets_shape ∷ compare_shape ∷ [];
}
