-- What is read of a line on the way to its request.
use Rattle.std.specs.Prelude.{◌≡◌, ◌⊎◌, Some, codes}
use Rattle.clap.specs.Words.{found_of, rows_of}
use Rattle.clap.specs.declared.parser.matches.ArgMatches.{ArgMatches}
use Rattle.clap.specs.declared.error.kind.ErrorKind.{ErrorKind}
use Rattle.clap.specs.declared.error.kind.ErrorKind.TheVariants as kind
use Rattle.warp_text.specs.declared.options.Options.{Options}
use Rattle.warp_command.specs.Lines.{Rows, number_in}
use Rattle.warp_command.specs.declared.request.Request.{Request}
use Rattle.warp_command.specs.declared.request.Request.TheVariants as requests

abbrev pub rows_in : ArgMatches → Rows
rows_in matches = rows_of (found_of matches)

pub record AreReplayOptions (rows : Rows) (options : Options) : Type 0 where
  pub until : number_in rows (codes "until") ≡ Some options.until
  pub blocks : number_in rows (codes "blocks") ≡ options.blocks

-- what is asked for where `clap` has a text of this kind to show
abbrev pub IsToldAs : ErrorKind → Request → Type 0
IsToldAs k (requests.Help text) = (k ≡ kind.DisplayHelp) ⊎ (k ≡ kind.DisplayVersion)
IsToldAs k _ = ⊥
