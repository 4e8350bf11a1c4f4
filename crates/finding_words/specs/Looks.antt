-- What texts of another kind than the expected one are called, and what is said of them.
use Rattle.std.specs.Prelude.{◌≡◌, ℕ, nat_eq, Bool, not, ◌&&◌, ◌||◌, if◌then◌else◌, List, [], ◌∷◌, ◌++◌, codes, string_bytes, Option, None, Some}
use Rattle.std.specs.List.{starts_with}
use Rattle.finding_words.specs.Sentences.{meant}
use Rattle.finding_words.specs.declared.finding.Said.{Said}
use Rattle.finding_words.specs.declared.look.Look.{Look}
use Rattle.finding_words.specs.declared.look.Look.TheVariants as looks
use Rattle.finding_words.specs.declared.causes.Kind.{Kind}
use Rattle.finding_words.specs.declared.causes.Kind.TheVariants as kinds
use Rattle.finding_words.specs.declared.form.State.{State}
use Rattle.finding_words.specs.declared.form.State.TheVariants as states

abbrev pub begins : (mark text : List ℕ) → Bool
begins mark text = starts_with nat_eq text mark

-- two bytes of which just one is 0, as of letters of ASCII in UTF-16
abbrev pub begins_wide : List ℕ → Bool
begins_wide [] = nat_eq 0 1
begins_wide (first ∷ []) = nat_eq 0 1
begins_wide (first ∷ second ∷ text) = (nat_eq first 0 && not (nat_eq second 0)) || (nat_eq second 0 && not (nat_eq first 0))

-- what a text looks like that begins with bytes with which no text begins: the mark of UTF-8 (Unicode 15.0, section 23.8),
-- those of UTF-16, gzip's (RFC 1952, section 2.3.1), an FST's head, whose length is 329
abbrev pub look_by_bytes : List ℕ → Option Look
look_by_bytes text =
    if begins (0xEF ∷ 0xBB ∷ 0xBF ∷ []) text then Some looks.ByteOrderMark
    else if begins (0xFF ∷ 0xFE ∷ []) text || begins (0xFE ∷ 0xFF ∷ []) text then Some looks.Utf16
    else if begins (0x1F ∷ 0x8B ∷ []) text then Some looks.Gzip
    else if begins (0 ∷ 0 ∷ 0 ∷ 0 ∷ 0 ∷ 0 ∷ 0 ∷ 1 ∷ 73 ∷ []) text then Some looks.Fst
    else if begins_wide text then Some looks.Utf16
    else None

-- what a text is called, with its article
abbrev pub look_name : Look → List ℕ
look_name looks.ByteOrderMark = codes "a text with a byte order mark"
look_name looks.Utf16 = codes "a text in UTF-16"
look_name looks.Gzip = codes "compressed by gzip"
look_name looks.Fst = codes "a dump in the format FST"
look_name looks.Verilog = codes "Verilog"
look_name looks.Vhdl = codes "VHDL"
look_name looks.Dump = codes "a value change dump"
look_name looks.PortDump = codes "an extended value change dump, of ports"
look_name looks.Bench = codes "a bench"
look_name looks.Settings = codes "a settings text"
look_name looks.Other = codes "something else"

-- what is expected, with its article
abbrev pub kind_name : Kind → List ℕ
kind_name kinds.Bench = codes "the bench"
kind_name kinds.Settings = codes "the settings' text"
kind_name kinds.Stimulus = codes "the stimulus"
kind_name kinds.Schedule = codes "the schedule"
kind_name kinds.Names = codes "a list of nets"
kind_name kinds.Dump = codes "a dump"
kind_name kinds.Map = codes "the map"

-- how it is expected
abbrev pub manner : Look → List ℕ
manner looks.ByteOrderMark = codes " is expected in UTF-8"
manner looks.Utf16 = codes " is expected in UTF-8"
manner looks.Gzip = codes " is expected as plain text"
manner look = codes " is expected here"

-- a text that looks like this stands where one of that kind is expected: no bytes are meant
pub record IsMistaken (look : Look) (kind : Kind) (said : Said) : Type 0 where
  pub means : meant said ≡ 0
  pub tells : string_bytes said.cause ≡ codes "this is " ++ (look_name look ++ (codes ", and " ++ (kind_name kind ++ manner look)))

-- what is expected behind the pieces of a bench's line
abbrev pub expected_in : State → List ℕ
expected_in states.Nothing = codes "a name, INPUT or OUTPUT"
expected_in states.Port = codes "`(`"
expected_in states.PortOpen = codes "a name"
expected_in states.PortName = codes "`)`"
expected_in states.Net = codes "`=`"
expected_in states.Equals = codes "a gate"
expected_in states.Gate = codes "`(`"
expected_in states.GateOpen = codes "a name or `)`"
expected_in states.Comma = codes "a name"
expected_in states.Input = codes "`,` or `)`"
expected_in states.End = codes "the line's end"
