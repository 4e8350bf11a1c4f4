-- In which of two texts a finding stands, and what of it is meant.
use Rattle.std.specs.Prelude.{◌≡◌, ℕ, ◌≤◌, ◌⊎◌, List, length}
use Rattle.finding_words.specs.declared.finding.Said.{Said}
use Rattle.finding_words.specs.Sentences.{meant}
use Rattle.finding_words.specs.Words.{word_text}
use Rattle.dump_findings.specs.declared.inputs.Found.{Found}
use Rattle.dump_findings.specs.declared.inputs.Found.TheVariants.{InStimulus, InBench}
use Rattle.dump_findings.specs.declared.nothing.Missing.{Missing}
use Rattle.dump_findings.specs.declared.nothing.Missing.TheVariants.{InExpected, InActual}

-- in a stimulus or a bench of so many bytes
abbrev pub IsFoundIn : (stimulus bench : ℕ) → Found → Type 0
IsFoundIn stimulus bench (InStimulus finding) = finding.at ≤ stimulus
IsFoundIn stimulus bench (InBench finding) = finding.at ≤ bench

-- in a dump that is expected, or another one, of so many bytes
abbrev pub IsMissingIn : (expected actual : ℕ) → Missing → Type 0
IsMissingIn expected actual (InExpected finding) = finding.at ≤ expected
IsMissingIn expected actual (InActual finding) = finding.at ≤ actual

-- what is said of an offset means the word there, or no bytes
abbrev pub IsOfWordAt : (at : ℕ) (text : List ℕ) → Said → Type 0
IsOfWordAt at text said = (meant said ≡ length (word_text at text)) ⊎ (meant said ≡ 0)
