-- Sentences, put together from their pieces, and what is said of a place.
use Rattle.std.specs.Prelude.{◌≡◌, ℕ, nat_lt, if◌then◌else◌, List, [], ◌∷◌, ◌++◌, length, take, codes, decimal, string_bytes}
use Rattle.text_places.specs.Told.{IsShown}
use Rattle.finding_words.specs.declared.sentences.Piece.{Piece}
use Rattle.finding_words.specs.declared.sentences.Piece.TheVariants.{Text, Quoted, Bytes, Number}
use Rattle.finding_words.specs.declared.finding.Said.{Said}

-- how many bytes of a quoted word are shown
abbrev pub most_quoted : ℕ
most_quoted = 60

-- what stands behind a quoted word: dots where it is cut off, and the backquote
abbrev pub quote_end : List ℕ → List ℕ
quote_end word = if nat_lt most_quoted (length word) then codes "..`" else codes "`"

-- a word's first bytes as they can be shown, between backquotes
pub record IsQuoted (word text : List ℕ) : Type 0 where
  pub shown : List ℕ
  pub is_shown : IsShown (take most_quoted word) shown
  pub is : text ≡ codes "`" ++ (shown ++ quote_end word)

-- what is written of a piece
abbrev pub IsWritten : Piece → List ℕ → Type 0
IsWritten (Text words) text = text ≡ words.now
IsWritten (Quoted word) text = IsQuoted word.now text
IsWritten (Bytes bytes) text = IsShown bytes.now text
IsWritten (Number number) text = text ≡ decimal number

-- pieces are written behind one another
unfoldable pub IsSentence : List Piece → List ℕ → Type 0
IsSentence [] text = text ≡ []
IsSentence (piece ∷ pieces) text = (first rest : List ℕ) × IsWritten piece first × IsSentence pieces rest × (text ≡ first ++ rest)

-- how many bytes are meant
abbrev pub meant : Said → ℕ
meant said = said.length

-- what is said of so many bytes: the cause, and what helps
pub record IsSaid (length : ℕ) (cause help : List Piece) (said : Said) : Type 0 where
  pub means : meant said ≡ length
  pub tells : IsSentence cause (string_bytes said.cause)
  pub helps : IsSentence help (string_bytes said.help)

-- the same with the help as a text
pub record IsSaidWith (length : ℕ) (cause : List Piece) (help : List ℕ) (said : Said) : Type 0 where
  pub means : meant said ≡ length
  pub tells : IsSentence cause (string_bytes said.cause)
  pub helps : string_bytes said.help ≡ help
