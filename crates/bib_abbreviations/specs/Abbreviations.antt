-- Meaning: words of public contracts.
-- Abbreviations: the styled text of a field in which each name is replaced by its definition or by a month. Names and texts are
-- lists of their bytes.
use Rattle.std.specs.Prelude.{◌≡◌, ◌+◌, ◌<◌, ◌^◌, ℕ, Bool, List, [], ◌∷◌, ◌++◌, length, map, ◌⊎◌, ◌||◌, Option, Some, None, find, is_some, bytes_eq, reverse}
use Rattle.std.specs.Option.{option_map}
use Rattle.std.specs.Borrow.{Bor}
use Rattle.std.specs.Str.{chars}
use Rattle.std.specs.Global.{Vec}
use Rattle.std.specs.BTreeMap.{BTreeMap}
use Rattle.std.specs.HashMap.{HashMap}
use Rattle.std.specs.Map.{lookup}
use Rattle.bib_text.specs.declared.spanned.Spanned.{Spanned}
use Rattle.bib_chunks.specs.declared.chunk.Chunk.{Chunk}
use Rattle.bib_chunks.specs.Joined.{AreJoined, ArePlaced}
use Rattle.bib_chunks.specs.Styled.{Atom, styled}
use Rattle.bib_syntax.specs.declared.raw.RawChunk.{RawChunk}
use Rattle.bib_syntax.specs.declared.raw.ParseErrorKind.{ParseErrorKind}
use Rattle.bib_syntax.specs.declared.raw.ParseErrorKind.TheVariants.{UnknownAbbreviation, AbbreviationCycle}
use Rattle.bib_syntax.specs.declared.raw.ParseError.{ParseError}
use Rattle.bib_contents.specs.ContentErrors.{ContentFails}
use Rattle.bib_contents.specs.Contents.{IsContent, IsUnread, LiesBetween}
use Rattle.bib_tables.specs.Months as months
use Rattle.bib_tables.specs.Months.{month_of_abbreviation}
use Rattle.bib_syntax.specs.Reading.{FieldReading, Part, Piece}
use Rattle.bib_syntax.specs.Reading.Piece.{literal, abbreviation}
use Rattle.bib_syntax.specs.Views.{piece_of}

-- the definition of each name that has one
abbrev pub Definitions : Type 0
Definitions = List ℕ → Option (List Piece)

-- the definitions of a file: the last one of each name counts, even after its use; names are compared byte by byte
abbrev pub definition_in : List FieldReading → Definitions
definition_in abbreviations name = option_map (λ f. f.value.pieces) (find (λ f. bytes_eq name f.name.text) (reverse abbreviations))

-- the English name of the month that a name abbreviates, in any ASCII case
abbrev pub month : List ℕ → Option (List ℕ)
month name = option_map months.month_name (month_of_abbreviation name)

-- a name occurs among these pieces
abbrev pub HoldsName : List Piece → List ℕ → Type 0
HoldsName [] name = ⊥
HoldsName (literal p ∷ rest) name = HoldsName rest name
HoldsName (abbreviation p ∷ rest) name = (p.text ≡ name) ⊎ HoldsName rest name

-- a text is that of a literal among these pieces
abbrev pub HoldsText : List Piece → List ℕ → Type 0
HoldsText [] text = ⊥
HoldsText (literal p ∷ rest) text = (p.text ≡ text) ⊎ HoldsText rest text
HoldsText (abbreviation p ∷ rest) text = HoldsText rest text

-- a field reaches the names in it, and those in the definitions of reached names
pub data Reaches (definitions : Definitions) (field : List Piece) : List ℕ → Type 0 where
  held : {name : List ℕ} → HoldsName field name → Reaches definitions field name
  through : {name next : List ℕ} {definition : List Piece} → Reaches definitions field name
      → definitions name ≡ Some definition → HoldsName definition next → Reaches definitions field next

-- a name is defined, or the abbreviation of a month
abbrev pub IsKnown : Definitions → List ℕ → Type 0
IsKnown definitions name =
    ((definition : List Piece) × (definitions name ≡ Some definition))
    ⊎ ((english : List ℕ) × (month name ≡ Some english))

-- whether a name is defined, or is the first three letters of a month in any ASCII case
abbrev pub is_known : Definitions → List ℕ → Bool
is_known definitions name = is_some (definitions name) || is_some (month name)

-- the text of each literal among these pieces can be parsed
abbrev pub AreRead : Bool → List Piece → Type 0
AreRead is_verbatim pieces = (text : List ℕ) → HoldsText pieces text → (atoms : List Atom) × IsContent is_verbatim (chars text) atoms

-- a field can be parsed. Each name that it reaches is known, and none of them reaches itself. The literals in the field
-- and in the definitions of the names that it reaches can be parsed.
pub record IsReadable (definitions : Definitions) (is_verbatim : Bool) (field : List Piece) : Type 0 where
  pub known : (name : List ℕ) → Reaches definitions field name → IsKnown definitions name
  pub no_cycle : (name : List ℕ) (definition : List Piece) → Reaches definitions field name → definitions name ≡ Some definition
      → Reaches definitions definition name → ⊥
  pub texts : AreRead is_verbatim field
  pub inner_texts : (name : List ℕ) (definition : List Piece) → Reaches definitions field name → definitions name ≡ Some definition
      → AreRead is_verbatim definition

-- the styled text of pieces. A literal has the contents of its text. A name has the styled text of its definition or,
-- if it has none, the name of a month as normal text.
pub data Evaluates (definitions : Definitions) (is_verbatim : Bool) : List Piece → List Atom → Type 0 where
  none : Evaluates definitions is_verbatim [] []
  text : {p : Part} {rest : List Piece} {first more : List Atom} → IsContent is_verbatim (chars p.text) first
      → Evaluates definitions is_verbatim rest more → Evaluates definitions is_verbatim (literal p ∷ rest) (first ++ more)
  defined : {p : Part} {rest definition : List Piece} {first more : List Atom} → definitions p.text ≡ Some definition
      → Evaluates definitions is_verbatim definition first → Evaluates definitions is_verbatim rest more
      → Evaluates definitions is_verbatim (abbreviation p ∷ rest) (first ++ more)
  month_name : {p : Part} {rest : List Piece} {english : List ℕ} {more : List Atom} → definitions p.text ≡ None
      → month p.text ≡ Some english
      → Evaluates definitions is_verbatim rest more
      → Evaluates definitions is_verbatim (abbreviation p ∷ rest) (map Atom.normal (chars english) ++ more)

-- a name is among those that are being expanded
abbrev pub IsOnPath : List (List ℕ) → List ℕ → Type 0
IsOnPath [] name = ⊥
IsOnPath (one ∷ path) name = (one ≡ name) ⊎ IsOnPath path name

-- the error with this kind and the span of a piece
abbrev pub error_at : Part → ParseErrorKind → ParseError
error_at p kind = record { span = record { start = p.start; end = p.end }; kind = kind }

-- the span of an error lies in that of a literal, if this is as long as its text and its end is below 2^64
abbrev pub LiesInPart : Part → ParseError → Type 0
LiesInPart p e = p.end ≡ p.start + length p.text → p.end < 2 ^ 64 → LiesBetween p.start p.end e

-- the first error of pieces, from left to right and into definitions where their names occur; `path` is the names that
-- are being expanded. It is the error of a literal that can't be parsed, of an unknown name or of a name in `path`. The
-- error of a literal has the kind with which its text fails.
pub data IsFirstError (definitions : Definitions) (is_verbatim : Bool) : List (List ℕ) → List Piece → ParseError → Type 0 where
  unread : {path : List (List ℕ)} {p : Part} {rest : List Piece} {e : ParseError}
      → ContentFails is_verbatim 0 (chars p.text) e.kind → LiesInPart p e
      → IsFirstError definitions is_verbatim path (literal p ∷ rest) e
  unknown : {path : List (List ℕ)} {p : Part} {rest : List Piece} {e : ParseError} → definitions p.text ≡ None → month p.text ≡ None
      → e ≡ error_at p (UnknownAbbreviation p.text) → IsFirstError definitions is_verbatim path (abbreviation p ∷ rest) e
  cycle : {path : List (List ℕ)} {p : Part} {rest : List Piece} {e : ParseError} → IsOnPath path p.text
      → e ≡ error_at p (AbbreviationCycle p.text) → IsFirstError definitions is_verbatim path (abbreviation p ∷ rest) e
  inside : {path : List (List ℕ)} {p : Part} {rest definition : List Piece} {e : ParseError} → (IsOnPath path p.text → ⊥)
      → definitions p.text ≡ Some definition → IsFirstError definitions is_verbatim (p.text ∷ path) definition e
      → IsFirstError definitions is_verbatim path (abbreviation p ∷ rest) e
  following : {path : List (List ℕ)} {piece : Piece} {rest : List Piece} {atoms : List Atom} {e : ParseError}
      → Evaluates definitions is_verbatim (piece ∷ []) atoms → IsFirstError definitions is_verbatim path rest e
      → IsFirstError definitions is_verbatim path (piece ∷ rest) e

-- chunks are the contents of a field: they have the styled text of its pieces, and no two neighbours are both normal or both
-- verbatim. If the field is one literal whose span is as long as its text, the chunks lie in that span, in order
pub record AreContents (definitions : Definitions) (is_verbatim : Bool) (pieces : List Piece) (chunks : List (Spanned Chunk)) : Type 0 where
  pub says : Evaluates definitions is_verbatim pieces (styled chunks)
  pub joined : AreJoined chunks
  pub placed : (p : Part) → pieces ≡ literal p ∷ [] → p.end ≡ p.start + length p.text → ArePlaced p.start p.end chunks

-- a field can't be parsed, and this is its first error
abbrev pub IsContentsError : Definitions → Bool → List Piece → ParseError → Type 0
IsContentsError definitions is_verbatim pieces e =
    IsFirstError definitions is_verbatim [] pieces e × (IsReadable definitions is_verbatim pieces → ⊥)

-- two errors agree: they are equal, or both are of a literal that can't be parsed and have the same kind
abbrev pub AreOneError : ParseError → ParseError → Type 0
AreOneError e f = (e ≡ f) ⊎ (IsUnread e.kind × (e.kind ≡ f.kind))

-- the definition of a name among pairs of a name and a field: that of the first pair with the name
abbrev pub definition_among : List (Bor (List ℕ) × Bor (Vec (Spanned RawChunk))) → Definitions
definition_among pairs name = option_map (λ field. map piece_of field.now.items) (lookup (λ key. bytes_eq name key.now) pairs)

-- the definitions in a hash map
abbrev pub defined_in : {S : Type 0} → HashMap (Bor (List ℕ)) (Bor (Vec (Spanned RawChunk))) S → Definitions
defined_in m = definition_among m.entries

-- the definitions in a sorted map
abbrev pub sorted_in : BTreeMap (Bor (List ℕ)) (Bor (Vec (Spanned RawChunk))) → Definitions
sorted_in m = definition_among m.entries

-- the names in a sorted map, with their definitions
abbrev pub pairs_in : BTreeMap (Bor (List ℕ)) (Bor (Vec (Spanned RawChunk))) → List (List ℕ × List Piece)
pairs_in m = map (λ e. (e.0.now, map piece_of e.1.now.items)) m.entries

-- the definitions in these pairs: that of the first pair with a name
abbrev pub given_by : List (List ℕ × List Piece) → Definitions
given_by pairs name = lookup (bytes_eq name) pairs
