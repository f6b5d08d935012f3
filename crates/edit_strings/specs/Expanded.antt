-- Meaning: words of public contracts.
-- Expanded abbreviations: a name is replaced by the pieces of its last definition before the use. BibTeX and btparse (Biber) read a file
-- from its start to its end, so that a later definition of the name doesn't change an earlier use.
use Rattle.std.specs.Prelude.{◌≡◌, ◌&&◌, ◌||◌, ℕ, ◌<◌, Bool, true, false, List, [], ◌∷◌, ◌++◌, count_by, if◌then◌else◌, is_some, length, map, nat_lt, not, slice_index_or, take, Option, Some, None, codes}
use Rattle.std.specs.List.{AllByRecursion, list_any}
use Rattle.bib_syntax.specs.Grammar.{is_word}
use Rattle.bib_syntax.specs.Reading.{Piece, EntryReading, FieldReading, FileReading}
use Rattle.bib_syntax.specs.Reading.Piece.{literal, abbreviation}
use Rattle.edit_entries.specs.Documents.{Document, has_name, last_position}
use Rattle.edit_format.specs.Delimited.{piece_as_written}
use Rattle.edit_format.specs.Formatted.{value_laid_out}
use Rattle.edit_format.specs.declared.style.Delimiters.TheVariants.{Keep}
use Rattle.edit_strings.specs.Exchanged.{Exchange, exchanges}
use Rattle.edit_entries.specs.Changes.{IsChanged}
use Rattle.edit_strings.specs.declared.errors.ExpandError.{ExpandError}
use Rattle.edit_strings.specs.declared.errors.ExpandError.TheVariants.{EarlyUse, OutOfMemory}

-- the index of the definition of each name that has one
abbrev pub Index : Type 0
Index = List ℕ → Option ℕ

-- the index of a name's last definition among the first `count` definitions of a file, in any ASCII case
abbrev pub index_before : List FieldReading → ℕ → Index
index_before definitions count name = last_position (has_name name) (take count definitions)

-- the number of definitions that begin before an entry
abbrev pub count_before : List FieldReading → EntryReading → ℕ
count_before definitions e = count_by (λ f. nat_lt f.name.start e.start) definitions

-- the pieces of a field or a definition
abbrev pub elements : FieldReading → List Piece
elements f = f.value.pieces

-- the pieces of the definition at an index
abbrev pub elements_at : List FieldReading → ℕ → List Piece
elements_at definitions index = slice_index_or (map elements definitions) index []

-- the index of the definition of a piece, if it is a defined name
abbrev pub piece_index : Index → Piece → Option ℕ
piece_index index (literal p) = None
piece_index index (abbreviation p) = index p.text

-- the second list is the expansion of the first, whose place is after the first `count` definitions. A literal stays, and so does
-- a name without a definition before this place. Each other name is replaced by the expansion of the pieces of its last
-- definition before this place. The place of these pieces is after the definitions before theirs.
pub data WritesOut (definitions : List FieldReading) : ℕ → List Piece → List Piece → Type 0 where
  none : {count : ℕ} → WritesOut definitions count [] []
  itself : {count : ℕ} {piece : Piece} {rest more : List Piece} → piece_index (index_before definitions count) piece ≡ None
      → WritesOut definitions count rest more
      → WritesOut definitions count (piece ∷ rest) (piece ∷ more)
  defined : {count : ℕ} {piece : Piece} {index : ℕ} {rest first more : List Piece}
      → piece_index (index_before definitions count) piece ≡ Some index
      → WritesOut definitions index (elements_at definitions index) first → WritesOut definitions count rest more
      → WritesOut definitions count (piece ∷ rest) (first ++ more)

-- whether a defined name occurs among some pieces
abbrev pub has_defined : Index → List Piece → Bool
has_defined index pieces = list_any (λ piece. is_some (piece_index index piece)) pieces

-- the text of some pieces of a file, each as it is written there, with ` # ` between them
abbrev pub laid_out : List ℕ → List Piece → List ℕ
laid_out text pieces = value_laid_out [] (codes " # ") (map (piece_as_written Keep text) pieces)

-- the replacement of each value that contains a defined name by its expansion
abbrev pub expansion : List ℕ → Index → (FieldReading → List Piece) → Exchange
expansion text index written f =
    if has_defined index (elements f) then Some (record { bytes = laid_out text (written f); pieces = written f })
    else None

-- a function gives the expansion of each field of the entries of a file, at the place of its entry
abbrev pub AreWrittenOut : FileReading → (EntryReading → FieldReading → List Piece) → Type 0
AreWrittenOut says written =
    AllByRecursion
    (λ e.
    AllByRecursion (λ f. WritesOut says.abbreviations (count_before says.abbreviations e) (elements f) (written e f)) e.fields)
    says.entries

-- the replacement of the values of an entry that contain a defined name by their expansions
abbrev pub document_expansion : Document → (EntryReading → FieldReading → List Piece) → EntryReading → Exchange
document_expansion d written e =
    expansion d.text (index_before d.says.abbreviations (count_before d.says.abbreviations e)) (written e)

-- a text is that of a document with its abbreviations expanded, and parses to its reading with these values, except for byte offsets
pub record IsExpanded (d : Document) (text : List ℕ) : Type 0 where
  pub written : EntryReading → FieldReading → List Piece
  pub each : AreWrittenOut d.says written
  pub changed : IsChanged (λ e. exchanges (document_expansion d written e) e) d text

-- whether a piece is this name, in any ASCII case
abbrev pub is_use_of : List ℕ → Piece → Bool
is_use_of name (literal p) = false
is_use_of name (abbreviation p) = is_word name p.text

-- whether a piece is the name `own`, or a name that has an index in `all`, but none in `earlier`
abbrev pub is_early_use : List ℕ → Index → Index → Piece → Bool
is_early_use own all earlier piece =
    is_use_of own piece || (is_some (piece_index all piece) && not (is_some (piece_index earlier piece)))

-- the name of the definition at an index
abbrev pub name_at : List FieldReading → ℕ → List ℕ
name_at definitions index = slice_index_or (map (λ f. f.name.text) definitions) index []

-- whether the definition at an index uses its own name, or a name that the file defines, but not before this definition. BibTeX drops
-- such a name, or takes the month of its style; in the expansion, a definition of the name before the use would count.
abbrev pub is_early : List FieldReading → ℕ → Bool
is_early definitions index =
    list_any
    (is_early_use (name_at definitions index) (index_before definitions (length definitions)) (index_before definitions index))
    (elements_at definitions index)

-- no definition uses its own name, or a name before the name's first definition
abbrev pub HasNoEarlyUse : List FieldReading → Type 0
HasNoEarlyUse definitions = (index : ℕ) → index < length definitions → is_early definitions index ≡ false

-- the definition at an index is the first that uses its own name, or a name before the name's first definition
pub record IsFirstEarlyUse (definitions : List FieldReading) (index : ℕ) : Type 0 where
  pub within : index < length definitions
  pub early : is_early definitions index ≡ true
  pub first : (earlier : ℕ) → earlier < index → is_early definitions earlier ≡ false

-- the conditions of an error: the definition at this index is the first that uses its own name, or a name before the name's first
-- definition. Memory may always run out
abbrev pub IsExpandError : List FieldReading → ExpandError → Type 0
IsExpandError definitions (EarlyUse index) = IsFirstEarlyUse definitions index
IsExpandError definitions OutOfMemory = Unit {0}

-- for each error, the condition under which the expansion of a document may fail with it
abbrev pub ExpandIsRefused : Document → ExpandError → Type 0
ExpandIsRefused d e = IsExpandError d.says.abbreviations e
