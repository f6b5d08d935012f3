-- Machinery: words of private contracts.
-- The expansion of abbreviations.
use Rattle.std.specs.Prelude.{◌≡◌, ◌⊎◌, ℕ, ◌-◌, ◌≤◌, Bool, List, [], ◌∷◌, ◌++◌, map, length, take, drop, Option, Some, None, if◌then◌else◌, bytes_eq}
use Rattle.std.specs.BTreeMap.{get_by}
use Rattle.std.specs.Cmp.Lexicographic.{slice_cmp}
use Rattle.std.specs.Ordering.{nat_cmp}
use Rattle.std.specs.declared.ops.Range.{Range}
use Rattle.bib_chunks.specs.declared.chunk.Chunk.{Chunk}
use Rattle.bib_text.specs.declared.spanned.Spanned.{Spanned}
use Rattle.bib_chunks.specs.Styled.{Atom, styled}
use Rattle.bib_syntax.specs.declared.raw.ParseError.{ParseError}
use Rattle.bib_abbreviations.specs.declared.abbreviations.Expansion.{Expansion}
use Rattle.bib_abbreviations.specs.declared.abbreviations.Frame.{Frame}
use Rattle.bib_abbreviations.specs.declared.abbreviations.Memo.{Memo}
use Rattle.bib_abbreviations.specs.declared.abbreviations.Progress.{Progress}
use Rattle.bib_abbreviations.specs.declared.abbreviations.Progress.TheVariants.{Begun, Done}
use Rattle.bib_abbreviations.specs.declared.definitions.Lookup.{Lookup}
use Rattle.bib_abbreviations.specs.declared.definitions.Lookup.TheVariants.{Hashed, Sorted}
use Rattle.bib_abbreviations.specs.Abbreviations.{AreContents, Definitions, Evaluates, IsFirstError, IsOnPath, defined_in, sorted_in}
use Rattle.bib_syntax.specs.Errors.{out_of_memory}
use Rattle.bib_syntax.specs.Reading.{Part, Piece}
use Rattle.bib_syntax.specs.Reading.Piece.{abbreviation}
use Rattle.bib_syntax.specs.Views.{piece_of}

-- the definitions in a look-up
abbrev pub found_in : Lookup → Definitions
found_in (Hashed m) = defined_in m.now
found_in (Sorted m) = sorted_in m.now

-- the definitions of an expansion
abbrev pub known_to : Expansion → Definitions
known_to expansion = found_in expansion.definitions

-- how far the expansion of a name is, if the name is in the memo
abbrev pub progress : Memo → List ℕ → Option Progress
progress memo name = get_by (λ key. slice_cmp nat_cmp name key.now) memo.names

-- a text with this span
abbrev pub part_at : List ℕ → Range ℕ → Part
part_at text span = record { text = text; start = span.start; end = span.end }

-- the states `before`, except that of `name`, which is `now`
abbrev pub with_progress : List ℕ → Progress → (List ℕ → Option Progress) → List ℕ → Option Progress
with_progress name now before other = if bytes_eq name other then Some now else before other

-- the chunks from the index `start` to before the index `end`
abbrev pub chunks_between : ℕ → ℕ → List (Spanned Chunk) → List (Spanned Chunk)
chunks_between start end chunks = take (end - start) (drop start chunks)

-- the chunks of each expanded name are in the memo
abbrev pub AreWithin : Memo → Type 0
AreWithin memo =
    (name : List ℕ) (start end : ℕ) → progress memo name ≡ Some (Done start end)
    → (start ≤ end) × (end ≤ length memo.values.items)

-- the chunks from `start` to before `end` have the styled text of a name's definition
pub record IsValue (definitions : Definitions) (is_verbatim : Bool) (chunks : List (Spanned Chunk)) (name : List ℕ)
    (start end : ℕ) : Type 0 where
  pub definition : List Piece
  pub is : definitions name ≡ Some definition
  pub ordered : start ≤ end
  pub within : end ≤ length chunks
  pub says : Evaluates definitions is_verbatim definition (styled (chunks_between start end chunks))

-- the memo is right: an expanded name has the chunks of its definition, and the names that are being expanded are those in
-- `path`
pub record IsSound (definitions : Definitions) (is_verbatim : Bool) (memo : Memo) (path : List (List ℕ)) : Type 0 where
  pub done : (name : List ℕ) (start end : ℕ) → progress memo name ≡ Some (Done start end)
      → IsValue definitions is_verbatim memo.values.items name start end
  pub begun : (name : List ℕ) → progress memo name ≡ Some Begun → IsOnPath path name
  pub on_path : (name : List ℕ) → IsOnPath path name → progress memo name ≡ Some Begun

-- `new` is `old` with chunks appended that have the styled text of pieces
pub record Expands (definitions : Definitions) (is_verbatim : Bool) (old new : List (Spanned Chunk)) (pieces : List Piece) : Type 0 where
  pub more : List (Spanned Chunk)
  pub values : new ≡ old ++ more
  pub says : Evaluates definitions is_verbatim pieces (styled more)

-- the expansion of a defined name begins; the name isn't in the memo `old`
pub record Opens (definitions : Definitions) (old new : Memo) (name : List ℕ) (frame : Frame) : Type 0 where
  pub named : frame.name.now ≡ name
  pub is : definitions name ≡ Some (map piece_of frame.rest.now)
  pub start : frame.start ≡ length old.values.items
  pub fresh : progress old name ≡ None
  pub values : new.values ≡ old.values
  pub names : (other : List ℕ) → progress new other ≡ with_progress name Begun (progress old) other

-- a piece was taken: its chunks were appended, or it is a name whose expansion begins
abbrev pub Takes : Definitions → Bool → Memo → Memo → Piece → Option Frame → Type 0
Takes definitions is_verbatim old new piece None =
    Expands definitions is_verbatim old.values.items new.values.items (piece ∷ []) × (new.names ≡ old.names)
Takes definitions is_verbatim old new piece (Some frame) = (p : Part) × (piece ≡ abbreviation p) × Opens definitions old new p.text frame

-- ---- for an expansion

-- the memo is right, as `IsSound` states, for the definitions of an expansion
abbrev pub IsSoundFor : Expansion → Memo → List (List ℕ) → Type 0
IsSoundFor expansion memo path = IsSound (known_to expansion) expansion.is_verbatim memo path

-- chunks are the contents of a field
abbrev pub HasContents : Expansion → List Piece → List (Spanned Chunk) → Type 0
HasContents expansion pieces chunks = AreContents (known_to expansion) expansion.is_verbatim pieces chunks

-- pieces have these atoms as their styled text
abbrev pub PiecesSay : Expansion → List Piece → List Atom → Type 0
PiecesSay expansion pieces atoms = Evaluates (known_to expansion) expansion.is_verbatim pieces atoms

-- chunks of a piece were appended to chunks
abbrev pub AppendsPiece : Expansion → Piece → List (Spanned Chunk) → List (Spanned Chunk) → Type 0
AppendsPiece expansion piece old new = (atoms : List Atom) × PiecesSay expansion (piece ∷ []) atoms × (styled new ≡ styled old ++ atoms)

-- chunks with the styled text of pieces were appended to the memo
abbrev pub AddsPieces : Expansion → Memo → Memo → List Piece → Type 0
AddsPieces expansion old new pieces = Expands (known_to expansion) expansion.is_verbatim old.values.items new.values.items pieces

-- a piece was taken, as `Takes` states, with the definitions of an expansion
abbrev pub IsTaken : Expansion → Memo → Memo → Piece → Option Frame → Type 0
IsTaken expansion old new piece frame = Takes (known_to expansion) expansion.is_verbatim old new piece frame

-- out of memory, or the first error of pieces
abbrev pub FailsWith : Expansion → List (List ℕ) → List Piece → ParseError → Type 0
FailsWith expansion path pieces e = (e ≡ out_of_memory) ⊎ IsFirstError (known_to expansion) expansion.is_verbatim path pieces e

-- out of memory, or the error of a piece, whatever pieces come after it
abbrev pub StopsAt : Expansion → List (List ℕ) → Piece → ParseError → Type 0
StopsAt expansion path piece e =
    (e ≡ out_of_memory)
    ⊎ ((rest : List Piece) → IsFirstError (known_to expansion) expansion.is_verbatim path (piece ∷ rest) e)
