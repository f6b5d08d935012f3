-- Machinery: words of private contracts.
-- Edits, definitions and their expansions, in the types of the code.
use Rattle.std.specs.Prelude.{◌≡◌, ℕ, suc, zero, ◌<◌, ◌≤◌, ⊤, IfSome, List, [], ◌∷◌, length, map, reverse, slice_index_or, Option, Some, None, String}
use Rattle.std.specs.Borrow.{Bor}
use Rattle.std.specs.BTreeMap.{BTreeMap, get_by, get_by_text}
use Rattle.std.specs.Cmp.Lexicographic.{slice_cmp}
use Rattle.std.specs.Global.{Global, Vec}
use Rattle.std.specs.List.{AllByRecursion, flat_map}
use Rattle.std.specs.Ordering.{nat_cmp}
use Rattle.std.specs.Str.{str_to_ascii_lowercase}
use Rattle.bib_syntax.specs.Reading.{Piece, EntryReading, FieldReading}
use Rattle.bib_syntax.specs.Views.{piece_of}
use Rattle.edit_entries.specs.Changes.{NewValue, value_stretch_edit}
use Rattle.edit_entries.specs.Edits as edits
use Rattle.edit_entries.specs.Placed.{IsPlaced}
use Rattle.edit_entries.specs.Cuts.{IsPieceCut}
use Rattle.edit_strings.specs.Exchanged.{Exchange}
use Rattle.edit_strings.specs.Expanded.{Index, count_before, elements, elements_at, expansion, index_before, piece_index}
use Rattle.edit_strings.specs.declared.written.Indexed.{Indexed}

-- the edit of a field if its value is replaced, as a list
abbrev pub value_edits : List ℕ → FieldReading → Option NewValue → List edits.Edit
value_edits text f None = []
value_edits text f (Some new) = value_stretch_edit text f new.bytes ∷ []

-- the edits of the fields whose value is replaced
abbrev pub field_edits : Exchange → List ℕ → List FieldReading → List edits.Edit
field_edits exchange text fields = flat_map (λ f. value_edits text f (exchange f)) fields

-- the edits of the fields of entries whose value is replaced, in each entry by its own replacement
abbrev pub each_edits : (EntryReading → Exchange) → List ℕ → List EntryReading → List edits.Edit
each_edits exchange text entries = flat_map (λ e. field_edits (exchange e) text e.fields) entries

-- the edits of the fields of entries whose value is replaced
abbrev pub entry_edits : Exchange → List ℕ → List EntryReading → List edits.Edit
entry_edits exchange text entries = each_edits (λ e. exchange) text entries

-- a field's value lies in a text, and the value and its literals begin at boundaries of characters
pub record IsFieldCut (text : List ℕ) (f : FieldReading) : Type 0 where
  pub placed : IsPlaced text f
  pub pieces : AllByRecursion (IsPieceCut text) (elements f)

-- all values of some entries lie in a text, and each value and its literals begin at boundaries of characters
abbrev pub AreAllFieldsCut : List ℕ → List EntryReading → Type 0
AreAllFieldsCut text entries = AllByRecursion (λ e. AllByRecursion (IsFieldCut text) e.fields) entries

-- the index that a map has for each name
abbrev pub index_in : BTreeMap (Bor (List ℕ)) ℕ → Index
index_in indices name = get_by (λ k. slice_cmp nat_cmp name k.now) indices

-- the index that a map, whose names are in ASCII lowercase, has for each name in any ASCII case
abbrev pub lowercase_index_in : BTreeMap (String Global) ℕ → Index
lowercase_index_in indices name = get_by_text indices (str_to_ascii_lowercase name)

-- a map has the index of the last definition of each name among the first `count` definitions
abbrev pub AreIndices : BTreeMap (String Global) ℕ → List FieldReading → ℕ → Type 0
AreIndices indices definitions count = (name : List ℕ) → lowercase_index_in indices name ≡ index_before definitions count name

-- each index is less than a number
abbrev pub IsBelow : ℕ → Index → Type 0
IsBelow size index = (name : List ℕ) → IfSome (index name) (λ i. i < size)

-- ---- pieces with the indices of their definitions

-- a piece, and the index of its definition if it has one
pub data IndexedPiece : Type 0 where
  indexed : Piece → Option ℕ → IndexedPiece

-- a piece with the index that its name has
abbrev pub with_index : Index → Piece → IndexedPiece
with_index index piece = IndexedPiece.indexed piece (piece_index index piece)

-- a piece of the code, with the index of its definition
abbrev pub indexed_of : Indexed → IndexedPiece
indexed_of i = IndexedPiece.indexed (piece_of i.piece.now) i.definition

-- the pieces of a list of the code, whose last piece comes first
abbrev pub indexed_back : List Indexed → List IndexedPiece
indexed_back items = reverse (map indexed_of items)

-- the pieces of each of some lists of the code
abbrev pub rows_of : List (Vec Indexed) → List (List IndexedPiece)
rows_of rows = map (λ row. indexed_back row.items) rows

-- the pieces of the definition at an index. Each name has the index of its last earlier definition, in any ASCII case, if there is one.
abbrev pub row_at : List FieldReading → ℕ → List IndexedPiece
row_at definitions i = map (with_index (index_before definitions i)) (elements_at definitions i)

-- the rows are those of the first `count` definitions
pub record AreRows (definitions : List FieldReading) (count : ℕ) (rows : List (List IndexedPiece)) : Type 0 where
  pub as_many : length rows ≡ count
  pub each : (i : ℕ) → i < count → slice_index_or rows i [] ≡ row_at definitions i

-- the index of a piece, if it has one, is less than a number
abbrev pub IsIndexBelow : ℕ → IndexedPiece → Type 0
IsIndexBelow size (IndexedPiece.indexed piece index) = IfSome index (λ i. i < size)

-- the pieces of each row only refer to rows before it
abbrev pub AreOrdered : List (List IndexedPiece) → Type 0
AreOrdered rows = (i : ℕ) → i < length rows → AllByRecursion (IsIndexBelow i) (slice_index_or rows i [])

-- the visits of the expansion of a piece, down to a depth. The visit of a piece without a definition contains it. A piece with a
-- definition has an empty visit, and then those of the row of its definition
abbrev pub visits : List (List IndexedPiece) → ℕ → IndexedPiece → List (Option Piece)
visits rows depth (IndexedPiece.indexed piece None) = Some piece ∷ []
visits rows zero (IndexedPiece.indexed piece (Some i)) = []
visits rows (suc depth) (IndexedPiece.indexed piece (Some i)) = None ∷ flat_map (visits rows depth) (slice_index_or rows i [])

-- the visits of the expansion of some pieces
abbrev pub all_visits : List (List IndexedPiece) → List IndexedPiece → List (Option Piece)
all_visits rows pieces = flat_map (visits rows (suc (length rows))) pieces

-- the pieces that stay
abbrev pub staying : List (Option Piece) → List Piece
staying [] = []
staying (None ∷ rest) = staying rest
staying (Some piece ∷ rest) = piece ∷ staying rest

-- the expansion of some pieces, given the rows of the definitions
abbrev pub expanded : List (List IndexedPiece) → List IndexedPiece → List Piece
expanded rows pieces = staying (all_visits rows pieces)

-- the expansion of the pieces of a field, given an index and the rows of the definitions
abbrev pub field_expanded : List (List IndexedPiece) → Index → FieldReading → List Piece
field_expanded rows index f = expanded rows (map (with_index index) (elements f))

-- the replacement of values with defined names by their expansions, given an index and the rows of the definitions
abbrev pub expansion_by : List ℕ → List (List IndexedPiece) → Index → Exchange
expansion_by text rows index = expansion text index (field_expanded rows index)

-- the replacement of the values of an entry, given the rows of the definitions
abbrev pub entry_expansion : List ℕ → List FieldReading → List (List IndexedPiece) → EntryReading → Exchange
entry_expansion text definitions rows e = expansion_by text rows (index_before definitions (count_before definitions e))

-- the expansion of each field of entries, given the rows of the definitions
abbrev pub written_by : List FieldReading → List (List IndexedPiece) → EntryReading → FieldReading → List Piece
written_by definitions rows e = field_expanded rows (index_before definitions (count_before definitions e))

-- a field's value lies in a text, and the literals of its expansion begin at boundaries of characters
pub record IsExpansionCut (text : List ℕ) (rows : List (List IndexedPiece)) (index : Index) (f : FieldReading) : Type 0 where
  pub placed : IsPlaced text f
  pub pieces : AllByRecursion (IsPieceCut text) (field_expanded rows index f)

-- each field of some entries meets `IsExpansionCut` with the definitions before its entry
abbrev pub AreExpansionsCut : List ℕ → List FieldReading → List (List IndexedPiece) → List EntryReading → Type 0
AreExpansionsCut text definitions rows entries =
    AllByRecursion
    (λ e. AllByRecursion (IsExpansionCut text rows (index_before definitions (count_before definitions e))) e.fields) entries

-- ---- the order of definitions and entries

-- the definitions begin in order, not before the first byte offset and not after the second
abbrev pub BeginBetween : ℕ → ℕ → List FieldReading → Type 0
BeginBetween at end [] = at ≤ end
BeginBetween at end (f ∷ fs) = (at ≤ f.name.start) × BeginBetween f.name.start end fs

-- the entries begin in order, not before a byte offset
abbrev pub AreFrom : ℕ → List EntryReading → Type 0
AreFrom at [] = ⊤
AreFrom at (e ∷ es) = (at ≤ e.start) × AreFrom e.start es

-- the byte offset at which the definition at an index begins
abbrev pub start_at : List FieldReading → ℕ → ℕ
start_at definitions i = slice_index_or (map (λ f. f.name.start) definitions) i 0

-- the definitions from the index `from` on and before the index `next` begin before a byte offset
abbrev pub BeginBefore : List FieldReading → ℕ → ℕ → ℕ → Type 0
BeginBefore definitions start from next = (i : ℕ) → from ≤ i → i < next → start_at definitions i < start

-- a definition at this index, if there is one, doesn't begin before a byte offset
abbrev pub IsNextAfter : List FieldReading → ℕ → ℕ → Type 0
IsNextAfter definitions start next = next < length definitions → start_at definitions next < start → ⊥
