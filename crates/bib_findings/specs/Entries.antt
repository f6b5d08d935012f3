-- Meaning: words of public contracts.
-- The places of an entry's fields in the file, and findings about fields.
use Rattle.std.specs.Prelude.{◌≡◌, ℕ, Bool, false, ◌==◌, List, [], ◌∷◌, ◌++◌, codes, is_some, length, reverse, slice_get, Option, Some, None}
use Rattle.std.specs.List.{find, list_all}
use Rattle.std.specs.Str.{str_eq_ignore_ascii_case, trim}
use Rattle.std.specs.declared.ops.Range.{Range}
use Rattle.bib_syntax.specs.Reading.{Part, EntryReading, FieldReading, Piece}
use Rattle.bib_syntax.specs.Reading.Piece.{literal, abbreviation}
use Rattle.bib_findings.specs.EntryNames.{entry_name}
use Rattle.bib_findings.specs.Errors.{finding_at}
use Rattle.bib_findings.specs.declared.codes.Code.{Code}
use Rattle.bib_findings.specs.declared.finding.Finding.{Finding}

-- the byte range of a part of the file
abbrev pub part_range : Part → Range ℕ
part_range p = record { start = p.start; end = p.end }

-- whether two fields have the same name, in any ASCII case
abbrev pub have_one_name : FieldReading → FieldReading → Bool
have_one_name f g = str_eq_ignore_ascii_case f.name.text g.name.text

-- the last field of this name, in any ASCII case: the parser uses this one
abbrev pub last_named : List FieldReading → List ℕ → Option FieldReading
last_named all name = find (λ f. str_eq_ignore_ascii_case f.name.text name) (reverse all)

-- the range of the name of a field, or `other` if there is no field
abbrev pub range_or : Range ℕ → Option FieldReading → Range ℕ
range_or other None = other
range_or other (Some f) = part_range f.name

-- the place of a field of an entry: the name of the last field of this name, or the entry's key if it has none
abbrev pub field_place : EntryReading → List ℕ → Range ℕ
field_place said name = range_or (part_range said.key) (last_named said.fields name)

-- whether a piece of a value is a literal without a character, or with only white space
abbrev pub is_blank_piece : Piece → Bool
is_blank_piece (literal p) = length (trim p.text) == 0
is_blank_piece (abbreviation p) = false

-- whether the value of a field is empty: all of its pieces are blank
abbrev pub is_empty_value : FieldReading → Bool
is_empty_value f = list_all is_blank_piece f.value.pieces

-- whether an entry has a field of this name in the file
abbrev pub has_own_field : EntryReading → List ℕ → Bool
has_own_field said name = is_some (last_named said.fields name)

-- the message about a field of the entry with this key: the entry's name in messages, the problem, and the field's name
abbrev pub field_message : List ℕ → List ℕ → List ℕ → List ℕ
field_message key wrong name = entry_name key ++ (codes ": " ++ (wrong ++ (codes " " ++ name)))

-- the finding of a field of an entry, with a code and the word for the problem
abbrev pub field_finding : EntryReading → Code → List ℕ → List ℕ → Finding
field_finding said c wrong name = finding_at c (field_place said name) (field_message said.key.text wrong name)

-- whether the findings are those of these entries, in order, each related by `Are` to its entry and to the raw entry with its index
pub data AreOfEach {A : Type 0} (Are : EntryReading → A → List Finding → Type 0) (said : List EntryReading) : List ℕ → List A
    → List Finding → Type 0 where
  none : AreOfEach Are said [] [] []
  next : {index : ℕ} {indices : List ℕ} {one : EntryReading} {entry : A} {entries : List A} {first rest : List Finding}
      → slice_get said index ≡ Some one → Are one entry first → AreOfEach Are said indices entries rest
      → AreOfEach Are said (index ∷ indices) (entry ∷ entries) (first ++ rest)
