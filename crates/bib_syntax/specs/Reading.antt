-- Meaning: words of public contracts.
-- The content of a bibliography file: its entries and abbreviations, with the span of each part in bytes, and the text of
-- its preambles.
use Rattle.std.specs.Prelude.{ℕ, List, [], ◌∷◌, ◌++◌, codes}
use Rattle.bib_text.specs.Places.{Place, between}

-- a part of the text: its bytes, and the offsets at which they begin and end
pub record Part : Type 0 where
  pub text : List ℕ
  pub start : ℕ
  pub end : ℕ

-- the part from `u` to `v`
abbrev pub part : Place → Place → Part
part u v = record { text = between u v; start = u.at; end = v.at }

-- a piece of a value: a literal text, or the name of an abbreviation
pub data Piece : Type 0 where
  literal : Part → Piece
  abbreviation : Part → Piece

-- the pieces of a value, and the offsets at which it begins and ends
pub record ValueReading : Type 0 where
  pub pieces : List Piece
  pub start : ℕ
  pub end : ℕ

-- a field: its name and its value
pub record FieldReading : Type 0 where
  pub name : Part
  pub value : ValueReading

-- An entry. It starts at its @ and ends before its closing brace. A kept entry of a block with an error ends after its last
-- complete field and the comma, white space and line comments after that. Without such a field, it ends after its key and the
-- white space after that. If a comma follows, it ends after the comma and the white space and line comments after that.
pub record EntryReading : Type 0 where
  pub key : Part
  pub kind : Part
  pub fields : List FieldReading
  pub start : ℕ
  pub end : ℕ

-- the content of a file: its preamble, its entries and its definitions of abbreviations
pub record FileReading : Type 0 where
  pub preamble : List ℕ
  pub entries : List EntryReading
  pub abbreviations : List FieldReading

-- the content of an empty file
abbrev pub empty_reading : FileReading
empty_reading = record { preamble = []; entries = []; abbreviations = [] }

-- two preambles joined by ` # `, by which BibTeX concatenates texts; if one is empty, the other one
abbrev pub joined_preambles : List ℕ → List ℕ → List ℕ
joined_preambles [] rest = rest
joined_preambles (b ∷ bs) [] = b ∷ bs
joined_preambles (b ∷ bs) (c ∷ cs) = (b ∷ bs) ++ codes " # " ++ (c ∷ cs)

-- the content of `first` followed by the content of `rest`
abbrev pub then : FileReading → FileReading → FileReading
then first rest = record {
  preamble = joined_preambles first.preamble rest.preamble;
  entries = first.entries ++ rest.entries;
  abbreviations = first.abbreviations ++ rest.abbreviations;
}
