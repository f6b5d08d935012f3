-- Meaning: words of public contracts.
-- The output for each request on a text.
use Rattle.std.specs.Prelude.{◌≡◌, ◌==◌, ℕ, Bool, ◌||◌, ◌&&◌, not, if◌then◌else◌, List, [], ◌∷◌, ◌++◌, codes, eqb, length, map}
use Rattle.std.specs.List.{flat_map, list_any, starts_with}
use Rattle.bib_syntax.specs.Grammar.{is_word}
use Rattle.bib_syntax.specs.Reading.{EntryReading, FieldReading, FileReading, Piece}
use Rattle.bib_syntax.specs.Reading.Piece.{abbreviation, literal}
use Rattle.bib_syntax.specs.Recovery.{IsRecovery}
use Rattle.bib_syntax.specs.declared.raw.recovery.SkippedBlock.{SkippedBlock}
use Rattle.bib_queries.specs.Cited.{IsExcerpt, entry_line}
use Rattle.bib_queries.specs.LineEnds.{line_end_of}
use Rattle.bib_queries.specs.Needed.{is_listed}
use Rattle.bib_queries.specs.declared.request.Request.{Request}
use Rattle.bib_queries.specs.declared.request.Request.TheVariants.{Keys, Get, Grep, Cited}

-- whether the second text contains the first
abbrev pub has_part : List ℕ → List ℕ → Bool
has_part part [] = starts_with eqb [] part
has_part part (b ∷ rest) = starts_with eqb (b ∷ rest) part || has_part part rest

-- the text of a piece
abbrev pub piece_text : Piece → List ℕ
piece_text (literal p) = p.text
piece_text (abbreviation p) = p.text

-- whether a field has this name, in any ASCII case, and a piece of its value contains this text
abbrev pub is_found : List ℕ → List ℕ → FieldReading → Bool
is_found name part f = is_word f.name.text name && list_any (λ piece. has_part part (piece_text piece)) f.value.pieces

-- the keys of entries, each followed by a line feed
abbrev pub lines_of_keys : List EntryReading → List ℕ
lines_of_keys entries = flat_map (λ e. e.key.text ++ codes "\n") entries

-- the source text of the entries that pass a test, each followed by the line end of the text
abbrev pub passing_lines : (EntryReading → Bool) → List ℕ → List EntryReading → List ℕ
passing_lines test text entries = flat_map (λ e. if test e then entry_line (line_end_of text) text e else []) entries

-- whether the key of an entry is one of these
abbrev pub has_key : List (List ℕ) → EntryReading → Bool
has_key keys e = is_listed keys e.key.text

-- whether an entry has a field with this name, in any ASCII case, and a piece of its value contains this text
abbrev pub is_found_in : List ℕ → List ℕ → EntryReading → Bool
is_found_in name part e = list_any (is_found name part) e.fields

-- whether `printed` is the output for a request on the parsed and the skipped blocks of a text; `has_entry`: it has an entry or a key
abbrev pub IsPrinted : Request → List ℕ → FileReading → List SkippedBlock → List ℕ → Bool → Type 0
IsPrinted Keys text says skipped printed has_entry = (printed ≡ lines_of_keys says.entries) × (has_entry ≡ not (length printed == 0))
IsPrinted (Get keys) text says skipped printed has_entry =
    (printed ≡ passing_lines (has_key (map (λ key. key.now) keys.items)) text says.entries) × (has_entry ≡ not (length printed == 0))
IsPrinted (Grep search) text says skipped printed has_entry =
    (printed ≡ passing_lines (is_found_in search.field.now search.part.now) text says.entries) × (has_entry ≡ not (length printed == 0))
IsPrinted (Cited cited) text says skipped printed has_entry =
    IsExcerpt (map (λ key. key.now) cited.keys.items) cited.all text says skipped printed has_entry

-- whether `printed` is the output for a request on a text; `has_entry`: it has an entry or a key
pub record IsTextAnswer (request : Request) (text printed : List ℕ) (has_entry : Bool) : Type 0 where
  pub says : FileReading
  pub skipped : List SkippedBlock
  pub recovery : IsRecovery text says skipped
  pub is : IsPrinted request text says skipped printed has_entry
