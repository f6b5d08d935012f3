-- Meaning: words of public contracts.
-- The names that units use, and the names that they define. A name is a key of an entry or the name of an abbreviation: a text after a word
-- for its sort.
use Rattle.std.specs.Prelude.{◌&&◌, not, ℕ, Bool, List, ◌++◌, codes, map}
use Rattle.std.specs.List.{flat_map}
use Rattle.std.specs.Str.{str_to_ascii_lowercase}
use Rattle.bib_queries.specs.Names.{entry_names, references_of, used_in_fields}
use Rattle.bib_queries.specs.Needed.{is_listed}
use Rattle.bib_syntax.specs.Reading.{EntryReading, FileReading}
use Rattle.edit_units.specs.Units.{UnitReading}

-- the name of an entry: its key, or a name in its fields `ids`. Biber compares it byte by byte
abbrev pub key_name : List ℕ → List ℕ
key_name key = codes "entry " ++ key

-- the name of an abbreviation in ASCII lowercase, as BibTeX and Biber compare it
abbrev pub abbreviation_name : List ℕ → List ℕ
abbreviation_name name = codes "string " ++ str_to_ascii_lowercase name

-- the abbreviations that values of entries and of definitions use. Those in preambles aren't part of the content of a file
abbrev pub abbreviations_of : FileReading → List (List ℕ)
abbreviations_of says = flat_map (λ e. used_in_fields e.fields) says.entries ++ used_in_fields says.abbreviations

-- the names in the reference fields of entries, such as `crossref`
abbrev pub referenced_names : FileReading → List (List ℕ)
referenced_names says = flat_map (λ e. references_of e.fields) says.entries

-- the names that a unit uses
abbrev pub names_used : UnitReading → List (List ℕ)
names_used u = map abbreviation_name (abbreviations_of u.says) ++ map key_name (referenced_names u.says)

-- the names of an entry, after the word for their sort
abbrev pub names_of_entry : EntryReading → List (List ℕ)
names_of_entry e = map key_name (entry_names e)

-- the names that a unit defines: those of its definitions, and those of its entries
abbrev pub defined_names : UnitReading → List (List ℕ)
defined_names u = map (λ f. abbreviation_name f.name.text) u.says.abbreviations ++ flat_map names_of_entry u.says.entries

-- whether a name dangles in units: one of them uses it, and none defines it
abbrev pub dangles : List UnitReading → List ℕ → Bool
dangles units name = is_listed (flat_map names_used units) name && not (is_listed (flat_map defined_names units) name)
