-- Meaning: words of public contracts.
-- The keys that entries refer to, and the findings of those that no kept entry has.
use Rattle.std.specs.Prelude.{◌≡◌, ℕ, Bool, not, ◌&&◌, List, [], ◌∷◌, ◌++◌, codes, map, filter, bytes_eq, is_none, length, ◌==◌, if◌then◌else◌}
use Rattle.std.specs.List.{flat_map, list_any}
use Rattle.std.specs.Option.{option_map_or}
use Rattle.std.specs.Str.{trim}
use Rattle.std.specs.FinMap as by_name
use Rattle.bib_chunks.specs.Styled.{Atom, styled}
use Rattle.bib_entry.specs.declared.entry.Entry.{Entry}
use Rattle.bib_tables.specs.Requirements.{Names, fields}
use Rattle.bib_inheritance.specs.References.{plain}
use Rattle.bib_collections.specs.Sorted.{ByText}
use Rattle.bib_chunks.specs.Lists.{comma_texts}
use Rattle.bib_queries.specs.Names.{comma_parts}
use Rattle.bib_syntax.specs.Reading.{EntryReading}
use Rattle.bib_findings.specs.Entries.{field_place}
use Rattle.bib_findings.specs.EntryNames.{entry_name}
use Rattle.bib_findings.specs.Errors.{finding_at}
use Rattle.bib_findings.specs.Identities.{own_literal}
use Rattle.bib_findings.specs.declared.codes.Code.TheVariants.{UnknownReference}
use Rattle.bib_findings.specs.declared.finding.Finding.{Finding}

-- the fields that refer to other entries
abbrev pub reference_fields : Names
reference_fields = fields "crossref xdata xref related entryset"

-- the keys in a field with this styled text: the whole text of `crossref`, and the parts of the comma list of any other field
abbrev pub keys_of : List ℕ → List Atom → List (List ℕ)
keys_of field atoms = if bytes_eq field (codes "crossref") then plain atoms ∷ [] else comma_texts atoms

-- the keys in this field of an entry
abbrev pub keys_in : Entry → List ℕ → List (List ℕ)
keys_in entry field = option_map_or (λ chunks. keys_of field (styled chunks)) (by_name.get entry.fields field) []

-- the keys in the text of a field, as they are in the file: the text of `crossref` without the white space around it, and the parts of the
-- comma list of any other field
abbrev pub written_keys : List ℕ → List ℕ → List (List ℕ)
written_keys field text = if bytes_eq field (codes "crossref") then trim text ∷ [] else comma_parts text

-- the keys in a field of an entry: as they are in the file if its value is one literal, otherwise as the library parses them
abbrev pub tested_keys : EntryReading → Entry → List ℕ → List (List ℕ)
tested_keys said entry field =
    if length (own_literal said field) == 0 then keys_in entry field else written_keys field (own_literal said field)

-- whether a key isn't empty, and no kept entry has it as its key or in its field `ids`
abbrev pub is_unknown : ByText ℕ → List ℕ → Bool
is_unknown names key = not (length key == 0) && is_none (by_name.get names key)

-- the message for a key that no kept entry has and that this field of the entry with the key `key` refers to
abbrev pub reference_message : List ℕ → List ℕ → List ℕ → List ℕ
reference_message key field named = entry_name key ++ (codes ": no entry \"" ++ (named ++ (codes "\" (" ++ (field ++ codes ")"))))

-- the finding of a key that a field refers to, at the name of the field
abbrev pub reference_finding : EntryReading → List ℕ → List ℕ → Finding
reference_finding said field named = finding_at UnknownReference (field_place said field) (reference_message said.key.text field named)

-- the findings of the keys that this field of an entry refers to and that no kept entry has. BibTeX and Biber take keys as they are in
-- the file, and the library replaces `--` by a dash in them and in `ids`. So the field has no finding if the library finds all keys
abbrev pub field_references : ByText ℕ → EntryReading → Entry → List ℕ → List Finding
field_references names said entry field =
    if list_any (is_unknown names) (keys_in entry field)
    then map (reference_finding said field) (filter (is_unknown names) (tested_keys said entry field))
    else []

-- the findings of the keys that an entry refers to and that no kept entry has
abbrev pub entry_references : ByText ℕ → EntryReading → Entry → List Finding
entry_references names said entry = flat_map (field_references names said entry) reference_fields

-- whether these are the findings of the keys that an entry refers to and that no kept entry has
abbrev pub AreReferences : ByText ℕ → EntryReading → Entry → List Finding → Type 0
AreReferences names said entry found = found ≡ entry_references names said entry
