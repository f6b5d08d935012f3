-- Meaning: words of public contracts.
-- The findings of entries after which the text reads as a field. Most often a closing brace is one too many, and the fields after it are
-- lost. BibTeX ignores them without a message, and Biber warns of junk.
use Rattle.std.specs.Prelude.{ℕ, Bool, not, ◌==◌, ◌&&◌, ◌||◌, List, [], ◌∷◌, ◌++◌, codes, drop, eqb, length, if◌then◌else◌}
use Rattle.std.specs.Char.{is_ascii_alphanumeric, is_ascii_whitespace}
use Rattle.std.specs.List.{flat_map, starts_with}
use Rattle.bib_text.specs.Characters as char
use Rattle.bib_syntax.specs.Reading.{EntryReading}
use Rattle.bib_text.specs.Runs.{rest_after}
use Rattle.bib_findings.specs.EntryNames.{entry_name}
use Rattle.bib_findings.specs.Errors.{finding_at}
use Rattle.bib_findings.specs.declared.codes.Code.TheVariants.{StrayField}
use Rattle.bib_findings.specs.declared.finding.Finding.{Finding}

-- a text without a comma at its start
abbrev pub after_one_comma : List ℕ → List ℕ
after_one_comma [] = []
after_one_comma (b ∷ rest) = if b == char.comma then rest else b ∷ rest

-- whether a byte is one of those that names of fields usually contain
abbrev pub is_field_name_byte : ℕ → Bool
is_field_name_byte b = is_ascii_alphanumeric b || b == char.hyphen || b == char.plus || b == char.underscore

-- whether a text begins with a name, maybe ASCII white space, and an equals sign
abbrev pub begins_field : List ℕ → Bool
begins_field text =
    let rest : List ℕ = rest_after is_field_name_byte text in
    not (length rest == length text) && starts_with eqb (rest_after is_ascii_whitespace rest) (codes "=")

-- whether the text after an entry reads as a field, maybe after a comma
abbrev pub reads_as_field : List ℕ → Bool
reads_as_field text =
    begins_field (rest_after is_ascii_whitespace (after_one_comma (rest_after is_ascii_whitespace text)))

-- the finding of an entry at its closing brace
abbrev pub stray_finding : EntryReading → Finding
stray_finding said =
    finding_at StrayField (record { start = said.end; end = said.end })
    (entry_name said.key.text ++ codes ": the text after this closing brace reads as a field; is the brace one too many?")

-- the finding of an entry if the text after its closing brace reads as a field
abbrev pub stray_of : List ℕ → EntryReading → List Finding
stray_of text said = if reads_as_field (drop 1 (drop said.end text)) then stray_finding said ∷ [] else []

-- the findings of entries of a file with this text
abbrev pub stray_findings : List ℕ → List EntryReading → List Finding
stray_findings text entries = flat_map (stray_of text) entries
