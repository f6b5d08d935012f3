-- Meaning: words of public contracts.
-- The texts of fields with their LaTeX commands replaced, without HTML tags.
use Rattle.std.specs.Prelude.{ℕ, List, [], Option, Some, None}
use Rattle.bib_chunks.specs.Values.{Value}
use Rattle.bib_csl.specs.Texts.{bare_text, field}
use Rattle.bib_entry.specs.Fields.{field_or}
use Rattle.bib_entry.specs.declared.entry.Entry.{Entry}

-- the text of a field with its LaTeX commands replaced, or nothing if the field is missing
abbrev pub bare_value : Option Value → List ℕ
bare_value None = []
bare_value (Some chunks) = bare_text chunks

-- the text of the field of this name
unfoldable pub bare_named : Entry → List ℕ → List ℕ
bare_named entry name = bare_value (field entry name)

-- the text of the field `name`, or else of the field `other`
unfoldable pub bare_named_or : Entry → List ℕ → List ℕ → List ℕ
bare_named_or entry name other = bare_value (field_or entry name other)
