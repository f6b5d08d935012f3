-- The text of an entry in a dialect consists of the name of its type, its key and the lines of its fields.
use Rattle.std.proofs.Common.{◌≡◌, refl}
use Rattle.std.specs.FinMap.{entries}
use Rattle.std.specs.List.{flat_map}
use Rattle.bib_tables.specs.EntryType.{entry_type_name}
use Rattle.bib_tables.specs.Dialects.{kind_in}
use Rattle.bib_entry.specs.WrittenEntries.{written_field, entry_in, entry_text}
use Rattle.bib_entry.specs.declared.entry.Entry.{Entry}
use Rattle.bib_tables.specs.declared.dialects.Dialect.{Dialect}
use Rattle.bib_tables.specs.declared.dialects.Dialect.TheVariants.{Biblatex, Bibtex}

-- the name of the type, the key and the lines of a dialect form the text of an entry
pub entry_parts : (dialect : Dialect) (e : Entry)
    → entry_text (entry_type_name (kind_in dialect e.entry_type)) e.key
    (flat_map (written_field dialect e.entry_type) (entries e.fields)) ≡ entry_in dialect e
entry_parts Biblatex e = refl
entry_parts Bibtex e = refl
