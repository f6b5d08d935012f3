-- Meaning: words of public contracts.
-- An entry with its type and field names mapped to BibLaTeX's, as a settled entry parses back from its output.
use Rattle.std.specs.Prelude.{◌≡◌, ℕ, List, find, reverse, bytes_eq, option_map, Option}
use Rattle.std.specs.FinMap as by_name
use Rattle.bib_chunks.specs.Styled.{Atom, styled}
use Rattle.bib_tables.specs.EntryType.{biblatex_type}
use Rattle.bib_tables.specs.Dialects.{biblatex_name}
use Rattle.bib_entry.specs.declared.entry.Entry.{Entry}

-- the styled text of the field whose name in BibLaTeX is `name`. If several fields have that name, the last of them counts,
-- in the order of their own names
abbrev pub mapped_field : Entry → List ℕ → Option (List Atom)
mapped_field e name = option_map (λ f. styled f.1) (find (λ f. bytes_eq name (biblatex_name f.0)) (reverse (by_name.entries e.fields)))

-- `mapped` is `e` in BibLaTeX's types and fields: it has the same key, the mapped type, and under each mapped name the same
-- styled text
pub record IsMapped (e mapped : Entry) : Type 0 where
  pub key : mapped.key ≡ e.key
  pub entry_type : mapped.entry_type ≡ biblatex_type e.entry_type
  pub fields : (name : List ℕ) → option_map styled (by_name.get mapped.fields name) ≡ mapped_field e name
