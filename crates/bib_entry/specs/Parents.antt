-- Meaning: words of public contracts.
-- The entries that an entry belongs to, as in the Rust crate `biblatex`.
use Rattle.std.specs.Prelude.{ℕ, Bool, ◌||◌, List, [], ◌∷◌, ◌++◌, codes, is_some}
use Rattle.std.specs.Option.{option_map_or}
use Rattle.std.specs.FinMap as by_name
use Rattle.bib_entry.specs.declared.entry.Entry.{Entry}
use Rattle.bib_values.specs.Lists.{strings_read}
use Rattle.bib_chunks.specs.Values.{text}

-- whether an entry has a field through which it inherits
abbrev pub has_references : Entry → Bool
has_references entry = is_some (by_name.get entry.fields (codes "crossref")) || is_some (by_name.get entry.fields (codes "xdata"))

-- the text of `crossref`, and then the items of the comma-separated list `xref`
abbrev pub parents_of : Entry → List (List ℕ)
parents_of entry =
    option_map_or (λ chunks. text chunks ∷ []) (by_name.get entry.fields (codes "crossref")) []
    ++ option_map_or strings_read (by_name.get entry.fields (codes "xref")) []
