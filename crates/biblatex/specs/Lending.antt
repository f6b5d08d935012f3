-- Meaning: words of public contracts.
-- Mutable borrows of the entries of a bibliography.
use Rattle.std.specs.Prelude.{ℕ, List, ◌++◌, length, take, drop, Option, Some, None}
use Rattle.std.specs.Borrow.{LendsIf, MutBor, Fml, Array, follows}
use Rattle.std.specs.declared.slice.IterMut.{IterMut}
use Rattle.std.specs.Slice.Iter.{iter_mut_name}
use Rattle.bib_entry.specs.declared.entry.Entry.{Entry}
use Rattle.bib_file_entries.specs.Bibliography.{Bibliography, index_of, with_other_entry}
use Rattle.bib_entry.specs.contracts.entry.Entry.{the_row as entry_row}
use Rattle.biblatex.specs.contracts.bibliography.Bibliography.{the_row as bibliography_row}

-- a bibliography with the entry at an index replaced; unchanged if there is no index
abbrev pub with_entry : Bibliography → Option ℕ → Entry → Bibliography
with_entry bibliography (Some index) entry = with_other_entry bibliography index entry
with_entry bibliography None entry = bibliography

-- when the borrow ends, the entry at the index that the name points to has the last value of the reference, and the names are
-- unchanged. If the name points to no index, the bibliography is unchanged
abbrev pub LendsEntry : MutBor Bibliography → List ℕ → Option (MutBor Entry) → Fml
LendsEntry bibliography name entry =
    LendsIf bibliography_row entry_row bibliography entry (with_entry bibliography.now (index_of bibliography.now name))
    bibliography.now

-- a bibliography whose first entries are replaced by these, with as many entries as before
abbrev pub with_entries : Bibliography → List Entry → Bibliography
with_entries bibliography entries =
    record bibliography
    { entries = take (length bibliography.entries) (entries ++ drop (length entries) bibliography.entries) }

-- when the borrow ends, the entries have the last values of the iterator's references, in order, and the names are unchanged
abbrev pub LendsEntries : MutBor Bibliography → IterMut Entry → Fml
LendsEntries bibliography entries =
    follows bibliography_row (Array entry_row 0) bibliography.ghost_name (iter_mut_name entries)
    (with_entries bibliography.now)
